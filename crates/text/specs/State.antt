-- Card 11, "states to come back to", and card 10: the one spelling of a mark and of a back by a domain, what a line reads as, and what the writers
-- leave. Both are spelled alike in both spellings of events.
-- Assumes nothing.
use Rattle.std.specs.Prelude.{ℕ, Bool, not, cond, ◌&&◌, List, [], ◌∷◌, ◌++◌, Err, Ok, Result as Returned}
use Rattle.model.specs.declared.Refusal.{Refusal}
use Rattle.model.specs.Answers.{number}
use Rattle.model.specs.Refusals.{not_a_slot}
use Rattle.model.specs.declared.Asked.{Asked}
use Rattle.model.specs.declared.Asked.TheVariants as asked
use Rattle.text.specs.Result.{Result, value, refused}
use Rattle.text.specs.Line.{after_space}
use Rattle.text.specs.Decimal.{number_of}
use Rattle.text.specs.Event.{bytes, spaced, front, back}
use Rattle.text.specs.Write.{written, stored, Outcome, too_long}
use Rattle.text.specs.Read.{same, actor_of, form_of}

-- "`(mark K)` with K from 0 to 7", "`(back K)`": a mark or back of a slot by a domain has a spelling when it is not refused in itself, "K above 7 is 2"
abbrev pub slot_spelled : ℕ → ℕ → Bool
slot_spelled actor k = not (not_a_slot actor k)

-- a word and a slot, by the domain that acts, ended by byte 10
unfoldable pub spell_slot : List ℕ → ℕ → ℕ → List ℕ
spell_slot word actor k = front actor ++ (word ++ (spaced (k ∷ []) ++ back actor))

abbrev pub mark_word : List ℕ
mark_word = bytes "(mark"

abbrev pub back_word : List ℕ
back_word = bytes "(back"

abbrev pub spell_mark : ℕ → ℕ → List ℕ
spell_mark = spell_slot mark_word

abbrev pub spell_back : ℕ → ℕ → List ℕ
spell_back = spell_slot back_word

-- The one slot that a form can name. Nothing is refused here. That it misses no spelling is proved in proofs/Laws/State.
abbrev pub slot_of : List ℕ → ℕ
slot_of s = number_of (after_space s)

-- a line is the spelling of a word and a slot by a domain
abbrev pub is_slot_spelling : List ℕ → List ℕ → ℕ → ℕ → Bool
is_slot_spelling word s actor k = slot_spelled actor k && same s (spell_slot word actor k)

-- the mark or the back whose spelling a line is, or refusal 2
unfoldable pub read_state : List ℕ → Result Asked
read_state s =
    let actor = actor_of s in
    let k = slot_of (form_of s) in
    cond (is_slot_spelling mark_word s actor k) (value (asked.Mark actor k))
    (cond (is_slot_spelling back_word s actor k) (value (asked.Back actor k)) (refused 2))

-- the answer that each case of the code's answer stands for
abbrev pub state_answer : Returned Asked Refusal → Result Asked
state_answer (Ok a) = value a
state_answer (Err f) = refused (number f)

-- a word and a slot by a domain written into the buffer out: the line, or refusal 2 where there is no such domain or slot, or 11
unfoldable pub write_slot : List ℕ → ℕ → ℕ → List ℕ → Outcome
write_slot word actor k out =
    let s = spell_slot word actor k in
    record { answer = written (slot_spelled actor k) s out; buffer = stored (slot_spelled actor k) s out }

abbrev pub write_mark : ℕ → ℕ → List ℕ → Outcome
write_mark = write_slot mark_word

abbrev pub write_back : ℕ → ℕ → List ℕ → Outcome
write_back = write_slot back_word

-- What the writer of a mark or back refuses, in order of precedence. That it is the number that `write_mark` and `write_back` give is proved in
-- proofs/Laws/Precedence.
unfoldable pub write_slot_refusals : List ℕ → ℕ → ℕ → List ℕ → List (ℕ × Bool)
write_slot_refusals word actor k out = (2, not (slot_spelled actor k)) ∷ (11, too_long (spell_slot word actor k) out) ∷ []
