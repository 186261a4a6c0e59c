-- Document 01, "The bracket text", before any card added to it: which events have a spelling in its form, and what a line in that form reads as.
-- Assumes nothing.
use Rattle.std.specs.Prelude.{ℕ, Bool, cond, ◌&&◌, List, [], ◌∷◌, ◌++◌, eqb, Err, Ok, Option, Result as Returned}
use Rattle.model.specs.declared.Name.{Name}
use Rattle.model.specs.declared.Refusal.{Refusal}
use Rattle.model.specs.Table.{is_right}
use Rattle.model.specs.Answers.{number}
use Rattle.model.specs.declared.Terms.{Terms}
use Rattle.model.specs.declared.Event.{Event}
use Rattle.model.specs.declared.Event.TheVariants.{Create, Borrow, Read, Write, Drop}
use Rattle.text.specs.Result.{Result, value, refused}
use Rattle.text.specs.Event.{bytes, line, span_numbers, right_word, spell, writes_name, has_spelling}
use Rattle.text.specs.Read.{same, read_event}
use Rattle.text.specs.declared.spelling.Spelling.TheVariants.{Plain}

-- Document 01, "The bracket text": "`(create START LENGTH RIGHT)`, `(borrow NAME START LENGTH RIGHT)`, `(read NAME START LENGTH)`,
-- `(write NAME START LENGTH)`, `(drop NAME)`", "ended by byte 10". It knows no new names, kinds, marks, domains and masks.
unfoldable pub form01 : Event → List ℕ
form01 (Create w s r) = line "(create" (span_numbers s) (right_word r.right ++ bytes ")\n")
form01 (Borrow w n s r) = line "(borrow" (n.0 ∷ span_numbers s) (right_word r.right ++ bytes ")\n")
form01 (Read n s) = line "(read" (n.0 ∷ span_numbers s) (bytes ")\n")
form01 (Write n s) = line "(write" (n.0 ∷ span_numbers s) (bytes ")\n")
form01 (Drop n) = line "(drop" (n.0 ∷ []) (bytes ")\n")

-- Card 12, "events with a spelling in document 01's form": those that domain 0 spells without a new name, and that are spelled so. What this asks of
-- their values is `in_form_lem` of proofs/Laws/Form.
unfoldable pub in_form : Event → Bool
in_form e = has_spelling Plain 0 e && same (spell 0 e) (form01 e)

-- what document 01's form gives besides a span: a right, to a reference that is not marked and that domain 0 alone holds
abbrev pub plain_terms : ℕ → Terms
plain_terms right = record { right = right; kind = 0; fresh = 0; holders = 1 }

-- a create or borrow gives no more than that, value by value
abbrev pub gives_plainly : Option Name → Terms → Bool
gives_plainly w r = writes_name Plain w && (is_right r.right && (eqb r.kind 0 && (eqb r.fresh 0 && eqb r.holders 1)))

-- the event of a line in document 01's form; any other line is refusal 2, also one that reads as an event by another domain or with a word
-- that a card has added
abbrev pub formed : Result (ℕ × Event) → Result Event
formed (value a) = cond (eqb a.0 0 && in_form a.1) (value a.1) (refused 2)
formed (refused r) = refused r

abbrev pub read_form : List ℕ → Result Event
read_form line = formed (read_event Plain line)

-- the answer that each case of the code's answer stands for
abbrev pub read_form_answer : Returned Event Refusal → Result Event
read_form_answer (Ok e) = value e
read_form_answer (Err f) = refused (number f)
