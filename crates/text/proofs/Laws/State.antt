-- Laws of the reader and the writers of marks and backs, whose lines differ in their word alone: what has a line, how long it is, which slot is
-- guessed of it, and what the writer's answer tells.
-- Assumes nothing.
use Rattle.std.specs.Prelude.{Result}
use Rattle.model.specs.declared.Refusal.{Refusal}
use mathlib.Core.Path.{◌≡◌, refl, ap, ◌∙◌}
use mathlib.Core.Bool.{Bool, true, false, not, ◌||◌}
use mathlib.Core.List.{List, [], ◌∷◌, ◌++◌}
use Prim.Native.Nat.{ℕ, ◌^◌, ◌≤◌, ◌<◌}
use native.Mathlib.Omega.{arith}
use lib.Dec.{ltb}
use lib.ListN.{length, get_or, length-append}
use borrow.Author.Tests.{eqb-false, ltb-true, ltb-false}
use Rattle.model.proofs.Offered.{clash}
use Rattle.model.specs.Table.{is_domain}
use Rattle.text.specs.Decimal.{decimal}
use Rattle.text.specs.Class.{class_of}
use Rattle.text.specs.Line.{through, push, lines_of, parts_of}
use Rattle.text.specs.Event.{spaced, back}
use Rattle.text.specs.Read.{actor_of, form_of}
use Rattle.text.specs.Write.{Writes, Outcome, outcome}
use Rattle.text.specs.State.{slot_spelled, spell_slot, mark_word, back_word, slot_of, write_slot}
use Rattle.text.proofs.Laws.Digits.{decimal_under}
use Rattle.text.proofs.Laws.Words.{Plain, next, number_is}
use Rattle.text.proofs.Laws.Acting.{back_stops, around_short, actor_back, form_back}
use Rattle.text.proofs.Laws.OneLine.{Ends, numbers_end, back_ends, front_end}

-- ---- what has a line

-- what has one is asked for by a domain, and its slot is one of eight
pub record Slotted (actor k : ℕ) : Type 0 where
  pub domain : is_domain actor ≡ true
  pub below : actor < 64
  pub few : k ≤ 7

pub slotted : (actor k : ℕ) → slot_spelled actor k ≡ true → Slotted actor k
slotted actor k h = go (is_domain actor) (ltb 7 k) refl refl h
  where
    go : (x y : Bool) → is_domain actor ≡ x → ltb 7 k ≡ y → not (not x || y) ≡ true → Slotted actor k
    go true true d f h = clash h refl
    go true false d f h = record { domain = d; below = ltb-true actor 64 d; few = ltb-false 7 k f }
    go false y d f h = clash h refl

-- ---- a line

-- the word of a mark or a back: it has five bytes and no space, its second byte is not that of an `as`, and its third is an a, which is byte 97, as in
-- no other word of a line
pub record SlotWord (word : List ℕ) : Type 0 where
  pub five : length word ≡ 5
  pub plain : Plain word
  pub other : (t : List ℕ) → get_or (word ++ t) 1 0 ≡ 97 → ⊥
  pub third : (t : List ℕ) → get_or (word ++ t) 2 0 ≡ 97
  pub ends : (e : List ℕ) → Ends e → Ends (word ++ e)

pub mark_word_lem : SlotWord mark_word
unfolding through parts_of push class_of
mark_word_lem = record { five = refl; plain = λ t. refl; other = λ t. eqb-false 109 97 refl; third = λ t. refl; ends = λ e h t. rw (h t) }

pub back_word_lem : SlotWord back_word
unfolding through parts_of push class_of
back_word_lem = record { five = refl; plain = λ t. refl; other = λ t. eqb-false 98 97 refl; third = λ t. refl; ends = λ e h t. rw (h t) }

-- the longest is `(as 63 (mark 7))` with its newline
pub slot_short : (word : List ℕ) (actor k : ℕ) → length word ≡ 5 → slot_spelled actor k ≡ true → length (spell_slot word actor k) ≤ 17
unfolding spell_slot spaced
slot_short word actor k five spelled =
    let s = slotted actor k spelled in
    let digit : length (decimal k) ≤ 1 = decimal_under k 0 (omega (arith, s.few)) in
    simp length-append (omega (arith, around_short actor s.domain))

module _ (word : List ℕ) (w : SlotWord word) (actor k : ℕ) where
  abbrev form : List ℕ
  form = word ++ (spaced (k ∷ []) ++ back actor)

  -- the lines of a text that begins with it are that and the lines of the rest
  pub slot_is_line : (t : List ℕ) → lines_of (spell_slot word actor k ++ t) ≡ spell_slot word actor k ∷ lines_of t
  unfolding spell_slot
  slot_is_line = front_end form (w.ends (spaced (k ∷ []) ++ back actor) (numbers_end (k ∷ []) (back actor) (back_ends actor))) actor

  -- who acts, the form and the slot are found again
  module _ (spelled : slot_spelled actor k ≡ true) where
    small : actor < 2 ^ 32
    small = omega (arith, (slotted actor k spelled).below)

    pub slot_actor : actor_of (spell_slot word actor k) ≡ actor
    unfolding spell_slot
    slot_actor = actor_back actor small form (w.other (spaced (k ∷ []) ++ back actor))

    pub slot_form : form_of (spell_slot word actor k) ≡ form
    unfolding spell_slot
    slot_form = form_back actor small form (w.other (spaced (k ∷ []) ++ back actor))

    pub slot_found : slot_of (form_of (spell_slot word actor k)) ≡ k
    slot_found =
        ap slot_of slot_form
        ∙ number_is (back actor) (back_stops actor) k [] (omega (arith, (slotted actor k spelled).few)) (next (back actor) (back_stops actor) word w.plain k [])

    pub slot_third : get_or (form_of (spell_slot word actor k)) 2 0 ≡ 97
    slot_third = ap (λ (f : List ℕ). get_or f 2 0) slot_form ∙ w.third (spaced (k ∷ []) ++ back actor)

-- ---- the writer

module _ (word : List ℕ) (actor k : ℕ) {out after : List ℕ} {r : Result ℕ Refusal} where
  pub slot_written : Writes (slot_spelled actor k) (spell_slot word actor k) out after r → outcome r after ≡ write_slot word actor k out
  unfolding write_slot
  slot_written w = λ i. record { answer = w.answer i; buffer = w.buffer i }

  pub written_slot : outcome r after ≡ write_slot word actor k out → Writes (slot_spelled actor k) (spell_slot word actor k) out after r
  unfolding write_slot
  written_slot e = record { answer = ap (λ (o : Outcome). o.answer) e; buffer = ap (λ (o : Outcome). o.buffer) e }
