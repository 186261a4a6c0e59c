-- The theorems about the lines of marks and backs: what is written reads back to the same mark or back, a line that is read is the spelling of what
-- was read, and two of them never share a spelling. It is one line, and no event's and no group's.
-- Assumes nothing.
use mathlib.Core.Path.{◌≡◌, refl, sym, subst, ap, ◌∙◌}
use mathlib.Core.Logic.{⊎_elim}
use mathlib.Core.Bool.{Bool, true, false, cond}
use mathlib.Core.List.{List, ◌∷◌, ◌++◌}
use Prim.Native.Nat.{ℕ, ◌≤◌, ◌<◌}
use native.Mathlib.Omega.{arith}
use lib.ListN.{length, get_or, take}
use borrow.Author.Tests.{eqb-false}
use Rattle.model.proofs.Offered.{and_both, test}
use Rattle.model.specs.declared.Asked.{Asked}
use Rattle.model.specs.declared.Asked.TheVariants as asked
use Rattle.model.specs.declared.Event.{Event}
use Rattle.model.specs.declared.Event.TheVariants.{Create, Borrow, Read, Write, Drop}
use Rattle.text.specs.Result.{Result, value, refused}
use Rattle.text.specs.Class.{class_of}
use Rattle.text.specs.Line.{through, lines_of}
use Rattle.text.specs.Decimal.{numeral, decimal, number_from}
use Rattle.text.specs.Event.{bytes, spaced, form}
use Rattle.text.specs.Write.{written, stored}
use Rattle.text.specs.Read.{same, actor_of, form_of, read_event}
use Rattle.text.specs.Group.{read_group}
use Rattle.text.specs.State.{slot_spelled, spell_slot, mark_word, back_word, spell_mark, spell_back, slot_of, is_slot_spelling, read_state, write_slot, write_mark, write_back}
use Rattle.text.specs.declared.spelling.Spelling.{Spelling}
use Rattle.text.proofs.Laws.Read.{same_refl, same_true}
use Rattle.text.proofs.Laws.Write.{wrote}
use Rattle.text.proofs.Laws.OneSpelling.{form_found as event_form, read_is_spelling, refused_is_2, only_2}
use Rattle.text.proofs.Laws.GroupLine.{form_found as group_form, read_group_is_spelling, refused_group_is_2}
use Rattle.text.proofs.Laws.State.{slotted, mark_word_lem, back_word_lem, slot_is_line, slot_actor, slot_form, slot_found, slot_third, slot_short, written_slot}

-- what is asked is a mark or a back that has a line, and this is it
abbrev pub StateLine : Asked → List ℕ → Type 0
StateLine (asked.Work w) s = ⊥
StateLine (asked.Mark actor k) s = (slot_spelled actor k ≡ true) × (s ≡ spell_mark actor k)
StateLine (asked.Back actor k) s = (slot_spelled actor k ≡ true) × (s ≡ spell_back actor k)

-- ---- reading what is written

module _ (actor k : ℕ) (spelled : slot_spelled actor k ≡ true) where
  -- a back's second byte is that of no mark's line
  back_is_no_mark : spell_back actor k ≡ spell_mark actor k → ⊥
  back_is_no_mark h =
      let second : ◌≡◌ {A = ℕ} 98 109 =
      ap (λ (f : List ℕ). get_or f 1 0) (sym (slot_form back_word back_word_lem actor k spelled) ∙ ap form_of h ∙ slot_form mark_word mark_word_lem actor k spelled) in
      omega arith

  pub mark_reads_back : read_state (spell_mark actor k) ≡ value (asked.Mark actor k)
  unfolding read_state
  mark_reads_back = rw (slot_actor mark_word mark_word_lem actor k spelled, slot_found mark_word mark_word_lem actor k spelled, spelled, same_refl (spell_mark actor k))

  pub back_reads_back : read_state (spell_back actor k) ≡ value (asked.Back actor k)
  unfolding read_state
  back_reads_back =
      rw (slot_actor back_word back_word_lem actor k spelled, slot_found back_word back_word_lem actor k spelled, spelled, same_refl (spell_back actor k))
      (⊎_elim (λ t. absurd (back_is_no_mark (same_true (spell_back actor k) (spell_mark actor k) t))) (λ f. rw f) (test (same (spell_back actor k) (spell_mark actor k))))

-- the line of a mark or a back reads as it
pub state_reads_back : (a : Asked) (s : List ℕ) → StateLine a s → read_state s ≡ value a
state_reads_back (asked.Work w) s h = absurd h
state_reads_back (asked.Mark actor k) s h = ap read_state h.1 ∙ mark_reads_back actor k h.0
state_reads_back (asked.Back actor k) s h = ap read_state h.1 ∙ back_reads_back actor k h.0

-- the line that was written reads back to the same mark or back
module _ (actor k : ℕ) (out : List ℕ) (n : ℕ) where
  pub written_line : (word : List ℕ) → (write_slot word actor k out).answer ≡ value n → (slot_spelled actor k ≡ true) × (take n (write_slot word actor k out).buffer ≡ spell_slot word actor k)
  written_line word h =
      let w = wrote n (written_slot word actor k (λ i. record { answer = sym h i; buffer = (write_slot word actor k out).buffer })) refl in
      (w.was, w.front)

  pub written_mark_reads_back : (write_mark actor k out).answer ≡ value n → read_state (take n (write_mark actor k out).buffer) ≡ value (asked.Mark actor k)
  written_mark_reads_back h = state_reads_back (asked.Mark actor k) _ (written_line mark_word h)

  pub written_back_reads_back : (write_back actor k out).answer ≡ value n → read_state (take n (write_back actor k out).buffer) ≡ value (asked.Back actor k)
  written_back_reads_back h = state_reads_back (asked.Back actor k) _ (written_line back_word h)

-- ---- what is read

-- a line that is read is the spelling of what was read
pub read_state_is_spelling : (s : List ℕ) (a : Asked) → read_state s ≡ value a → StateLine a s
unfolding read_state
read_state_is_spelling s a h = go (is_slot_spelling mark_word s by slot) (is_slot_spelling back_word s by slot) refl refl h
  where
    by : ℕ
    by = actor_of s

    slot : ℕ
    slot = slot_of (form_of s)

    is_line : (word : List ℕ) → is_slot_spelling word s by slot ≡ true → (slot_spelled by slot ≡ true) × (s ≡ spell_slot word by slot)
    is_line word t =
        let both = and_both (slot_spelled by slot) (same s (spell_slot word by slot)) t in
        (both.0, same_true s (spell_slot word by slot) both.1)

    go : (x y : Bool) → is_slot_spelling mark_word s by slot ≡ x → is_slot_spelling back_word s by slot ≡ y
        → cond x (value (asked.Mark by slot)) (cond y (value (asked.Back by slot)) (refused 2)) ≡ value a → StateLine a s
    go true y p q h = let read : asked.Mark by slot ≡ a = cc in subst (λ (x : Asked). StateLine x s) read (is_line mark_word p)
    go false true p q h = let read : asked.Back by slot ≡ a = cc in subst (λ (x : Asked). StateLine x s) read (is_line back_word q)
    go false false p q h = absurd (let z : ◌≡◌ {A = ℕ} 0 1 = cc in omega arith)

-- a line that is not read is refusal 2
pub refused_state_is_2 : (s : List ℕ) (n : ℕ) → read_state s ≡ refused n → n ≡ 2
unfolding read_state
refused_state_is_2 s n h = go (is_slot_spelling mark_word s (actor_of s) (slot_of (form_of s))) (is_slot_spelling back_word s (actor_of s) (slot_of (form_of s))) h
  where
    go : (x y : Bool) → cond x (value (asked.Mark (actor_of s) (slot_of (form_of s)))) (cond y (value (asked.Back (actor_of s) (slot_of (form_of s)))) (refused 2)) ≡ refused n → n ≡ 2
    go true y h = absurd (let z : ◌≡◌ {A = ℕ} 0 1 = cc in omega arith)
    go false y h = only_2 _ n y h

-- a line that is refused is that of no mark and no back
pub refused_state_is_none : (s : List ℕ) → read_state s ≡ refused 2 → (a : Asked) → StateLine a s → ⊥
refused_state_is_none s h a l = let z : ◌≡◌ {A = ℕ} 0 1 = cc (state_reads_back a s l) in omega arith

-- two with one line are equal
pub state_one_spelling : (a b : Asked) (s : List ℕ) → StateLine a s → StateLine b s → a ≡ b
state_one_spelling a b s la lb =
    let read : ◌≡◌ {A = Result Asked} (value a) (value b) = sym (state_reads_back a s la) ∙ state_reads_back b s lb in cc

-- it is one line with its newline, whatever follows
pub mark_is_line : (actor k : ℕ) (t : List ℕ) → lines_of (spell_mark actor k ++ t) ≡ spell_mark actor k ∷ lines_of t
mark_is_line = slot_is_line mark_word mark_word_lem

pub back_is_line : (actor k : ℕ) (t : List ℕ) → lines_of (spell_back actor k ++ t) ≡ spell_back actor k ∷ lines_of t
back_is_line = slot_is_line back_word back_word_lem

pub state_is_line : (s : List ℕ) (a : Asked) → StateLine a s → (t : List ℕ) → lines_of (s ++ t) ≡ s ∷ lines_of t
state_is_line s (asked.Work w) h t = absurd h
state_is_line s (asked.Mark actor k) h t = rw h.1 (mark_is_line actor k t)
state_is_line s (asked.Back actor k) h t = rw h.1 (back_is_line actor k t)

-- the longest has 17 bytes
pub state_short : (s : List ℕ) (a : Asked) → StateLine a s → length s ≤ 17
state_short s (asked.Work w) h = absurd h
state_short s (asked.Mark actor k) h = rw h.1 (slot_short mark_word actor k refl h.0)
state_short s (asked.Back actor k) h = rw h.1 (slot_short back_word actor k refl h.0)

-- "K above 7 is 2", and so is, by card 10, a domain above 63: neither has a line
module _ (actor k : ℕ) where
  unspelled : (slot_spelled actor k ≡ true → ⊥) → (word out : List ℕ) → write_slot word actor k out ≡ record { answer = refused 2; buffer = out }
  unfolding write_slot written stored
  unspelled none word out = ⊎_elim (λ t. absurd (none t)) (λ f. rw f) (test (slot_spelled actor k))

  pub no_slot_written : 7 < k → (word out : List ℕ) → write_slot word actor k out ≡ record { answer = refused 2; buffer = out }
  no_slot_written h = unspelled (λ t. omega (arith, (slotted actor k t).few))

  pub no_domain_slot_written : 63 < actor → (word out : List ℕ) → write_slot word actor k out ≡ record { answer = refused 2; buffer = out }
  no_domain_slot_written h = unspelled (λ t. omega (arith, (slotted actor k t).below))

  pub mark_read_slotted : (s : List ℕ) → read_state s ≡ value (asked.Mark actor k) → (actor ≤ 63) × (k ≤ 7)
  mark_read_slotted s h =
      let l = slotted actor k (read_state_is_spelling s (asked.Mark actor k) h).0 in
      (omega (arith, l.below), l.few)

  pub back_read_slotted : (s : List ℕ) → read_state s ≡ value (asked.Back actor k) → (actor ≤ 63) × (k ≤ 7)
  back_read_slotted s h =
      let l = slotted actor k (read_state_is_spelling s (asked.Back actor k) h).0 in
      (omega (arith, l.below), l.few)

-- ---- a mark's and a back's line are no event's, and no group's: they alone have an a as the third byte of their form

state_third : (s : List ℕ) (a : Asked) → StateLine a s → get_or (form_of s) 2 0 ≡ 97
state_third s (asked.Work w) h = absurd h
state_third s (asked.Mark actor k) h = rw h.1 (slot_third mark_word mark_word_lem actor k h.0)
state_third s (asked.Back actor k) h = rw h.1 (slot_third back_word back_word_lem actor k h.0)

form_third : (actor : ℕ) (e : Event) → get_or (form actor e) 2 0 ≡ 97 → ⊥
unfolding form
form_third actor (Create w s r) = eqb-false 114 97 refl
form_third actor (Borrow w n s r) = eqb-false 111 97 refl
form_third actor (Read n s) = eqb-false 101 97 refl
form_third actor (Write n s) = eqb-false 114 97 refl
form_third actor (Drop n) = eqb-false 114 97 refl

event_third : (k : Spelling) (s : List ℕ) (g : ℕ × Event) → read_event k s ≡ value g → get_or (form_of s) 2 0 ≡ 97 → ⊥
event_third k s g h third =
    let is = read_is_spelling k s g.0 g.1 h in
    form_third g.0 g.1 (ap (λ (f : List ℕ). get_or f 2 0) (sym (ap form_of is.2 ∙ event_form k g.0 g.1 is.0)) ∙ third)

group_third : (s : List ℕ) (g : ℕ × List ℕ) → read_group s ≡ value g → get_or (form_of s) 2 0 ≡ 97 → ⊥
group_third s g h third =
    let is = read_group_is_spelling s g.0 g.1 h in
    eqb-false 114 97 refl (ap (λ (f : List ℕ). get_or f 2 0) (sym (ap form_of is.3 ∙ group_form g.0 g.1 is.0)) ∙ third)

module _ (s : List ℕ) where
  pub state_is_no_event : (k : Spelling) (a : Asked) → StateLine a s → read_event k s ≡ refused 2
  state_is_no_event k a h = go (read_event k s) refl
    where
      go : (r : Result (ℕ × Event)) → read_event k s ≡ r → r ≡ refused 2
      go (value g) e = absurd (event_third k s g e (state_third s a h))
      go (refused n) e = ap refused (refused_is_2 k s n e)

  pub state_is_no_group : (a : Asked) → StateLine a s → read_group s ≡ refused 2
  state_is_no_group a h = go (read_group s) refl
    where
      go : (r : Result (ℕ × List ℕ)) → read_group s ≡ r → r ≡ refused 2
      go (value g) e = absurd (group_third s g e (state_third s a h))
      go (refused n) e = ap refused (refused_group_is_2 s n e)

  -- and the other way round
  no_third : (get_or (form_of s) 2 0 ≡ 97 → ⊥) → read_state s ≡ refused 2
  no_third other = go (read_state s) refl
    where
      go : (r : Result Asked) → read_state s ≡ r → r ≡ refused 2
      go (value a) e = absurd (other (state_third s a (read_state_is_spelling s a e)))
      go (refused n) e = ap refused (refused_state_is_2 s n e)

  pub event_is_no_state : (k : Spelling) (g : ℕ × Event) → read_event k s ≡ value g → read_state s ≡ refused 2
  event_is_no_state k g h = no_third (event_third k s g h)

  pub group_is_no_state : (g : ℕ × List ℕ) → read_group s ≡ value g → read_state s ≡ refused 2
  group_is_no_state g h = no_third (group_third s g h)

-- card 1: the line that tells that names are written out is no mark and no back
pub header_is_no_state : read_state (bytes "(trace 2)\n") ≡ refused 2
unfolding read_state through class_of number_from same spell_slot spaced decimal numeral
header_is_no_state = refl
