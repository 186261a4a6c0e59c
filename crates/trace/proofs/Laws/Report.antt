-- The listing behind the line of an answer.
-- Assumes nothing.
use Rattle.std.specs.Prelude.{Err, Ok, Result}
use mathlib.Core.Path.{◌≡◌, refl, sym, ap, ap₂, ◌∙◌, subst}
use mathlib.Core.Bool.{Bool, true, false, cond}
use mathlib.Core.List.{List, [], ◌∷◌, ◌++◌, map, append_assoc, append-nil}
use Prim.Native.Nat.{ℕ, zero, suc, ◌+◌, ◌-◌, ◌≤◌, ◌<◌}
use native.Mathlib.Nat.{zero-add}
use native.Mathlib.Omega.{arith}
use lib.Dec.{leb}
use lib.ListN.{length, replicate, take, drop, length-append, length-drop, take-append-drop, drop_of_length-le}
use lib.Seq.{sets-eq, take_all, drop-drop, drop_at, length-take-le}
use borrow.Author.Tests.{le-leb, lt-leb, leb-true, leb-false, eq-eqb, ne_eqb}
use Rattle.model.specs.Requests.{Unlimited}
use Rattle.model.specs.declared.Cap.{Cap}
use Rattle.model.specs.declared.Refusal.{Refusal}
use Rattle.model.specs.Answers.{number}
use Rattle.model.specs.Table.{empty_row, in_order}
use Rattle.model.specs.declared.Sheet.{Sheet}
use Rattle.model.specs.Sheet6.{sheet6}
use Rattle.model.specs.Slots.{Memory, Slot}
use Rattle.model.specs.Step.{State}
use Rattle.model.proofs.Offered.{order_fresh}
use Rattle.table.proofs.Offered.{bytes6_is}
use Rattle.table.specs.Words.{cap_of, rows_in}
use Rattle.table.specs.Sheets.{sheet_in, bytes6}
use Rattle.rules.specs.Steps.{lends}
use Rattle.text.specs.Event.{bytes, line}
use Rattle.text.specs.Result.{value, refused}
use Rattle.text.specs.Put.{Room, Put}
use Rattle.text.specs.Write.{written_answer, written, stored, Writes}
use Rattle.listing.specs.Listing.{listing}
use Rattle.listing.specs.WriteListing.{listing_written, listing_stored, WritesListing}
use Rattle.trace.specs.declared.run.RefusedAt.{RefusedAt}
use Rattle.trace.specs.declared.run.RunOutcome.{RunOutcome}
use Rattle.trace.specs.Run.{Ran, run, ran_of, Runs}
use Rattle.trace.specs.Check.{answer_line, report, no_counts, begins, check_with, stored_with}
use Rattle.trace.proofs.Laws.Order.{order_run, number_run}

-- the listing of a table in order is written
pub listing_writes : {rows : List Cap} {issued : ℕ} {out after : List ℕ} {r : Result ℕ Refusal} → in_order rows issued ≡ true → WritesListing rows issued out after r → Writes true (listing rows issued) out after r
unfolding listing_written listing_stored
listing_writes o w = record { answer = w.answer ∙ rw o; buffer = w.buffer ∙ rw o }

-- the text first goes at the first bytes of out, and the text second was to be written behind it
module _ (first second out : List ℕ) (k : ℕ) (is : k ≡ length first) (fits : k ≤ length out) {tail : List ℕ} {r : Result ℕ Refusal} (wrote : Writes true second (take (length out - k) (drop k out)) tail r) where
  w : Writes true second (drop k out) tail r
  w = subst (λ (l : List ℕ). Writes true second l tail r) (take_all (length out - k) (drop k out) (omega (arith, length-drop k out))) wrote

  -- the buffer with the part behind k come back
  abbrev back : List ℕ
  back = take k out ++ (tail ++ drop (length out - k) (drop k out))

  back_is : back ≡ take k out ++ tail
  back_is =
      let end : length (drop k out) ≤ length out - k = omega (arith, length-drop k out) in
      ap (λ (l : List ℕ). take k out ++ (tail ++ l)) (drop_of_length-le (drop k out) end) ∙ ap (λ (l : List ℕ). take k out ++ l) (append-nil tail)

  front : length (take k out) ≡ k
  front = length-take-le k out fits

  both : length (first ++ second) ≡ k + length second
  both = omega (arith, length-append first second)

  pub behind_room : Room back 0 first
  behind_room = omega (arith, ap length back_is, length-append (take k out) tail, front)

  -- it does not fit: nothing was written
  pub behind_none : {f : Refusal} → r ≡ Err f → Writes true (first ++ second) out back (Err f)
  unfolding written stored
  behind_none {f} e = go (leb (length second) (length (drop k out))) refl (ap written_answer (sym e) ∙ w.answer) w.buffer
    where
      go : (y : Bool) → leb (length second) (length (drop k out)) ≡ y → refused (number f) ≡ cond y (value (length second)) (refused 11) → tail ≡ cond y (second ++ drop (length second) (drop k out)) (drop k out)
          → Writes true (first ++ second) out back (Err f)
      go true h a b = absurd (let z : ◌≡◌ {A = ℕ} 0 1 = cc in omega arith)
      go false h a b =
          let short : leb (length (first ++ second)) (length out) ≡ false = lt-leb (length (first ++ second)) (length out) (omega (arith, leb-false (length second) (length (drop k out)) h, length-drop k out, both)) in
          record { answer = rw short a; buffer = rw short (back_is ∙ ap (λ (l : List ℕ). take k out ++ l) b ∙ take-append-drop k out) }

  -- it fits
  pub behind_fits : {n : ℕ} → r ≡ Ok n → k + n ≤ length out
  unfolding written
  behind_fits {n} e = go (leb (length second) (length (drop k out))) refl (ap written_answer (sym e) ∙ w.answer)
    where
      go : (y : Bool) → leb (length second) (length (drop k out)) ≡ y → value n ≡ cond y (value (length second)) (refused 11) → k + n ≤ length out
      go true h a = let count : n ≡ length second = cc in omega (arith, leb-true (length second) (length (drop k out)) h, length-drop k out)
      go false h a = absurd (let z : ◌≡◌ {A = ℕ} 0 1 = cc in omega arith)

  -- and then the first text was put
  pub behind_all : {n p : ℕ} {after : List ℕ} → r ≡ Ok n → Put back 0 first after p → Writes true (first ++ second) out after (Ok (k + n))
  unfolding written stored
  behind_all {n} {p} {after} e put = go (leb (length second) (length (drop k out))) refl (ap written_answer (sym e) ∙ w.answer) w.buffer
    where
      go : (y : Bool) → leb (length second) (length (drop k out)) ≡ y → value n ≡ cond y (value (length second)) (refused 11) → tail ≡ cond y (second ++ drop (length second) (drop k out)) (drop k out)
          → Writes true (first ++ second) out after (Ok (k + n))
      go true h a b =
          let count : n ≡ length second = cc in
          let room : leb (length (first ++ second)) (length out) ≡ true = le-leb (length (first ++ second)) (length out) (omega (arith, leb-true (length second) (length (drop k out)) h, length-drop k out, both)) in
          let begins : after ≡ first ++ tail = put.stored ∙ sets-eq first back 0 behind_room ∙ ap₂ (λ (i : ℕ) (l : List ℕ). first ++ drop i l) (zero-add (length first)) back_is ∙ ap (λ (l : List ℕ). first ++ l) (drop_at (take k out) tail (length first) (front ∙ is)) in
          let ends : drop (length second) (drop k out) ≡ drop (length (first ++ second)) out = drop-drop (length second) k out ∙ ap (λ (i : ℕ). drop i out) (sym both) in
          record {
            answer = rw room (ap value (omega (arith, both)));
            buffer = rw room (begins ∙ ap (λ (l : List ℕ). first ++ l) (b ∙ ap (λ (l : List ℕ). second ++ l) ends) ∙ sym (append_assoc first second (drop (length (first ++ second)) out)));
          }
      go false h a b = absurd (let z : ◌≡◌ {A = ℕ} 0 1 = cc in omega arith)

-- ---- the line of an answer

pub answer_allowed : (r n : ℕ) → r ≡ 0 → answer_line r n ≡ line "(allowed" (n ∷ []) (bytes ")\n")
unfolding answer_line
answer_allowed r n e = rw (eq-eqb r 0 e)

pub answer_refused : (r n : ℕ) → (r ≡ 0 → ⊥) → answer_line r n ≡ line "(refused" (r ∷ n ∷ []) (bytes ")\n")
unfolding answer_line
answer_refused r n e = rw (ne_eqb r 0 e)

pub length_line : (word numbers : List ℕ) → length word ≡ 8 → length (word ++ (numbers ++ bytes ")\n")) ≡ 10 + length numbers
length_line word numbers e = simp length-append (omega arith)

-- ---- the report of a run

module _ (slots : List (Slot Memory)) (input : List ℕ) (l : 65536 < length input) where
  pub long_text : bytes "(long)\n" ≡ check_with slots input
  unfolding check_with
  long_text = sym (rw (lt-leb (length input) 65536 l))

  pub long_stored : slots ≡ stored_with slots input
  unfolding stored_with
  long_stored = sym (rw (lt-leb (length input) 65536 l))

-- a row whose words are zeros
abbrev pub zero_row : List ℕ
zero_row = replicate 11 0

-- 1,024 of them are 1,024 empty rows
abbrev pub zeros : List (List ℕ)
zeros = replicate 1024 zero_row

rows_empty : (n : ℕ) → map cap_of (replicate n zero_row) ≡ replicate n empty_row
rows_empty zero = refl
rows_empty (suc n) = ap (λ (l : List Cap). empty_row ∷ l) (rows_empty n)

empty_rows : rows_in zeros ≡ replicate 1024 empty_row
unfolding rows_in
empty_rows = rows_empty 1024

-- bits of which none is set
abbrev pub no_bits : List ℕ
no_bits = replicate 8192 0

module _ (slots : List (Slot Memory)) where
  pub ran_is : {bytes input : List ℕ} {ws' : List (List ℕ)} {bs' : List ℕ} {slots' : List (Slot Memory)} {r : RunOutcome} → bytes ≡ bytes6 → Runs (sheet_in bytes) Unlimited zeros no_bits slots no_counts input ws' bs' slots' r → {a : Result ℕ RefusedAt} → r.answer ≡ a
      → ran_of a (lends (rows_in ws') bs' slots' r.tally) ≡ run sheet6 Unlimited (begins slots) input
  ran_is {bytes} {input} {ws'} {bs'} {slots'} {r} six k e =
      ap (λ (a : Result ℕ RefusedAt). ran_of a (lends (rows_in ws') bs' slots' r.tally)) (sym e) ∙ k.ran
      ∙ ap₂ (λ (sheet : Sheet) (t : List Cap). run sheet Unlimited (lends t no_bits slots no_counts) input) (ap sheet_in six ∙ bytes6_is) empty_rows

  module _ (input : List ℕ) (s : Ran State) (is : s ≡ run sheet6 Unlimited (begins slots) input) where
    pub ran_order : in_order s.state.memory.table s.state.tally.issued ≡ true
    ran_order = ap (λ (r : Ran State). in_order r.state.memory.table r.state.tally.issued) is ∙ order_run sheet6 Unlimited (begins slots) input (order_fresh 1024 no_counts (omega arith) refl)

    pub ran_number : s.number ≤ length input
    ran_number = omega (arith, ap (λ (r : Ran State). r.number) is, number_run sheet6 Unlimited (begins slots) input)

    pub ran_report : length input ≤ 65536 → report s ≡ check_with slots input
    unfolding check_with
    ran_report l = ap report is ∙ sym (rw (le-leb (length input) 65536 l))

    pub ran_stored : length input ≤ 65536 → s.state.slots ≡ stored_with slots input
    unfolding stored_with
    ran_stored l = ap (λ (r : Ran State). r.state.slots) is ∙ sym (rw (le-leb (length input) 65536 l))
