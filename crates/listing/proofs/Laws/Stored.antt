-- Rows that are stored one behind the other, in a table whose other rows are zeros.
-- Assumes nothing.
use mathlib.Core.Path.{◌≡◌, refl, sym, ap, ap₂, ◌∙◌}
use mathlib.Core.List.{List, [], ◌∷◌, ◌++◌, reverse, reverse_aux, reverse-reverse}
use Prim.Native.Nat.{ℕ, suc, ◌-◌, ◌<◌}
use native.Mathlib.Omega.{arith}
use lib.ListN.{length, set, take, drop, take-append-drop, replicate, length-reverse}
use lib.Seq.{drop_at, take-suc-set}
use Rattle.model.specs.declared.Cap.{Cap}
use Rattle.model.specs.Table.{empty_row, lent_table}
use Rattle.table.specs.Words.{rows_in}
use Rattle.table.proofs.Offered.{length_in_lem}
use Rattle.model.proofs.Offered.{lent_new}
use Rattle.listing.specs.First.{first_rows}
use Rattle.listing.specs.Stored.{newest, Stored}
use Rattle.listing.proofs.Laws.First.{length_first, set_length}

snoc : (l r : List Cap) (x : Cap) → reverse_aux (l ++ (x ∷ [])) r ≡ x ∷ reverse_aux l r
snoc [] r x = refl
snoc (a ∷ l) r x = snoc l (a ∷ r) x

pub length_newest : {ws : List (List ℕ)} {count : ℕ} → Stored ws count → length (newest ws count) ≡ count
length_newest {ws} {count} s = length-reverse (first_rows ws count) ∙ length_first ws count (omega (arith, s.few, s.long))

-- a row set behind those that were stored
module _ {ws : List (List ℕ)} (ws' : List (List ℕ)) {count : ℕ} (row : Cap) (s : Stored ws count) (room : count < 1024) (is : rows_in ws' ≡ set (rows_in ws) count row) where
  pub added_newest : newest ws' (suc count) ≡ row ∷ newest ws count
  added_newest =
      ap reverse (ap (take (suc count)) (is) ∙ take-suc-set (rows_in ws) count row (omega (arith, length_in_lem ws, s.long)))
      ∙ snoc (first_rows ws count) [] row

  pub added : Stored ws' (suc count)
  added = record {
    few = room;
    long = set_length ws ws' count row is ∙ s.long;
    table =
        is
        ∙ ap₂ (λ (t : List Cap) (n : ℕ). set t n row) s.table (sym (length_newest s))
        ∙ sym (lent_new 1024 row (newest ws count) (omega (arith, length_newest s)))
        ∙ ap (lent_table 1024) (sym added_newest);
  }

-- where the rows behind the first count are as they were, those are still the ones that were stored
pub reordered : {ws : List (List ℕ)} (ws' : List (List ℕ)) {count : ℕ} → Stored ws count → length ws' ≡ 1024 → drop count (rows_in ws') ≡ drop count (rows_in ws) → Stored ws' count
unfolding lent_table
reordered {ws} ws' {count} s long behind = record {
  few = s.few;
  long = long;
  table =
      let zeros : ℕ → List Cap = λ n. replicate (1024 - n) empty_row in
      let was : rows_in ws ≡ first_rows ws count ++ zeros count = s.table ∙ ap₂ (λ (r : List Cap) (n : ℕ). r ++ zeros n) (reverse-reverse (first_rows ws count)) (length_newest s) in
      sym (take-append-drop count (rows_in ws'))
      ∙ ap (λ (b : List Cap). first_rows ws' count ++ b) (behind ∙ ap (drop count) was ∙ drop_at (first_rows ws count) (zeros count) count (long_first ws s.long))
      ∙ ap₂ (λ (r : List Cap) (n : ℕ). r ++ zeros n) (sym (reverse-reverse (first_rows ws' count))) (sym (length-reverse (first_rows ws' count) ∙ long_first ws' long));
}
  where
    long_first : (xs : List (List ℕ)) → length xs ≡ 1024 → length (first_rows xs count) ≡ count
    long_first xs e = length_first xs count (omega (arith, s.few))
