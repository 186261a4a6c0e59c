-- Empty rows behind the rows of a table: it is in order when it is without them, and has the same live rows.
-- Assumes nothing.
use mathlib.Core.Path.{◌≡◌, refl, sym, ap, ap₂, ◌∙◌}
use mathlib.Core.Bool.{Bool, true, cond, not, ◌&&◌}
use mathlib.Core.List.{List, [], ◌∷◌, ◌++◌, reverse, reverse-reverse}
use Prim.Native.Nat.{ℕ, zero, suc, ◌-◌, ◌≤◌}
use native.Mathlib.Omega.{arith}
use lib.Dec.{leb}
use lib.ListN.{length, replicate, length-append}
use borrow.Author.Tests.{le-leb}
use Rattle.model.specs.declared.Cap.{Cap}
use Rattle.model.specs.Lists.{filter, cons_if, all}
use Rattle.model.specs.Table.{empty_row, named, is_empty_row, live_rows, live_rows_first, lent_table, rows_in_order, in_order}
use Rattle.table.specs.Words.{rows_in}
use Rattle.listing.specs.First.{first_rows}
use Rattle.table.proofs.Offered.{length_in_lem}
use Rattle.listing.specs.Stored.{newest, Stored}

zeros_empty : (k : ℕ) → all is_empty_row (replicate k empty_row) ≡ true
unfolding is_empty_row
zeros_empty zero = refl
zeros_empty (suc k) = zeros_empty k

all_more : (rows : List Cap) (k : ℕ) → all is_empty_row (rows ++ replicate k empty_row) ≡ all is_empty_row rows
all_more [] k = zeros_empty k
all_more (c ∷ rows) k = ap (λ (b : Bool). is_empty_row c && b) (all_more rows k)

first_more : (rows : List Cap) (k : ℕ) → live_rows_first (rows ++ replicate k empty_row) ≡ live_rows_first rows
unfolding live_rows_first is_empty_row
first_more [] zero = refl
first_more [] (suc k) = zeros_empty k
first_more (c ∷ rows) k = ap₂ (cond (named 0 c)) (all_more (c ∷ rows) k) (first_more rows k)

filter_more : (rows : List Cap) (k : ℕ) → filter (λ c. not (named 0 c)) (rows ++ replicate k empty_row) ≡ filter (λ c. not (named 0 c)) rows
filter_more [] zero = refl
filter_more [] (suc k) = filter_more [] k
filter_more (c ∷ rows) k = ap (cons_if (not (named 0 c)) c) (filter_more rows k)

live_more : (rows : List Cap) (k : ℕ) → live_rows (rows ++ replicate k empty_row) ≡ live_rows rows
unfolding live_rows
live_more rows k = ap reverse (filter_more rows k)

order_more : (rows : List Cap) (k issued : ℕ) → length (rows ++ replicate k empty_row) ≤ 1024 → in_order (rows ++ replicate k empty_row) issued ≡ in_order rows issued
unfolding in_order
order_more rows k issued few =
    let fewer : length rows ≤ 1024 = omega (arith, length-append rows (replicate k empty_row)) in
    let sizes : leb (length (rows ++ replicate k empty_row)) 1024 ≡ leb (length rows) 1024 = le-leb _ _ few ∙ sym (le-leb _ _ fewer) in
    λ i. sizes i && first_more rows k i && leb issued 1000000 && rows_in_order (suc issued) (live_more rows k i)

-- a table of which only the first count rows were stored
module _ {ws : List (List ℕ)} {count : ℕ} (st : Stored ws count) where
  stored_rows : rows_in ws ≡ first_rows ws count ++ replicate (1024 - length (newest ws count)) empty_row
  unfolding lent_table
  stored_rows =
      st.table
      ∙ ap (λ (t : List Cap). t ++ replicate (1024 - length (newest ws count)) empty_row) (reverse-reverse (first_rows ws count))

  pub stored_live : live_rows (rows_in ws) ≡ live_rows (first_rows ws count)
  stored_live = ap live_rows stored_rows ∙ live_more (first_rows ws count) (1024 - length (newest ws count))

  pub stored_order : (issued : ℕ) → in_order (rows_in ws) issued ≡ in_order (first_rows ws count) issued
  stored_order issued =
      ap (λ (t : List Cap). in_order t issued) stored_rows
      ∙ order_more (first_rows ws count) (1024 - length (newest ws count)) issued (omega (arith, ap length stored_rows, length_in_lem ws, st.long))
