-- Where a writer of listings goes from a row: to the row of its first child, and to that of its next sibling. No public promise rests on it.
-- Assumes nothing.
use Rattle.std.specs.Prelude.{◌≡◌, true, not, List, reverse, ℕ, suc, ◌≤◌, ◌<◌, length, get_or}
use Rattle.model.specs.declared.Cap.{Cap}
use Rattle.model.specs.Lists.{all}
use Rattle.model.specs.Table.{named, rows_in_order}
use Rattle.table.specs.Rows.{name_at, parent_at}

-- the live rows of a table in order, by rising name, whatever number was issued
pub record Live (rows : List Cap) : Type 0 where
  pub names : all (λ c. not (named 0 c)) rows ≡ true
  pub rises : rows_in_order 1000001 (reverse rows) ≡ true

-- b is the first row from a on whose parent is p, or the number of rows where there is none
pub record Next (rows : List Cap) (p a b : ℕ) : Type 0 where
  pub from : a ≤ b
  pub inside : b ≤ length rows
  pub gap : (k : ℕ) → a ≤ k → k < b → parent_at rows k ≡ p → ⊥
  pub own : b < length rows → parent_at rows b ≡ p

-- first has each row's first child, and behind the last row the first root; next has each row's next sibling
pub record Linked (rows : List Cap) (first next : List ℕ) : Type 0 where
  pub children : (j : ℕ) → j ≤ length rows → Next rows (name_at rows j) 0 (get_or first j 0)
  pub later : (j : ℕ) → j < length rows → j < get_or first j 0
  pub siblings : (i : ℕ) → i < length rows → Next rows (parent_at rows i) (suc i) (get_or next i 0)
