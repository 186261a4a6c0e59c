-- What the contracts inside the reader speak of: rows stored one behind the other, and how far a text was read. No public promise rests on it.
-- Assumes nothing.
use Rattle.std.specs.Prelude.{◌≡◌, List, reverse, ℕ, ◌-◌, ◌≤◌, ◌<◌, length, drop}
use Rattle.model.specs.declared.Cap.{Cap}
use Rattle.model.specs.Table.{lent_table}
use Rattle.table.specs.Words.{rows_in}
use Rattle.listing.specs.First.{first_rows}
use Rattle.listing.specs.Forms.{Reading}

-- f k, at every k above μ, reads the text s up to its last bytes, and then has these rows
pub record Reads (f : ℕ → Reading) (μ : ℕ) (s : List ℕ) (left : ℕ) (rows : List Cap) : Type 0 where
  pub inside : left ≤ length s
  pub reads : (k : ℕ) → μ < k → f k ≡ record { rest = drop (length s - left) s; rows = rows }

-- the first count rows of a table, the newest first
abbrev pub newest : List (List ℕ) → ℕ → List Cap
newest ws count = reverse (first_rows ws count)

-- a table of 1,024 rows, of which the first count were stored and the others are zeros
pub record Stored (ws : List (List ℕ)) (count : ℕ) : Type 0 where
  pub few : count ≤ 1024
  pub long : length ws ≡ 1024
  pub table : rows_in ws ≡ lent_table 1024 (newest ws count)
