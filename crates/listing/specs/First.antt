-- The first rows of a lent table. No public promise rests on it.
-- Assumes nothing.
use Rattle.std.specs.Prelude.{ℕ, List, take}
use Rattle.model.specs.declared.Cap.{Cap}
use Rattle.table.specs.Words.{rows_in}

-- the first n rows of a lent table: those that live, where n of them do
abbrev pub first_rows : List (List ℕ) → ℕ → List Cap
first_rows ws n = take n (rows_in ws)
