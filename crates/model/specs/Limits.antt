-- Card 10, "domains with limits": how many live rows each domain has made, and when a sheet of limits is refused.
-- Assumes nothing.
use Rattle.std.specs.Prelude.{ℕ, suc, ◌+◌, Bool, false, not, ◌||◌, List, [], ◌∷◌, ltb, leb, eqb, length, get_or}
use Rattle.model.specs.declared.Cap.{Cap}
use Rattle.model.specs.Lists.{filter}
use Rattle.model.specs.Requests.{Limits, Unlimited, Limited}
use Rattle.model.specs.Table.{live_rows}

-- the domain made the row
abbrev pub made_by : ℕ → Cap → Bool
made_by d c = eqb d c.maker

abbrev pub made : ℕ → List Cap → ℕ
made d rows = length (filter (made_by d) rows)

abbrev pub sum : List ℕ → ℕ
sum [] = 0
sum (l ∷ sheet) = l + sum sheet

-- some domain, the first of these being d, has made more live rows than its limit
unfoldable pub exceeds : ℕ → List Cap → List ℕ → Bool
exceeds d rows [] = false
exceeds d rows (l ∷ sheet) = ltb l (made d rows) || exceeds (suc d) rows sheet

-- "A sheet of another length, or whose sum is above the rows, or which a lent table already exceeds, is refused 1"
unfoldable pub refused_sheet : List Cap → Limits → Bool
refused_sheet table Unlimited = false
refused_sheet table (Limited sheet) = not (eqb (length sheet) 64) || (ltb (length table) (sum sheet) || exceeds 0 (live_rows table) sheet)

-- 10. create or borrow with no empty row, of so many rows; "with one" sheet "10 never occurs"
unfoldable pub no_row : Limits → List Cap → ℕ → Bool
no_row Unlimited rows size = leb size (length rows)
no_row (Limited sheet) rows size = false

-- 18, "in the place of 10". "its limit is reached"
unfoldable pub limit_reached : Limits → List Cap → ℕ → Bool
limit_reached Unlimited rows d = false
limit_reached (Limited sheet) rows d = leb (get_or sheet d 0) (made d rows)
