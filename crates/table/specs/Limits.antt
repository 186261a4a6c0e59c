-- Card 10: a sheet of limits as the numbers that a caller lends, and rows counted by their makers.
-- Assumes nothing.
use Rattle.std.specs.Prelude.{ℕ, suc, ◌<◌, ◌≤◌, ◌≡◌, Bool, false, ◌||◌, List, [], ◌∷◌, ltb, length, get_or}
use Rattle.model.specs.declared.Cap.{Cap}
use Rattle.model.specs.Requests.{Limits, Unlimited, Limited}
use Rattle.model.specs.Table.{empty_row}
use Rattle.model.specs.Limits.{made, sum, refused_sheet}
use Rattle.table.specs.Words.{rows_in}
use Rattle.table.specs.Rows.{before}

-- "A caller may lend a sheet of 64 limits": where no number is lent, there is no sheet
abbrev pub limits_in : List ℕ → Limits
limits_in [] = Unlimited
limits_in (l ∷ limits) = Limited (l ∷ limits)

-- the sheet that is lent with a table is not refused
abbrev pub Allowed : List (List ℕ) → List ℕ → Type 0
Allowed ws limits = refused_sheet (rows_in ws) (limits_in limits) ≡ false

-- limits that may be lent with a table of so many rows, as far as the table's rows decide nothing
pub record LimitsFor (size : ℕ) (limits : List ℕ) : Type 0 where
  pub sheet : (length limits ≡ 0 → ⊥) → length limits ≡ 64
  pub fits : sum limits ≤ size

-- the maker of each of the first k rows is a domain
abbrev pub Makers : List Cap → ℕ → Type 0
Makers T k = (i : ℕ) → i < k → (get_or T i empty_row).maker < 64

-- how many of the first k rows each domain has made
pub record Counts (T : List Cap) (k : ℕ) (counts : List ℕ) : Type 0 where
  pub all_domains : length counts ≡ 64
  pub each : (d : ℕ) → d < 64 → get_or counts d 0 ≡ made d (before T k)

-- `exceeds` by such numbers
unfoldable pub exceeds_by : ℕ → List ℕ → List ℕ → Bool
exceeds_by d counts [] = false
exceeds_by d counts (l ∷ limits) = ltb l (get_or counts d 0) || exceeds_by (suc d) counts limits
