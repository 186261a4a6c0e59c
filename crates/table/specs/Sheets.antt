-- Card 7: a conflict sheet as the bytes that a caller lends. Each of the 18 combinations has one place, and its byte is the result: 0 keep,
-- 1 lower, anything else `end`. So every array of bytes is a sheet, and a byte that is no result takes all that one can.
-- Assumes nothing.
use Rattle.std.specs.Prelude.{ℕ, zero, suc, ◌+◌, ◌*◌, List, [], ◌∷◌, ◌++◌, get_or, set, replicate}
use Rattle.model.specs.declared.Access.{Access}
use Rattle.model.specs.declared.Access.TheVariants.{Reading, Writing}
use Rattle.model.specs.declared.Effect.{Effect}
use Rattle.model.specs.declared.Effect.TheVariants.{Keep, Lower, End}
use Rattle.model.specs.declared.Origin.{Origin}
use Rattle.model.specs.declared.Origin.TheVariants.{Cell, Kin, Stranger}
use Rattle.model.specs.declared.Results.{Results}
use Rattle.model.specs.declared.Conflicts.{Conflicts}
use Rattle.model.specs.declared.Sheet.{Sheet}
use Rattle.model.specs.Sheet6.{results, conflicts, sheet6}

-- "Results are `keep`, `lower`, `end`."
abbrev pub effect_in : ℕ → Effect
effect_in zero = Keep
effect_in (suc zero) = Lower
effect_in (suc (suc n)) = End

-- the result in the byte at a place
abbrev pub result_in : List ℕ → ℕ → Effect
result_in bytes place = effect_in (get_or bytes place 0)

-- "from is `cell` [..] else `kin` [..] else `stranger`": three places one behind the other
abbrev pub results_in : List ℕ → ℕ → Results
results_in bytes first = results (result_in bytes first) (result_in bytes (first + 1)) (result_in bytes (first + 2))

-- "accesses `read`, `write`"
abbrev pub conflicts_in : List ℕ → ℕ → Conflicts
conflicts_in bytes first = conflicts (results_in bytes first) (results_in bytes (first + 3))

-- "Holders are `reference`, `raw`, `cell`"
unfoldable pub sheet_in : List ℕ → Sheet
sheet_in bytes = record { reference = conflicts_in bytes 0; raw = conflicts_in bytes 6; cell = conflicts_in bytes 12 }

-- callers who lend no byte use card 6's; of fewer than 18 the missing ones are `end`, and of more the first 18 count
unfoldable pub sheet_lent : List ℕ → Sheet
sheet_lent [] = sheet6
sheet_lent (b ∷ bytes) = sheet_in ((b ∷ bytes) ++ replicate 18 2)

-- ---- the same by the place of each combination, as the code counts it

abbrev pub access_number : Access → ℕ
access_number Reading = 0
access_number Writing = 1

abbrev pub origin_number : Origin → ℕ
origin_number Cell = 0
origin_number Kin = 1
origin_number Stranger = 2

-- a kind above 1 is a cell's: in a table in order it is 2
abbrev pub holder_number : ℕ → ℕ
holder_number zero = 0
holder_number (suc zero) = 1
holder_number (suc (suc kind)) = 2

abbrev pub place_of : ℕ → Access → Origin → ℕ
place_of kind a from = holder_number kind * 6 + access_number a * 3 + origin_number from

-- the number of a result, as a byte has it
abbrev pub weight : Effect → ℕ
weight Keep = 0
weight Lower = 1
weight End = 2

-- the bytes of a sheet, put in their places
abbrev pub with_results : List ℕ → ℕ → Results → List ℕ
with_results bytes first r = set (set (set bytes first (weight r.cell)) (first + 1) (weight r.kin)) (first + 2) (weight r.stranger)

abbrev pub with_conflicts : List ℕ → ℕ → Conflicts → List ℕ
with_conflicts bytes first c = with_results (with_results bytes first c.read) (first + 3) c.write

unfoldable pub bytes_of : Sheet → List ℕ
bytes_of sheet = with_conflicts (with_conflicts (with_conflicts (replicate 18 0) 0 sheet.reference) 6 sheet.raw) 12 sheet.cell

-- card 6's sheet in bytes
abbrev pub bytes6 : List ℕ
bytes6 = 1 ∷ 1 ∷ 1 ∷ 0 ∷ 2 ∷ 2 ∷ 0 ∷ 0 ∷ 0 ∷ 0 ∷ 0 ∷ 2 ∷ 1 ∷ 1 ∷ 1 ∷ 0 ∷ 2 ∷ 2 ∷ []
