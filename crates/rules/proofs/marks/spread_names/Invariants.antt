-- `spread_names` meets its contract: the first i are done.
-- Assumes nothing.
use mathlib.Core.Path.{◌≡◌}
use Prim.Native.Nat.{ℕ, ◌<◌}
use lib.ListN.{get_or}
use Rattle.table.specs.Words.{rows_in}
use Rattle.rules.proofs.Laws.Marks.{Spreading}
use Rattle.rules.proofs.marks.spread_names.Given as goal

abbrev pub invariant-loop-i : goal.invariant-loop-i
invariant-loop-i l = ((j : ℕ) → j < l.first → get_or l.marks j 0 ≡ 0) × Spreading (rows_in l.table) l.i (λ j. get_or l.owned j 0) l.marks
