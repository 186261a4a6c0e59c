-- `first_struck` meets its contract: no row in front of i is struck.
-- Assumes nothing.
use mathlib.Core.Path.{◌≡◌}
use mathlib.Core.Bool.{false, not, ◌&&◌}
use Prim.Native.Nat.{ℕ, ◌<◌}
use lib.Dec.{eqb}
use lib.ListN.{get_or}
use Rattle.model.specs.Table.{empty_row, span}
use Rattle.model.specs.Values.{touches}
use Rattle.table.specs.Words.{rows_in}
use Rattle.rules.proofs.marks.first_struck.Given as goal

abbrev pub invariant-loop-i : goal.invariant-loop-i
invariant-loop-i l = (j : ℕ) → j < l.i → (touches l.s (span (get_or (rows_in l.table) j empty_row)) && not (eqb (get_or l.relation j 0) 1)) ≡ false
