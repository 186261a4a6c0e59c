-- `spread_access` meets its contract: the first i are done.
-- Assumes nothing.
use mathlib.Core.Path.{◌≡◌}
use Prim.Native.Nat.{ℕ, ◌<◌}
use lib.ListN.{get_or}
use Rattle.table.specs.Words.{rows_in}
use Rattle.table.specs.Sheets.{sheet_in}
use Rattle.rules.specs.Engine.{own_of_access, Most}
use Rattle.rules.proofs.Laws.Marks.{Spreading}
use Rattle.rules.proofs.marks.spread_access.Given as goal

abbrev pub invariant-loop-i : goal.invariant-loop-i
invariant-loop-i l = ((j : ℕ) → j < l.first → get_or l.marks j 0 ≡ 0) × Spreading (rows_in l.table) l.i (own_of_access (sheet_in l.sheet) (rows_in l.table) l.in_cell l.relation l.places l.a l.s) l.marks × Most l.i l.marks l.most
