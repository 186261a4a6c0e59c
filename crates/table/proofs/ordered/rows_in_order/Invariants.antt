-- `rows_in_order` meets its contract: the first i rows rise, to `last`, and the places of their parents are noted.
-- Assumes nothing.
use mathlib.Core.Path.{◌≡◌}
use lib.ListN.{length}
use Rattle.table.specs.Words.{rows_in}
use Rattle.table.specs.Rows.{Places}
use Rattle.table.proofs.Laws.Ordered.{Checked}
use Rattle.table.proofs.ordered.rows_in_order.Given as goal

abbrev pub invariant-loop-i : goal.invariant-loop-i
invariant-loop-i l = Checked (rows_in l.table) l.i l.last × Places (rows_in l.table) l.i l.places × (length l.seen ≡ 2048)
