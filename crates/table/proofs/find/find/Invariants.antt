-- `find` meets its contract: the name is at one of the `size` places from `base` on.
-- Assumes nothing.
use Rattle.table.specs.Words.{rows_in}
use Rattle.table.proofs.Laws.Find.{Halving}
use Rattle.table.proofs.find.find.Given as goal

abbrev pub invariant-loop-size : goal.invariant-loop-size
invariant-loop-size l = Halving (rows_in l.table) l.k l.x l.base l.size

abbrev pub decreases-loop-size : goal.decreases-loop-size
decreases-loop-size l = l.size
