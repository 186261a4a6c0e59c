-- `count_makers` meets its contract. The invariant: the rows up to i are counted.
-- Assumes nothing.
use Rattle.table.specs.Words.{rows_in}
use Rattle.table.specs.Limits.{Counts}
use Rattle.table.proofs.limits.count_makers.Given as goal

abbrev pub invariant-loop-i : goal.invariant-loop-i
invariant-loop-i l = Counts (rows_in l.table) l.i l.counts
