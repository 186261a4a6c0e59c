-- `lower` meets its contract: the first i rows are done.
-- Assumes nothing.
use Rattle.table.specs.Words.{rows_in}
use Rattle.rules.specs.Engine.{Lowers}
use Rattle.rules.proofs.settle.lower.Given as goal

abbrev pub invariant-loop-i : goal.invariant-loop-i
invariant-loop-i l = Lowers l.marks (rows_in l.initial.table) (rows_in l.table) l.i
