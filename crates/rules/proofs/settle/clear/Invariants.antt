-- `clear` meets its contract: zeros up to i.
-- Assumes nothing.
use Rattle.table.specs.Words.{rows_in}
use Rattle.rules.specs.Engine.{Clears}
use Rattle.rules.proofs.settle.clear.Given as goal

abbrev pub invariant-loop-i : goal.invariant-loop-i
invariant-loop-i l = Clears (rows_in l.initial.table) (rows_in l.table) l.from l.i
