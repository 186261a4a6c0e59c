-- `close` meets its contract: the first i rows have moved, and their parents' places with them.
-- Assumes nothing.
use Rattle.table.specs.Words.{rows_in}
use Rattle.rules.proofs.Laws.Settle.{Closing, Placing}
use Rattle.rules.proofs.settle.close.Given as goal

abbrev pub invariant-loop-i : goal.invariant-loop-i
invariant-loop-i l = Closing l.marks (rows_in l.initial.table) (rows_in l.table) l.i l.left × Placing l.marks l.initial.places (rows_in l.initial.table) (rows_in l.table) l.places l.moved l.i l.left
