-- `own_of_names` meets its contract: the names up to here are noted.
-- Assumes nothing.
use lib.ListN.{take}
use Rattle.table.specs.Words.{rows_in}
use Rattle.rules.specs.Engine.{Owned}
use Rattle.rules.proofs.marks.own_of_names.Given as goal

abbrev pub invariant-loop-name : goal.invariant-loop-name
invariant-loop-name l = Owned (rows_in l.table) l.k (take l.name-index l.names) l.owned
