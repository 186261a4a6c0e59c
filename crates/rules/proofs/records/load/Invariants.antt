-- `load` meets its contract: the first i records are in the rows.
-- Assumes nothing.
use Rattle.std.proofs.Common.{◌≡◌}
use Rattle.rules.proofs.Laws.Records.{loaded}
use Rattle.rules.proofs.records.load.Given as goal

abbrev pub invariant-loop-i : goal.invariant-loop-i
invariant-loop-i l = l.rows ≡ loaded l.table l.initial.rows l.i
