-- `store` meets its contract: the first i rows are in the records.
-- Assumes nothing.
use Rattle.std.proofs.Common.{◌≡◌}
use Rattle.rules.proofs.Laws.Records.{stored}
use Rattle.rules.proofs.records.store.Given as goal

abbrev pub invariant-loop-i : goal.invariant-loop-i
invariant-loop-i l = l.table ≡ stored l.initial.table l.rows l.i
