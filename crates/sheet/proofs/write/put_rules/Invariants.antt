-- `sheet::write::put_rules` meets its contract. The loop's invariant: the lines of the combinations passed stand at the first bytes.
-- Assumes nothing.
use Rattle.sheet.proofs.Laws.Writing.{Lines}
use Rattle.sheet.proofs.write.put_rules.Given as goal

abbrev pub invariant-loop-place : goal.invariant-loop-place
invariant-loop-place l = Lines l.sheet l.initial.out l.place l.out l.at
