-- `is_legal` meets its contract.
-- Assumes nothing.
use Rattle.table.proofs.spans.is_legal.Goals as goal

pub returns : goal.returns
returns c = rw c.end.ensures
