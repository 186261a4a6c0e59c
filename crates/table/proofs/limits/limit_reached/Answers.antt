-- `limit_reached` meets its contract.
-- Assumes nothing.
use Rattle.table.proofs.limits.limit_reached.Goals as goal

pub returns : goal.returns
returns c = rw (c.limit_of.ensures, c.made_by.ensures)
