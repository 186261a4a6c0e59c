-- `count_refused` meets its contract.
-- Assumes nothing.
use Rattle.rules.proofs.count.count_refused.Goals as goal

pub returns : goal.returns
returns c = rw c.count_up.ensures
