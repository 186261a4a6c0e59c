-- `sheet::rule::count_one` meets its contract.
-- Assumes nothing.
use Rattle.sheet.proofs.rule.count_one.Goals as goal

pub returns : goal.returns
returns c = rw c.once_more.ensures
