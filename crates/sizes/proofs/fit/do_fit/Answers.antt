-- `sizes::fit::do_fit` meets its contract.
-- Assumes nothing.
use borrow.Author.Tests.{lt-leb, le-leb}
use Rattle.sizes.specs.Report.{fits}
use Rattle.sizes.proofs.fit.do_fit.Goals as goal

pub returns-then-lengths-le8 : goal.returns-then-lengths-le8
unfolding fits
returns-then-lengths-le8 c = rw (le-leb _ _ c.if-lengths-le8.true, c.sum_of.ensures)

pub returns-else-lengths-le8 : goal.returns-else-lengths-le8
unfolding fits
returns-else-lengths-le8 c = rw (lt-leb _ _ c.if-lengths-le8.false)
