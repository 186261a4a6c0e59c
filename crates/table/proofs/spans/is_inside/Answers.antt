-- `is_inside` meets its contract.
-- Assumes nothing.
use borrow.Author.Tests.{le-leb, lt-leb}
use Rattle.table.proofs.spans.is_inside.Goals as goal

pub returns-then-t-s : goal.returns-then-t-s
returns-then-t-s c = rw (c.end.ensures, c.end-then-t-s.ensures, le-leb _ _ c.if-t-s.true)

pub returns-else-t-s : goal.returns-else-t-s
returns-else-t-s c = rw (lt-leb _ _ c.if-t-s.false)
