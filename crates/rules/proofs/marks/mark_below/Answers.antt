-- `mark_below` meets its contract.
-- Assumes nothing.
use borrow.Author.Tests.{lt-ltb, le-ltb}
use Rattle.rules.proofs.marks.mark_below.Goals as goal

pub returns-then-q-i : goal.returns-then-q-i
returns-then-q-i c = rw (lt-ltb _ _ c.if-q-i.true)

pub returns-else-q-i : goal.returns-else-q-i
returns-else-q-i c = rw (le-ltb _ _ c.if-q-i.false)
