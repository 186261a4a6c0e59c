-- `text::read::right_of` meets its contract: the test tells which right it is.
-- Assumes nothing.
use borrow.Author.Tests.{ne_eqb}
use Rattle.text.proofs.read.right_of.Goals as goal

pub returns-then-byte_at-eq111 : goal.returns-then-byte_at-eq111
returns-then-byte_at-eq111 c = rw (← c.byte_at.ensures, c.if-byte_at-eq111.true)

pub returns-else-byte_at-eq111 : goal.returns-else-byte_at-eq111
returns-else-byte_at-eq111 c = rw (← c.byte_at.ensures, ne_eqb _ _ c.if-byte_at-eq111.false)
