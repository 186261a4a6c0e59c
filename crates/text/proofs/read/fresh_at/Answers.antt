-- `text::read::fresh_at` meets its contract: the test tells whether there is a mark.
-- Assumes nothing.
use borrow.Author.Tests.{ne_eqb}
use Rattle.text.proofs.read.fresh_at.Goals as goal

pub returns-then-byte_at-eq114 : goal.returns-then-byte_at-eq114
returns-then-byte_at-eq114 c = rw (← c.byte_at.ensures, c.if-byte_at-eq114.true)

pub returns-else-byte_at-eq114 : goal.returns-else-byte_at-eq114
returns-else-byte_at-eq114 c = rw (← c.byte_at.ensures, ne_eqb _ _ c.if-byte_at-eq114.false)
