-- `text::pieces::put_right` meets its contract: the test tells which right it is.
-- Assumes nothing.
use borrow.Author.Tests.{ne_eqb}
use Rattle.text.proofs.pieces.put_right.Goals as goal

pub put_bytes-requires : goal.put_bytes-requires
put_bytes-requires c = rw c.if-right-eq1.true at c.requires

pub put_bytes-requires-else-right-eq1 : goal.put_bytes-requires-else-right-eq1
put_bytes-requires-else-right-eq1 c = rw (ne_eqb _ 1 c.if-right-eq1.false) at c.requires

pub returns-then-right-eq1 : goal.returns-then-right-eq1
returns-then-right-eq1 c = rw c.if-right-eq1.true c.put_bytes.ensures

pub returns-else-right-eq1 : goal.returns-else-right-eq1
returns-else-right-eq1 c = rw (ne_eqb _ 1 c.if-right-eq1.false) c.put_bytes-else-right-eq1.ensures
