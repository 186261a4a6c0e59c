-- `text::pieces::put_back` meets its contract: the test tells whether domain 0 acts.
-- Assumes nothing.
use borrow.Author.Tests.{ne_eqb}
use Rattle.text.proofs.pieces.put_back.Goals as goal

pub put_bytes-requires : goal.put_bytes-requires
put_bytes-requires c = rw c.if-actor-eq0.true at c.requires

pub put_bytes-requires-else-actor-eq0 : goal.put_bytes-requires-else-actor-eq0
put_bytes-requires-else-actor-eq0 c = rw (ne_eqb _ 0 c.if-actor-eq0.false) at c.requires

pub returns-then-actor-eq0 : goal.returns-then-actor-eq0
returns-then-actor-eq0 c = rw c.if-actor-eq0.true c.put_bytes.ensures

pub returns-else-actor-eq0 : goal.returns-else-actor-eq0
returns-else-actor-eq0 c = rw (ne_eqb _ 0 c.if-actor-eq0.false) c.put_bytes-else-actor-eq0.ensures
