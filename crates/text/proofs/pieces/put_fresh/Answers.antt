-- `text::pieces::put_fresh` meets its contract: the test tells whether there is a mark.
-- Assumes nothing.
use mathlib.Core.Path.{refl}
use native.Mathlib.Omega.{arith}
use borrow.Author.Tests.{ne_eqb}
use Rattle.text.proofs.pieces.put_fresh.Goals as goal

pub put_bytes-requires : goal.put_bytes-requires
put_bytes-requires c = rw c.if-fresh-eq1.true at c.requires

pub returns-then-fresh-eq1 : goal.returns-then-fresh-eq1
returns-then-fresh-eq1 c = rw c.if-fresh-eq1.true c.put_bytes.ensures

pub returns-else-fresh-eq1 : goal.returns-else-fresh-eq1
returns-else-fresh-eq1 c = rw (ne_eqb _ 1 c.if-fresh-eq1.false) (record { moved = omega arith; stored = refl })
