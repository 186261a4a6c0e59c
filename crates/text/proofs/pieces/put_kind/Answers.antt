-- `text::pieces::put_kind` meets its contract: the tests tell which kind it is.
-- Assumes nothing.
use mathlib.Core.Path.{refl}
use native.Mathlib.Omega.{arith}
use borrow.Author.Tests.{ne_eqb}
use Rattle.text.proofs.pieces.put_kind.Goals as goal

pub put_bytes-requires : goal.put_bytes-requires
put_bytes-requires c = rw c.if-kind-eq1.true at c.requires

pub put_bytes-requires-else-kind-eq1 : goal.put_bytes-requires-else-kind-eq1
put_bytes-requires-else-kind-eq1 c = rw (ne_eqb _ 0 c.if-kind-eq0.false, ne_eqb _ 1 c.if-kind-eq1.false) at c.requires

pub returns-then-kind-eq0 : goal.returns-then-kind-eq0
returns-then-kind-eq0 c = rw c.if-kind-eq0.true (record { moved = omega arith; stored = refl })

pub returns-then-kind-eq1 : goal.returns-then-kind-eq1
returns-then-kind-eq1 c = rw c.if-kind-eq1.true c.put_bytes.ensures

pub returns-else-kind-eq1 : goal.returns-else-kind-eq1
returns-else-kind-eq1 c = rw (ne_eqb _ 0 c.if-kind-eq0.false, ne_eqb _ 1 c.if-kind-eq1.false) c.put_bytes-else-kind-eq1.ensures
