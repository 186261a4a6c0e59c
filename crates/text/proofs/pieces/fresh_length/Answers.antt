-- `text::pieces::fresh_length` meets its contract: the test tells whether there is a mark.
-- Assumes nothing.
use mathlib.Core.Path.{refl}
use native.Mathlib.Omega.{arith}
use borrow.Author.Tests.{ne_eqb}
use Rattle.text.proofs.pieces.fresh_length.Goals as goal

pub returns-then-fresh-eq1 : goal.returns-then-fresh-eq1
returns-then-fresh-eq1 c = rw c.if-fresh-eq1.true (refl, omega arith)

pub returns-else-fresh-eq1 : goal.returns-else-fresh-eq1
returns-else-fresh-eq1 c = rw (ne_eqb _ 1 c.if-fresh-eq1.false) (refl, omega arith)
