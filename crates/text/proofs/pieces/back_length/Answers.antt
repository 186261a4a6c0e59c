-- `text::pieces::back_length` meets its contract: the test tells whether domain 0 acts.
-- Assumes nothing.
use mathlib.Core.Path.{refl}
use native.Mathlib.Omega.{arith}
use borrow.Author.Tests.{ne_eqb}
use Rattle.text.proofs.pieces.back_length.Goals as goal

pub returns-then-actor-eq0 : goal.returns-then-actor-eq0
returns-then-actor-eq0 c = rw c.if-actor-eq0.true (refl, omega arith)

pub returns-else-actor-eq0 : goal.returns-else-actor-eq0
returns-else-actor-eq0 c = rw (ne_eqb _ 0 c.if-actor-eq0.false) (refl, omega arith)
