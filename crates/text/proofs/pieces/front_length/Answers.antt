-- `text::pieces::front_length` meets its contract: the test tells whether domain 0 acts, and another one has at most ten digits.
-- Assumes nothing.
use mathlib.Core.Path.{refl}
use Prim.Native.Nat.{◌≤◌}
use native.Mathlib.Omega.{arith}
use lib.ListN.{length-append}
use borrow.Author.Tests.{ne_eqb}
use Rattle.text.proofs.Laws.Digits.{decimal_short}
use Rattle.text.proofs.pieces.front_length.Goals as goal

pub overflow_add-result : goal.overflow_add-result
overflow_add-result c =
    let short : c.width.result ≤ 10 = omega (arith, c.width.ensures, decimal_short c.args.actor c.ranges.actor.fits) in
    omega (arith, short)

pub returns-then-actor-eq0 : goal.returns-then-actor-eq0
returns-then-actor-eq0 c = rw c.if-actor-eq0.true (refl, omega arith)

pub returns-else-actor-eq0 : goal.returns-else-actor-eq0
returns-else-actor-eq0 c =
    let short : c.width.result ≤ 10 = omega (arith, c.width.ensures, decimal_short c.args.actor c.ranges.actor.fits) in
    rw (ne_eqb _ 0 c.if-actor-eq0.false) (simp length-append (omega (arith, c.width.ensures)), omega (arith, short))
