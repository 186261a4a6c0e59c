-- `text::masks::is_alone` meets its contract: no mask of 64 bits is that of a domain from 64 on.
-- Assumes nothing.
use Prim.Native.Nat.{◌^◌, ◌≤◌}
use native.Mathlib.Nat.{pow-le-pow_right}
use native.Mathlib.Omega.{arith}
use lib.Dec.{lit<}
use borrow.Author.Tests.{le-ltb, ne_eqb}
use Rattle.text.proofs.masks.is_alone.Goals as goal

pub returns-else-maker-lt64 : goal.returns-else-maker-lt64
returns-else-maker-lt64 c =
    let a = c.args in
    let up : 2 ^ 64 ≤ 2 ^ a.maker = pow-le-pow_right (lit< tt) c.if-maker-lt64.false in
    rw (le-ltb _ _ c.if-maker-lt64.false, ne_eqb a.mask (2 ^ a.maker) (λ e. omega (arith, c.ranges.mask.fits)))
