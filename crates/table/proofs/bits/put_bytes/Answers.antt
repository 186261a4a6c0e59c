use mathlib.Core.Path.{◌≡◌, refl, sym, ◌∙◌}
use Prim.Native.Nat.{◌-◌, ◌*◌}
use native.Mathlib.Omega.{arith}
use lib.ListN.{length-set}
use Rattle.model.specs.Bits.{put_from}
use Rattle.table.proofs.Laws.Bits.{put_byte}
use Rattle.table.proofs.bits.put_bytes.Goals as goal

pub loop-i-init : goal.loop-i-init
loop-i-init c = (refl, refl)

pub loop-i-preserved : goal.loop-i-preserved
loop-i-preserved c =
    let s = c.args in
    let bits = c.loop-i.bits in
    let i = c.loop-i.i in (
      length-set bits i c.filled.result ∙ c.loop-i.invariant.0,
      rw c.filled.ensures (sym (put_byte s.v bits i s.to c.loop-i-test.true (omega arith)) ∙ c.loop-i.invariant.1),
    )

pub shape_of-bits : goal.shape_of-bits
shape_of-bits c = c.loop-i.invariant.0

pub returns : goal.returns
unfolding put_from
returns c =
    let s = c.args in
    let e : (s.to - c.loop-i.i) * 8 ≡ 0 = omega arith in
    rw e at c.loop-i.invariant.1
