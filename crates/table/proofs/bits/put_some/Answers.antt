use mathlib.Core.Path.{refl, sym, ◌∙◌}
use Prim.Native.Nat.{◌/◌}
use lib.ListN.{length-set}
use Rattle.model.specs.Bits.{put_at}
use Rattle.table.proofs.Laws.Bits.{put_first, put_none}
use Rattle.table.proofs.bits.put_some.Goals as goal

pub loop-a-init : goal.loop-a-init
loop-a-init c = (refl, refl)

pub loop-a-preserved : goal.loop-a-preserved
unfolding put_at
loop-a-preserved c =
    let s = c.args in
    let bits = c.loop-a.bits in
    let a = c.loop-a.a in (
      length-set bits (a / 8) c.with_bit.result ∙ c.loop-a.invariant.0,
      rw c.with_bit.ensures (sym (put_first s.v a s.to bits c.loop-a-test.true) ∙ c.loop-a.invariant.1),
    )

pub shape_of-bits : goal.shape_of-bits
shape_of-bits c = c.loop-a.invariant.0

pub returns : goal.returns
returns c =
    let s = c.args in
    sym (put_none s.v c.loop-a.a s.to c.loop-a.bits c.loop-a-test.false) ∙ c.loop-a.invariant.1
