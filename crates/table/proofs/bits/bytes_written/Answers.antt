use mathlib.Core.Path.{◌≡◌, refl, sym, ap, ◌∙◌}
use mathlib.Core.Bool.{◌&&◌, and-false, and-true}
use Prim.Native.Nat.{◌-◌, ◌*◌}
use native.Mathlib.Omega.{arith}
use Rattle.model.specs.Bits.{all_written}
use Rattle.table.proofs.Laws.Bits.{all_byte}
use Rattle.table.proofs.bits.bytes_written.Goals as goal
use Rattle.table.proofs.bits.bytes_written.Goals.{then-not-is_full, else-not-is_full}

pub loop-i-init : goal.loop-i-init
loop-i-init c = refl

pub loop-i-preserved : goal.loop-i-preserved
loop-i-preserved c =
    let s = c.args in
    let whole = c.loop-i.invariant ∙ ap (◌&&◌ c.loop-i.full) (all_byte s.bits.now c.loop-i.i s.to c.loop-i-test.true) in
    elim c.if-not-is_full.branch [
      | then-not-is_full w ↦ whole ∙ rw (sym c.is_full.ensures ∙ w.if-not-is_full.true, w.full-is) (and-false c.loop-i.full)
      | else-not-is_full w ↦ whole ∙ rw (sym c.is_full.ensures ∙ w.if-not-is_full.false, w.full-is)
    ]

pub returns : goal.returns
unfolding all_written
returns c =
    let s = c.args in
    let e : (s.to - c.loop-i.i) * 8 ≡ 0 = omega arith in
    sym ((rw e at c.loop-i.invariant) ∙ and-true c.loop-i.full)
