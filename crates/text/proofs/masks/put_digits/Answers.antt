use mathlib.Core.Path.{◌≡◌, sym, ap, ◌∙◌}
use Prim.Native.Nat.{ℕ, ◌+◌, ◌-◌, ◌/◌, ◌≤◌}
use native.Mathlib.Omega.{arith}
use lib.ListN.{length, set, length-set}
use lib.Seq.{sets}
use Rattle.text.specs.Mask.{hex}
use Rattle.text.proofs.Laws.Masks.{length_hex, hex_turn, hex_none}
use Rattle.text.proofs.masks.put_digits.Goals as goal

pub bounds-out-place : goal.bounds-out-place
bounds-out-place c =
    let room : c.args.at + 16 ≤ length c.args.out.now = omega (arith, c.requires, length_hex 16 c.args.mask) in
    omega (arith, room, c.loop-place.invariant.1)

pub loop-place-preserved : goal.loop-place-preserved
loop-place-preserved c =
    let at = c.args.at in
    let out = c.loop-place.out in
    let next = c.loop-place.place in
    let rest = c.loop-place.rest in (
      ap (λ (b : ℕ). sets (set out (next - 1) b) at (hex (next - 1 - at) (rest / 16))) c.digit_byte.ensures
          ∙ hex_turn out at rest next c.loop-place-test.true
          ∙ c.loop-place.invariant.0,
      length-set out (next - 1) c.digit_byte.result ∙ c.loop-place.invariant.1,
    )

pub returns : goal.returns
returns c =
    let a = c.args in
    let none : c.loop-place.place - a.at ≡ 0 = omega arith in
    record {
      moved = omega (arith, length_hex 16 a.mask);
      stored = sym (hex_none c.loop-place.out a.at c.loop-place.rest none) ∙ c.loop-place.invariant.0;
    }
