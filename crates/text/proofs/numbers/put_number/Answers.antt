use mathlib.Core.Path.{◌≡◌, refl, sym, ap, ◌∙◌}
use mathlib.Core.List.{List}
use Prim.Native.Nat.{ℕ, suc, ◌+◌, ◌-◌, ◌/◌, ◌%◌, ◌<◌}
use native.Mathlib.Omega.{arith}
use lib.ListN.{length, set, length-set}
use lib.Seq.{sets}
use Rattle.text.specs.Decimal.{decimal}
use Rattle.text.proofs.Laws.Digits.{digits, digits_last, length_digits, decimal_own}
use Rattle.text.proofs.Laws.Put.{sets_last}
use Rattle.text.proofs.numbers.put_number.Goals as goal

-- the lowest digit written behind the others
turn : (out : List ℕ) (at n next : ℕ) → at < next → sets (set out (next - 1) (48 + n % 10)) at (digits 10 (n / 10) (next - 1 - at)) ≡ sets out at (digits 10 n (next - at))
turn out at n next h =
    let others = digits 10 (n / 10) (next - 1 - at) in
    let last : next - 1 ≡ at + length others = omega (arith, length_digits 10 (n / 10) (next - 1 - at)) in
    let more : next - at ≡ suc (next - 1 - at) = omega arith in
    ap (λ (k : ℕ). sets (set out k (48 + n % 10)) at others) last
    ∙ sets_last out at (48 + n % 10) others
    ∙ ap (sets out at) (sym (ap (digits 10 n) more ∙ digits_last 10 n (next - 1 - at)))

nothing_left : (out : List ℕ) (at : ℕ) {k : ℕ} (n : ℕ) → k ≡ 0 → sets out at (digits 10 n k) ≡ out
unfolding digits
nothing_left out at n e = rw e

pub loop-place-init : goal.loop-place-init
loop-place-init c =
    let a = c.args in
    let all : a.at + c.width.result - a.at ≡ length (decimal a.n) = omega arith in (
      ap (sets a.out.now a.at) (ap (digits 10 a.n) all ∙ sym (decimal_own a.n)),
      refl,
    )

pub loop-place-preserved : goal.loop-place-preserved
loop-place-preserved c =
    let out = c.loop-place.out in
    let next = c.loop-place.place in
    let rest = c.loop-place.rest in (
      turn out c.args.at rest next c.loop-place-test.true ∙ c.loop-place.invariant.0,
      length-set out (next - 1) (48 + rest % 10) ∙ c.loop-place.invariant.1,
    )

pub returns : goal.returns
returns c =
    let none : c.loop-place.place - c.args.at ≡ 0 = omega arith in
    record {
      moved = omega arith;
      stored = sym (nothing_left c.loop-place.out c.args.at c.loop-place.rest none) ∙ c.loop-place.invariant.0;
    }
