use mathlib.Core.Path.{◌≡◌, sym, ap, ◌∙◌}
use mathlib.Core.List.{List}
use Prim.Native.Nat.{ℕ, min, ◌^◌, ◌≤◌, ◌<◌}
use native.Mathlib.Nat.{pow-suc, pow-le-pow_right}
use native.Mathlib.Numerals.{add-one}
use native.Mathlib.Omega.{arith}
use lib.Dec.{lit<}
use lib.ListN.{length, take, get_or, length-take}
use Rattle.std.proofs.lemmas.List.{get_or-take}
use Rattle.text.specs.Mask.{hex_value}
use Rattle.text.proofs.Laws.Masks.{from_digit, from_first}
use Rattle.text.proofs.masks.digits_of.Goals as goal

-- a place among the first 16 bytes of a text
few : (s : List ℕ) (n i : ℕ) → n ≡ min (length s) 16 → i < length (take n s) → (i < 16) × (i < length s) × (get_or (take n s) i 0 ≡ get_or s i 0)
few s n i e h = (omega (arith, length-take n s), omega (arith, length-take n s), get_or-take n s i 0 (omega (arith, length-take n s)))

-- what fewer than 16 digits make leaves room for one more
room : (v i : ℕ) → v < 16 ^ i → i < 16 → v < 16 ^ 15
room v i h few =
    let last : i ≤ 15 = omega arith in
    let up : 16 ^ i ≤ 16 ^ 15 = pow-le-pow_right (lit< tt) last in
    omega arith

pub overflow_mul-value : goal.overflow_mul-value
overflow_mul-value c =
    let b = c.loop-byte in
    let in_text = few c.args.text.now c.min.result b.byte-index c.min.ensures c.loop-byte-test.true in
    omega (arith, room b.value b.byte-index b.invariant.0 in_text.0)

pub overflow_add-value : goal.overflow_add-value
overflow_add-value c =
    let b = c.loop-byte in
    let in_text = few c.args.text.now c.min.result b.byte-index c.min.ensures c.loop-byte-test.true in
    omega (arith, room b.value b.byte-index b.invariant.0 in_text.0, c.digit_value.ensures.1)

pub loop-byte-preserved : goal.loop-byte-preserved
loop-byte-preserved c =
    let b = c.loop-byte in
    let s = c.args.text.now in
    let in_text = few s c.min.result b.byte-index c.min.ensures c.loop-byte-test.true in (
      rw (add-one, pow-suc) (omega (arith, b.invariant.0, c.digit_value.ensures.1)),
      sym (from_digit b.value s b.byte-index _ in_text.0 in_text.1 (c.digit_value.ensures.0 ∙ ap hex_value in_text.2)) ∙ b.invariant.1,
    )

pub returns : goal.returns
returns c =
    let b = c.loop-byte in
    let s = c.args.text.now in
    let end : b.byte-index ≡ min (length s) 16 = omega (arith, c.min.ensures, length-take c.min.result s, c.loop-byte-test.false) in
    sym (from_first b.value s b.byte-index end) ∙ b.invariant.1
