use mathlib.Core.Path.{◌≡◌, sym, ap, ◌∙◌}
use Prim.Native.Nat.{ℕ, ◌-◌, ◌^◌}
use native.Mathlib.Omega.{arith}
use lib.ListN.{length, get_or, drop, length-drop}
use lib.Seq.{take_all}
use Rattle.text.specs.Class.{class_of, digit, space}
use Rattle.text.specs.Line.{through}
use Rattle.text.proofs.Laws.Line.{through_le, through_miss, through_end}
use Rattle.text.proofs.Laws.Number.{digit_range, number_digit, number_stop, number_end}
use Rattle.text.proofs.numbers.read_word.Goals as goal

pub overflow_add-end : goal.overflow_add-end
overflow_add-end c =
    let count : c.count_through.result ≡ through space (drop c.loop-i.i c.args.text.now) = let s = c.args.text.now in c.count_through.ensures ∙ ap (through space) (take_all (length s - c.loop-i.i) (drop c.loop-i.i s) (omega (arith, length-drop c.loop-i.i s))) in
    omega (arith, count, through_le space c.args.text.now)

pub returns-then-class_by_tests-ne-DIGIT : goal.returns-then-class_by_tests-ne-DIGIT
returns-then-class_by_tests-ne-DIGIT c =
    let count : c.count_through.result ≡ through space (drop c.loop-i.i c.args.text.now) = let s = c.args.text.now in c.count_through.ensures ∙ ap (through space) (take_all (length s - c.loop-i.i) (drop c.loop-i.i s) (omega (arith, length-drop c.loop-i.i s))) in
    let s = c.args.text.now in (
      sym (number_stop (2 ^ 32) c.loop-i.value s c.loop-i.i c.loop-i-test.true (λ e. c.if-class_by_tests-ne-DIGIT.true (c.class_by_tests.ensures ∙ e)))
          ∙ c.loop-i.invariant.1,
      omega (arith, count),
    )

pub overflow_sub-value : goal.overflow_sub-value
overflow_sub-value c =
    let byte : ℕ = get_or c.args.text.now c.loop-i.i 0 in
    let is_digit : class_of byte ≡ digit = sym c.class_by_tests.ensures ∙ c.if-class_by_tests-ne-DIGIT.false in
    (digit_range byte is_digit).0

pub loop-i-preserved : goal.loop-i-preserved
loop-i-preserved c =
    let byte : ℕ = get_or c.args.text.now c.loop-i.i 0 in
    let is_digit : class_of byte ≡ digit = sym c.class_by_tests.ensures ∙ c.if-class_by_tests-ne-DIGIT.false in
    let s = c.args.text.now in
    let v = c.loop-i.value in
    let more = c.loop-i-test.true in
    let other : class_of byte ≡ space → ⊥ = λ e. omega (arith, is_digit) in (
      omega arith,
      sym (number_digit (2 ^ 32) v s c.loop-i.i more is_digit) ∙ c.loop-i.invariant.1,
      sym (through_miss space s c.loop-i.i more other) ∙ c.loop-i.invariant.2,
    )

pub returns : goal.returns
returns c =
    let s = c.args.text.now in (
      sym (number_end (2 ^ 32) c.loop-i.value s c.loop-i.i c.loop-i-test.false) ∙ c.loop-i.invariant.1,
      omega (arith, through_end space s c.loop-i.i c.loop-i-test.false),
    )
