use mathlib.Core.Path.{◌≡◌, sym, ap, ◌∙◌}
use mathlib.Core.List.{List, ◌++◌, append-nil}
use Prim.Native.Nat.{ℕ, ◌+◌, ◌-◌, ◌≤◌}
use native.Mathlib.Omega.{arith}
use lib.ListN.{length, take, drop, length-set, length-drop}
use lib.Seq.{take_all}
use Rattle.text.specs.Class.{space}
use Rattle.text.specs.Line.{through}
use Rattle.text.specs.Decimal.{number_of}
use Rattle.text.specs.Group.{names_from, guess_names}
use Rattle.text.proofs.Laws.Line.{through_le}
use Rattle.text.proofs.Laws.Group.{guess_on, guess_end}
use Rattle.text.proofs.group.guess_names.Goals as goal

-- what is read is what is left of the form
rest : (s : List ℕ) (at : ℕ) → take (length s - at) (drop at s) ≡ drop at s
rest s at = take_all (length s - at) (drop at s) (omega (arith, length-drop at s))

pub loop-count-init : goal.loop-count-init
unfolding guess_names
loop-count-init c =
    let s = c.args.form.now in
    (omega (arith, c.count_through-at.ensures, through_le space s), c.requires, ap (λ (k : ℕ). names_from 64 (drop k s)) c.count_through-at.ensures)

pub returns-then-form-at : goal.returns-then-form-at
returns-then-form-at c =
    let s = c.args.form.now in
    record {
      few = omega arith;
      full = c.loop-count.invariant.1;
      first = sym (append-nil (take c.loop-count.count c.loop-count.names))
          ∙ ap (λ (t : List ℕ). take c.loop-count.count c.loop-count.names ++ t) (sym (guess_end s c.loop-count.at (64 - c.loop-count.count) c.if-form-at.true))
          ∙ c.loop-count.invariant.2;
    }

pub loop-count-preserved : goal.loop-count-preserved
loop-count-preserved c =
    let form : List ℕ = c.args.form.now in
    let at : ℕ = c.loop-count.at in
    let value-is : c.read_word-word.result.value ≡ number_of (drop at form) = c.read_word-word.ensures.0 ∙ ap number_of (rest form at) in
    let end_is : c.read_word-word.result.end ≡ through space (drop at form) = c.read_word-word.ensures.1 ∙ ap (through space) (rest form at) in
    let next-inside : at + c.read_word-word.result.end ≤ length form = omega (arith, end_is, through_le space (drop at form), length-drop at form, c.if-form-at.false) in (
      next-inside,
      length-set c.loop-count.names c.loop-count.count c.read_word-word.result.value ∙ c.loop-count.invariant.1,
      guess_on form c.loop-count.names c.loop-count.at c.loop-count.count _ _ c.loop-count-test.true c.loop-count.invariant.1 (omega (arith, c.if-form-at.false)) value-is end_is
          ∙ c.loop-count.invariant.2,
    )

pub returns : goal.returns
unfolding names_from
returns c =
    let full : c.loop-count.count ≡ 64 = omega arith in
    let none : 64 - c.loop-count.count ≡ 0 = omega arith in
    record {
      few = omega arith;
      full = c.loop-count.invariant.1;
      first = ap (λ (k : ℕ). take k c.loop-count.names) (sym full)
          ∙ sym (append-nil (take c.loop-count.count c.loop-count.names))
          ∙ ap (λ (k : ℕ). take c.loop-count.count c.loop-count.names ++ names_from k (drop c.loop-count.at c.args.form.now)) (sym none)
          ∙ c.loop-count.invariant.2;
    }

pub overflow_add-at : goal.overflow_add-at
overflow_add-at c =
    let form : List ℕ = c.args.form.now in
    let at : ℕ = c.loop-count.at in
    let end_is : c.read_word-word.result.end ≡ through space (drop at form) = c.read_word-word.ensures.1 ∙ ap (through space) (rest form at) in
    let next-inside : at + c.read_word-word.result.end ≤ length form = omega (arith, end_is, through_le space (drop at form), length-drop at form, c.if-form-at.false) in
    omega (arith, next-inside)
