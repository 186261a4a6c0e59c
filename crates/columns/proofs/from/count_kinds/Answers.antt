use mathlib.Core.Path.{◌≡◌, refl, sym, ap, ◌∙◌}
use mathlib.Core.Bool.{Bool, true, false}
use Prim.Native.Nat.{ℕ, ◌+◌}
use Rattle.std.proofs.Common.{add-zero}
use mir.Val.{bool_byte}
use native.Mathlib.Omega.{arith}
use lib.ListN.{drop, get_or}
use Rattle.model.specs.Lists.{all}
use Rattle.text.specs.Result.{value}
use Rattle.columns.specs.Columns.{has_name, has_span, has_right}
use Rattle.columns.specs.Walk.{is_five, count_if, with_kind, counts_of}
use Rattle.columns.proofs.Laws.Turns.{counts, small_with, all_more, all_found, plus, kinds_none, kinds_more, kinds_all}
use Rattle.columns.proofs.from.count_kinds.Goals as goal

-- a test as a number, put to a count
one_more : (has : Bool) (n : ℕ) → n + bool_byte has ≡ count_if has n
one_more true n = refl
one_more false n = add-zero n

pub loop-byte-init : goal.loop-byte-init
loop-byte-init c = (omega arith, record { names = omega arith; spans = omega arith; rights = omega arith }, refl, kinds_none c.args.kinds.now)

pub loop-byte-preserved : goal.loop-byte-preserved
loop-byte-preserved c =
    let kinds = c.args.kinds.now in
    let i = c.loop-byte.byte-index in
    let t = c.loop-byte-test.true in
    let k = get_or kinds i 0 in
    let l = c.loop-byte in
    let so_far = counts l.names l.spans l.rights in
    let next = counts (l.names + bool_byte (has_name k)) (l.spans + bool_byte (has_span k)) (l.rights + bool_byte (has_right k)) in
    let to : next ≡ with_kind k so_far = λ j. counts (one_more (has_name k) l.names j) (one_more (has_span k) l.spans j) (one_more (has_right k) l.rights j) in
    (omega (arith, t), small_with k l.invariant.1 to, rw c.is_five-five.ensures (all_more is_five kinds 0 i l.five t) ∙ l.invariant.2, ap (λ n. plus n (counts_of (drop (i + 1) kinds))) to ∙ kinds_more kinds i so_far t ∙ l.invariant.3)

pub returns-then-five : goal.returns-then-five
returns-then-five c =
    let kinds = c.args.kinds.now in
    let every : all is_five kinds ≡ true = sym (all_found is_five kinds c.loop-byte.byte-index c.loop-byte.five c.loop-byte-test.false ∙ c.loop-byte.invariant.2) ∙ c.if-five.true in
    rw every (ap value (kinds_all kinds c.loop-byte.byte-index (counts c.loop-byte.names c.loop-byte.spans c.loop-byte.rights) c.loop-byte-test.false ∙ c.loop-byte.invariant.3))

pub returns-else-five : goal.returns-else-five
returns-else-five c =
    let kinds = c.args.kinds.now in
    let some : all is_five kinds ≡ false = sym (all_found is_five kinds c.loop-byte.byte-index c.loop-byte.five c.loop-byte-test.false ∙ c.loop-byte.invariant.2) ∙ c.if-five.false in
    rw some
