use mathlib.Core.Path.{◌≡◌, refl, sym, ap, ◌∙◌}
use mathlib.Core.Bool.{true, false}
use mathlib.Core.List.{[]}
use native.Mathlib.Omega.{arith}
use lib.ListN.{get_or}
use borrow.Author.Tests.{not-true, not-false}
use Rattle.model.specs.Lists.{all}
use Rattle.text.specs.Result.{value}
use Rattle.columns.specs.Form.{is_event}
use Rattle.columns.specs.Walk.{with_kind, kinds_in}
use Rattle.columns.proofs.Laws.Turns.{small_with, all_next, all_end, kinds_none, kinds_more, kinds_all}
use Rattle.columns.proofs.Laws.To.{kind_at, kinds_length}
use Rattle.columns.proofs.to.count_events.Goals as goal

pub loop-w-init : goal.loop-w-init
loop-w-init c = (omega arith, record { names = omega arith; spans = omega arith; rights = omega arith }, refl, kinds_none (kinds_in c.args.events.now))

pub returns-then-not-is_event : goal.returns-then-not-is_event
returns-then-not-is_event c =
    let ws = c.args.events.now in
    let no : is_event (get_or ws c.loop-w.w-index []) ≡ false = sym c.is_event.ensures ∙ not-true c.is_event.result c.if-not-is_event.true-raw in
    let some : all is_event ws ≡ false = sym c.loop-w.invariant.2 ∙ all_next is_event ws [] c.loop-w.w-index c.loop-w-test.true ∙ rw no in
    rw some

pub loop-w-preserved : goal.loop-w-preserved
loop-w-preserved c =
    let ws = c.args.events.now in
    let t = c.loop-w-test.true in
    let yes : is_event (get_or ws c.loop-w.w-index []) ≡ true = sym c.is_event.ensures ∙ not-false c.is_event.result c.if-not-is_event.false-raw in
    let kind = get_or (kinds_in ws) c.loop-w.w-index 0 in
    let to : c.with_kind-counts.result ≡ with_kind kind c.loop-w.counts = c.with_kind-counts.ensures ∙ ap (λ k. with_kind k c.loop-w.counts) (sym (kind_at ws c.loop-w.w-index)) in
    (omega (arith, t), small_with kind c.loop-w.invariant.1 to, sym (all_next is_event ws [] c.loop-w.w-index t ∙ rw yes) ∙ c.loop-w.invariant.2, rw to (kinds_more (kinds_in ws) c.loop-w.w-index c.loop-w.counts (omega (arith, t, kinds_length ws))) ∙ c.loop-w.invariant.3)

pub returns : goal.returns
returns c =
    let ws = c.args.events.now in
    let every : all is_event ws ≡ true = sym c.loop-w.invariant.2 ∙ all_end is_event ws c.loop-w.w-index c.loop-w-test.false in
    rw every (ap value (kinds_all (kinds_in ws) c.loop-w.w-index c.loop-w.counts (omega (arith, c.loop-w-test.false, kinds_length ws)) ∙ c.loop-w.invariant.3))
