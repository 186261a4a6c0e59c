-- `take_mark` meets its contract.
-- Assumes nothing.
use mathlib.Core.Path.{◌≡◌, sym, ap, ◌∙◌}
use mathlib.Core.Bool.{true, false}
use borrow.Author.Tests.{not-true, not-false}
use Rattle.model.specs.declared.Tally.{Tally}
use Rattle.model.specs.Refusals.{not_a_slot}
use Rattle.rules.proofs.Laws.States.{slot_few, marks_refused, marks_allowed}
use Rattle.rules.proofs.states.take_mark.Goals as goal

pub returns-then-not-is_slot : goal.returns-then-not-is_slot
returns-then-not-is_slot c = let n : not_a_slot c.args.actor c.args.slot ≡ true = not-false _ (sym c.is_slot.ensures ∙ not-true _ c.if-not-is_slot.true-raw) in (marks_refused c.args.table.now c.args.bits.now c.args.stored.now c.args.copies.now c.args.t c.args.actor c.args.slot c.args.k c.requires.0 c.requires.1 c.requires.2 n c.refused.result.outcome c.refused.ensures.1 c.refused.ensures.2, c.requires.2, c.refused.ensures.0, ap (λ (y : Tally). y.issued) c.refused.ensures.1)

pub store-requires : goal.store-requires
store-requires c = (c.requires.0, c.requires.1, c.requires.2, slot_few c.args.actor c.args.slot (not-true _ (sym c.is_slot.ensures ∙ not-false _ c.if-not-is_slot.false-raw)))

pub returns : goal.returns
returns c = let n : not_a_slot c.args.actor c.args.slot ≡ false = not-true _ (sym c.is_slot.ensures ∙ not-false _ c.if-not-is_slot.false-raw) in (marks_allowed c.args.table.now c.args.bits.now c.args.stored.now c.args.copies.now c.args.t c.args.actor c.args.slot c.args.k c.requires.0 c.requires.1 c.requires.2 n c.store.new.stored c.store.new.copies c.store.ensures c.uncounted.result.outcome c.uncounted.ensures.1 c.uncounted.ensures.2, c.store.ensures.memory, c.uncounted.ensures.0, ap (λ (y : Tally). y.issued) c.uncounted.ensures.1)
