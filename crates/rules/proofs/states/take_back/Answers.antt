-- `take_back` meets its contract.
-- Assumes nothing.
use mathlib.Core.Path.{◌≡◌, refl, sym, ap, subst, ◌∙◌}
use mathlib.Core.Bool.{true, false}
use lib.ListN.{length}
use borrow.Author.Tests.{not-true, not-false}
use Rattle.model.specs.declared.Tally.{Tally}
use Rattle.model.specs.Refusals.{unfit_slot}
use Rattle.model.specs.Slots.{Nothing}
use Rattle.table.specs.declared.states.Stock.{Stock}
use Rattle.table.specs.Limits.{limits_in}
use Rattle.table.specs.States.{table_at, Kept, LooksBack}
use Rattle.table.proofs.Offered.{rows_size}
use Rattle.rules.proofs.Laws.States.{limits_for, same_fit, backs_out, backs_unfit, backs_empty, backs_stranger, backs_allowed, fit_back}
use borrow.Author.Rules.{rules}
use Rattle.rules.proofs.states.take_back.Goals as goal

pub returns-then-slot-gt7 : goal.returns-then-slot-gt7
returns-then-slot-gt7 c = (backs_out (limits_in c.args.limits.now) c.args.table.now c.args.bits.now c.args.stored.now c.args.copies.now c.args.t c.args.actor c.args.slot c.args.k c.requires.fit.known.orderly c.requires.fit.sized c.requires.memory c.requires.fit.allowed c.if-slot-gt7.true c.refused.result.outcome c.refused.ensures.1 c.refused.ensures.2, same_fit c.args.table.now c.args.bits.now c.args.k c.refused.result.live c.args.t.issued c.refused.result.outcome.tally.issued c.args.limits.now c.args.places.now c.requires.fit c.refused.ensures.0 (ap (λ (y : Tally). y.issued) c.refused.ensures.1))

pub look_back-found-requires : goal.look_back-found-requires
look_back-found-requires c = (rows_size c.args.stored.now c.args.copies.now c.requires.memory, c.if-slot-gt7.false, c.requires.fit.known.orderly.few, limits_for c.args.table.now c.args.limits.now c.requires.fit.allowed, search rules)

pub returns-then-not-is_domain : goal.returns-then-not-is_domain
returns-then-not-is_domain c = let l : Kept c.args.stored.now c.args.slot (length c.args.table.now) c.in-Fit.live c.args.t.issued c.look_back-found.new.places × (unfit_slot (limits_in c.args.limits.now) (length c.args.table.now) c.args.t.issued (table_at c.args.stored.now c.args.slot) ≡ false) = subst (λ (p : Stock). LooksBack c.args.stored.now c.args.slot (length c.args.table.now) c.args.t.issued c.args.limits.now c.look_back-found.new.places p) c.in-Fit.is c.look_back-found.ensures in (backs_stranger (limits_in c.args.limits.now) c.args.table.now c.args.bits.now c.args.stored.now c.args.copies.now c.args.t c.args.actor c.args.slot c.args.k c.requires.fit.known.orderly c.requires.fit.sized c.requires.memory c.requires.fit.allowed c.if-slot-gt7.false l.1 (sym c.is_domain.ensures ∙ not-true _ c.if-not-is_domain.true-raw) c.refused-then-not-is_domain.result.outcome c.refused-then-not-is_domain.ensures.1 c.refused-then-not-is_domain.ensures.2, same_fit c.args.table.now c.args.bits.now c.args.k c.refused-then-not-is_domain.result.live c.args.t.issued c.refused-then-not-is_domain.result.outcome.tally.issued c.args.limits.now c.args.places.now c.requires.fit c.refused-then-not-is_domain.ensures.0 (ap (λ (y : Tally). y.issued) c.refused-then-not-is_domain.ensures.1))

pub bring-requires : goal.bring-requires
bring-requires c = let l : Kept c.args.stored.now c.args.slot (length c.args.table.now) c.in-Fit.live c.args.t.issued c.look_back-found.new.places × (unfit_slot (limits_in c.args.limits.now) (length c.args.table.now) c.args.t.issued (table_at c.args.stored.now c.args.slot) ≡ false) = subst (λ (p : Stock). LooksBack c.args.stored.now c.args.slot (length c.args.table.now) c.args.t.issued c.args.limits.now c.look_back-found.new.places p) c.in-Fit.is c.look_back-found.ensures in (c.requires.fit.known.orderly, c.requires.fit.sized, c.requires.memory, c.if-slot-gt7.false, l.0.orderly.front.fits)

pub returns-in-Unfit : goal.returns-in-Unfit
returns-in-Unfit c = let u : unfit_slot (limits_in c.args.limits.now) (length c.args.table.now) c.args.t.issued (table_at c.args.stored.now c.args.slot) ≡ true = subst (λ (p : Stock). LooksBack c.args.stored.now c.args.slot (length c.args.table.now) c.args.t.issued c.args.limits.now c.look_back-found.new.places p) c.in-Unfit.is c.look_back-found.ensures in (backs_unfit (limits_in c.args.limits.now) c.args.table.now c.args.bits.now c.args.stored.now c.args.copies.now c.args.t c.args.actor c.args.slot c.args.k c.requires.fit.known.orderly c.requires.fit.sized c.requires.memory c.requires.fit.allowed c.if-slot-gt7.false u c.uncounted.result.outcome c.uncounted.ensures.1 c.uncounted.ensures.2, same_fit c.args.table.now c.args.bits.now c.args.k c.uncounted.result.live c.args.t.issued c.uncounted.result.outcome.tally.issued c.args.limits.now c.args.places.now c.requires.fit c.uncounted.ensures.0 (ap (λ (y : Tally). y.issued) c.uncounted.ensures.1))

pub returns-in-Empty : goal.returns-in-Empty
returns-in-Empty c = let z : table_at c.args.stored.now c.args.slot ≡ Nothing = subst (λ (p : Stock). LooksBack c.args.stored.now c.args.slot (length c.args.table.now) c.args.t.issued c.args.limits.now c.look_back-found.new.places p) c.in-Empty.is c.look_back-found.ensures in (backs_empty (limits_in c.args.limits.now) c.args.table.now c.args.bits.now c.args.stored.now c.args.copies.now c.args.t c.args.actor c.args.slot c.args.k c.requires.fit.known.orderly c.requires.fit.sized c.requires.memory c.requires.fit.allowed c.if-slot-gt7.false z c.nothing_stored.result c.nothing_stored.ensures c.refused-in-Empty.result.outcome c.refused-in-Empty.ensures.1 c.refused-in-Empty.ensures.2, same_fit c.args.table.now c.args.bits.now c.args.k c.refused-in-Empty.result.live c.args.t.issued c.refused-in-Empty.result.outcome.tally.issued c.args.limits.now c.args.places.now c.requires.fit c.refused-in-Empty.ensures.0 (ap (λ (y : Tally). y.issued) c.refused-in-Empty.ensures.1))

pub returns-else-not-is_domain : goal.returns-else-not-is_domain
returns-else-not-is_domain c = let l : Kept c.args.stored.now c.args.slot (length c.args.table.now) c.in-Fit.live c.args.t.issued c.look_back-found.new.places × (unfit_slot (limits_in c.args.limits.now) (length c.args.table.now) c.args.t.issued (table_at c.args.stored.now c.args.slot) ≡ false) = subst (λ (p : Stock). LooksBack c.args.stored.now c.args.slot (length c.args.table.now) c.args.t.issued c.args.limits.now c.look_back-found.new.places p) c.in-Fit.is c.look_back-found.ensures in (
  backs_allowed (limits_in c.args.limits.now) c.args.table.now c.args.bits.now c.args.stored.now c.args.copies.now c.args.t c.args.actor c.args.slot c.args.k c.requires.fit.known.orderly c.requires.fit.sized c.requires.memory c.requires.fit.allowed c.if-slot-gt7.false c.in-Fit.live c.look_back-found.new.places l.0 l.1 c.bring.new.table c.bring.new.bits c.bring.ensures (sym c.is_domain.ensures ∙ not-false _ c.if-not-is_domain.false-raw) c.uncounted-in-Fit.result.outcome c.uncounted-in-Fit.ensures.1 c.uncounted-in-Fit.ensures.2,
  same_fit c.bring.new.table c.bring.new.bits c.in-Fit.live c.uncounted-in-Fit.result.live c.args.t.issued c.uncounted-in-Fit.result.outcome.tally.issued c.args.limits.now c.look_back-found.new.places
      (fit_back (limits_in c.args.limits.now) c.args.table.now c.args.bits.now c.args.stored.now c.args.copies.now c.args.t c.args.actor c.args.slot c.args.k c.requires.fit.known.orderly c.requires.fit.sized c.requires.memory c.requires.fit.allowed c.if-slot-gt7.false c.in-Fit.live c.look_back-found.new.places l.0 l.1 c.bring.new.table c.bring.new.bits c.bring.ensures c.args.limits.now refl c.table-1.given c.bits-1.given) c.uncounted-in-Fit.ensures.0 (ap (λ (y : Tally). y.issued) c.uncounted-in-Fit.ensures.1),
)
