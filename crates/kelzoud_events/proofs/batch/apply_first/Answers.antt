-- `kelzoud_events::batch::apply_first` meets its contract: what was found of all that is lent goes to all events, or each is refusal 1.
-- Assumes nothing.
use Rattle.std.specs.Prelude.{ℕ, Option}
use mathlib.Core.Path.{◌≡◌, sym, ap, subst, ◌∙◌}
use mathlib.Core.Bool.{true}
use Rattle.model.specs.declared.Tally.{Tally}
use Rattle.model.specs.Refusals.{unfit, view_of}
use Rattle.table.specs.Sheets.{sheet_in}
use Rattle.table.specs.Words.{rows_in}
use Rattle.table.specs.Limits.{limits_in}
use Rattle.table.specs.States.{states_in}
use Rattle.table.specs.Lent.{tally_in, lent}
use Rattle.table.specs.Known.{FindsAll}
use Rattle.kelzoud_events.proofs.Turns.{ran_refused}
use Rattle.kelzoud_events.proofs.batch.apply_first.Goals as goal

pub take_turns-after-requires : goal.take_turns-after-requires
take_turns-after-requires c = let a = c.args in (subst (λ (x : Option ℕ). FindsAll a.table.now a.bits.now a.stored.now a.copies.now c.tally_at-t.result.issued a.limits.now c.look_all-found.new.places x) c.in-Some.is c.look_all-found.ensures, c.requires.0, c.requires.1)

pub returns-in-Some : goal.returns-in-Some
returns-in-Some c = rw (c.tally_at-t.ensures, ← c.set_tally.ensures) at c.take_turns-after.ensures

pub returns-in-None : goal.returns-in-None
returns-in-None c = let a = c.args in let slots = states_in a.stored.now a.copies.now in
    let d : unfit (limits_in a.limits.now) (view_of (rows_in a.table.now) a.bits.now slots (tally_in a.tally.now).issued) ≡ true =
    ap (λ (x : Tally). unfit (limits_in a.limits.now) (view_of (rows_in a.table.now) a.bits.now slots x.issued)) (sym c.tally_at-t.ensures) ∙ subst (λ (x : Option ℕ). FindsAll a.table.now a.bits.now a.stored.now a.copies.now c.tally_at-t.result.issued a.limits.now c.look_all-found.new.places x) c.in-None.is c.look_all-found.ensures in
    ran_refused (sheet_in a.sheet.now) (limits_in a.limits.now) (lent a.table.now a.bits.now a.stored.now a.copies.now a.tally.now) d a.events.now a.names.now a.m a.answers.now c.refuse_all.new.answers c.requires.0 c.refuse_all.ensures
