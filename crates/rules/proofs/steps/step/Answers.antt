-- `step` meets its contract.
-- Assumes nothing.
use Rattle.std.specs.Prelude.{ℕ, Option}
use mathlib.Core.Path.{◌≡◌, subst}
use mathlib.Core.Bool.{true}
use Rattle.model.specs.Requests.{request_of}
use Rattle.model.specs.Refusals.{unfit, view_of}
use Rattle.table.specs.Words.{rows_in}
use Rattle.table.specs.Sheets.{sheet_in}
use Rattle.table.specs.Limits.{limits_in}
use Rattle.table.specs.States.{states_in}
use Rattle.table.specs.Known.{FindsAll}
use Rattle.rules.proofs.Laws.Steps.{stepped_unfit, asked_limits}
use Rattle.rules.proofs.steps.step.Goals as goal

pub take-p-requires : goal.take-p-requires
take-p-requires c = subst (λ (x : Option ℕ). FindsAll c.args.table.now c.args.bits.now c.args.stored.now c.args.copies.now c.args.t.issued c.args.limits.now c.look_all-found.new.places x) c.in-Some.is c.look_all-found.ensures

pub returns-in-Some : goal.returns-in-Some
returns-in-Some c = c.take-p.ensures.0

pub returns-in-None : goal.returns-in-None
returns-in-None c = let slots = states_in c.args.stored.now c.args.copies.now in
    let u : unfit (limits_in c.args.limits.now) (view_of (rows_in c.args.table.now) c.args.bits.now slots c.args.t.issued) ≡ true = subst (λ (x : Option ℕ). FindsAll c.args.table.now c.args.bits.now c.args.stored.now c.args.copies.now c.args.t.issued c.args.limits.now c.look_all-found.new.places x) c.in-None.is c.look_all-found.ensures in
    stepped_unfit (sheet_in c.args.sheet.now) c.args.table.now c.args.bits.now slots c.args.t (request_of (limits_in c.args.limits.now) c.args.asked c.args.names.now)
    (asked_limits (λ x. unfit x (view_of (rows_in c.args.table.now) c.args.bits.now slots c.args.t.issued) ≡ true) (limits_in c.args.limits.now) c.args.asked c.args.names.now u)
    c.disordered.result c.disordered.ensures.0 c.disordered.ensures.1
