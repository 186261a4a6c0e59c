-- `step_work` meets its contract.
-- Assumes nothing.
use Rattle.std.specs.Prelude.{ℕ, Option}
use mathlib.Core.Path.{◌≡◌, subst}
use mathlib.Core.Bool.{true}
use Rattle.model.specs.Requests.{work_of}
use Rattle.model.specs.Refusals.{unfit, view_of}
use Rattle.model.specs.Slots.{unstored}
use Rattle.table.specs.Words.{rows_in}
use Rattle.table.specs.Sheets.{sheet_in}
use Rattle.table.specs.Limits.{limits_in}
use Rattle.table.specs.Known.{Finds}
use Rattle.rules.proofs.Laws.Steps.{stepped_unfit, with_limits}
use Rattle.rules.proofs.steps.step_work.Goals as goal

pub take_work-p-requires : goal.take_work-p-requires
take_work-p-requires c = subst (λ (x : Option ℕ). Finds c.args.table.now c.args.bits.now c.args.t.issued c.args.limits.now c.look-found.new.places x) c.in-Some.is c.look-found.ensures

pub returns-in-Some : goal.returns-in-Some
returns-in-Some c = c.take_work-p.ensures.0

pub returns-in-None : goal.returns-in-None
returns-in-None c =
    let u : unfit (limits_in c.args.limits.now) (view_of (rows_in c.args.table.now) c.args.bits.now unstored c.args.t.issued) ≡ true = subst (λ (x : Option ℕ). Finds c.args.table.now c.args.bits.now c.args.t.issued c.args.limits.now c.look-found.new.places x) c.in-None.is c.look-found.ensures in
    stepped_unfit (sheet_in c.args.sheet.now) c.args.table.now c.args.bits.now unstored c.args.t (work_of (limits_in c.args.limits.now) c.args.work c.args.names.now)
    (with_limits (λ x. unfit x (view_of (rows_in c.args.table.now) c.args.bits.now unstored c.args.t.issued) ≡ true) (limits_in c.args.limits.now) c.args.work c.args.names.now u)
    c.disordered.result c.disordered.ensures.0 c.disordered.ensures.1
