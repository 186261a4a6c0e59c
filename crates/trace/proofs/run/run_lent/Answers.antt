-- `run_lent` meets its contract: all that is lent is judged once, before the first line.
-- Assumes nothing.
use Rattle.std.specs.Prelude.{ℕ, Option, Result}
use mathlib.Core.Path.{sym, ap₂, ◌∙◌, subst}
use Rattle.model.specs.declared.Tally.{Tally}
use Rattle.table.specs.Sheets.{sheet_in}
use Rattle.table.specs.Limits.{limits_in}
use Rattle.table.specs.States.{states_in}
use Rattle.table.specs.Words.{rows_in}
use Rattle.table.specs.Known.{FindsAll}
use Rattle.rules.specs.Steps.{lends}
use Rattle.trace.specs.declared.run.RefusedAt.{RefusedAt}
use Rattle.trace.specs.Run.{ran_of}
use Rattle.trace.proofs.Laws.Order.{refused_run}
use Rattle.trace.proofs.run.run_lent.Goals as goal

pub run_text-requires : goal.run_text-requires
run_text-requires c = subst (λ (x : Option ℕ). FindsAll c.args.table.now c.args.bits.now c.args.stored.now c.args.copies.now c.args.tally.issued c.args.limits.now c.look_all-found.new.places x) c.in-Some.is c.look_all-found.ensures

pub returns-in-None : goal.returns-in-None
returns-in-None c = let h = lends (rows_in c.args.table.now) c.args.bits.now (states_in c.args.stored.now c.args.copies.now) in
    record { ran = ap₂ (λ (x : Result ℕ RefusedAt) (z : Tally). ran_of x (h z)) c.disordered.ensures.1 c.disordered.ensures.0 ∙ sym (refused_run (sheet_in c.args.sheet.now) (limits_in c.args.limits.now) (h c.args.tally) c.args.text.now (subst (λ (x : Option ℕ). FindsAll c.args.table.now c.args.bits.now c.args.stored.now c.args.copies.now c.args.tally.issued c.args.limits.now c.look_all-found.new.places x) c.in-None.is c.look_all-found.ensures)) }
