-- `take_line` meets its contract: the step of the event that the line spells, or what a line that spells none does.
-- Assumes nothing.
use mathlib.Core.Path.{◌≡◌, sym, ap, ◌∙◌}
use Rattle.model.specs.Answers.{number}
use Rattle.text.specs.Result.{refused}
use Rattle.text.specs.Read.{read_answer, read_event}
use Rattle.text.specs.Request.{or_group}
use Rattle.table.specs.Sheets.{sheet_in}
use Rattle.table.specs.Limits.{limits_in}
use Rattle.table.specs.States.{states_in}
use Rattle.trace.proofs.Laws.Turn.{taken_request, taken_as}
use Rattle.trace.proofs.run.take_line.Goals as goal

pub returns-in-Ok : goal.returns-in-Ok
returns-in-Ok c = (taken_request (sheet_in c.args.sheet.now) (limits_in c.args.limits.now) c.args.table.now c.args.bits.now (states_in c.args.stored.now c.args.copies.now) c.args.tally (ap (or_group (limits_in c.args.limits.now) c.args.line.now) (sym (ap read_answer (sym c.in-Ok.is) ∙ c.read_event-found.ensures))) c.take.ensures.0, c.take.ensures.1)

pub returns-in-Err : goal.returns-in-Err
returns-in-Err c = let read : read_event c.args.spelling c.args.line.now ≡ refused (number c.in-Err.field-0) = sym (ap read_answer (sym c.in-Err.is) ∙ c.read_event-found.ensures) in
    (taken_as (sheet_in c.args.sheet.now) (limits_in c.args.limits.now) c.args.table.now c.args.bits.now (states_in c.args.stored.now c.args.copies.now) c.args.tally (ap (or_group (limits_in c.args.limits.now) c.args.line.now) read) c.take_group.ensures.0, c.take_group.ensures.1)
