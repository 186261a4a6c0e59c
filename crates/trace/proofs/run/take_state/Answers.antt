-- `take_state` meets its contract: the mark or back that the line spells, or refusal 2.
-- Assumes nothing.
use mathlib.Core.Path.{◌≡◌, sym, ap, ◌∙◌}
use Rattle.model.specs.declared.Tally.{Tally}
use Rattle.model.specs.Answers.{number}
use Rattle.text.specs.Result.{refused}
use Rattle.text.specs.State.{read_state, state_answer}
use Rattle.text.specs.Request.{state_of}
use Rattle.text.proofs.Offered.{refused_state_is_2}
use Rattle.table.specs.Sheets.{sheet_in}
use Rattle.table.specs.Limits.{limits_in}
use Rattle.table.specs.States.{states_in}
use Rattle.trace.proofs.Laws.Turn.{taken_request, taken_misspelt}
use Rattle.trace.proofs.run.take_state.Goals as goal

pub returns-in-Ok : goal.returns-in-Ok
returns-in-Ok c = (taken_request (sheet_in c.args.sheet.now) (limits_in c.args.limits.now) c.args.table.now c.args.bits.now (states_in c.args.stored.now c.args.copies.now) c.args.tally (ap (state_of (limits_in c.args.limits.now)) (sym (ap state_answer (sym c.in-Ok.is) ∙ c.read_state-found.ensures))) c.take.ensures.0, c.take.ensures.1)

pub returns-in-Err : goal.returns-in-Err
returns-in-Err c = let read : read_state c.args.line.now ≡ refused (number c.in-Err.field-0) = sym (ap state_answer (sym c.in-Err.is) ∙ c.read_state-found.ensures) in
    (taken_misspelt (sheet_in c.args.sheet.now) (limits_in c.args.limits.now) c.args.table.now c.args.bits.now (states_in c.args.stored.now c.args.copies.now) c.args.tally (ap (state_of (limits_in c.args.limits.now)) (read ∙ ap refused (refused_state_is_2 c.args.line.now (number c.in-Err.field-0) read))) c.count_refused-counted.ensures, rw (ap (λ (y : Tally). y.issued) c.count_refused-counted.ensures) c.requires)
