-- `take_group` meets its contract: the names that the line spells are dropped together, or it is a mark or a back.
-- Assumes nothing.
use mathlib.Core.Path.{◌≡◌, sym, ap, ◌∙◌}
use mathlib.Core.List.{List}
use Prim.Native.Nat.{ℕ}
use lib.Seq.{length-take-le}
use Rattle.model.specs.Answers.{number}
use Rattle.text.specs.Result.{value, refused}
use Rattle.text.specs.Group.{read_group, group_answer}
use Rattle.text.specs.Request.{or_state}
use Rattle.table.specs.Sheets.{sheet_in}
use Rattle.table.specs.Limits.{limits_in}
use Rattle.table.specs.States.{states_in}
use Rattle.trace.proofs.Laws.Turn.{taken_request, taken_as}
use Rattle.trace.proofs.Laws.Names.{Got, got, none_got}
use Rattle.trace.proofs.run.take_group.Goals as goal

pub slice_bounds-names-end : goal.slice_bounds-names-end
slice_bounds-names-end c =
    let left : Got c.args.line.now c.in-Ok.actor c.in-Ok.count c.read_group-found.new.names = got _ _ _ _ (ap group_answer (sym c.in-Ok.is) ∙ c.read_group-found.ensures.0) c.read_group-found.ensures.1 in
    left.inside

pub slice_bounds-take-end : goal.slice_bounds-take-end
slice_bounds-take-end c =
    let left : Got c.args.line.now c.in-Ok.actor c.in-Ok.count c.read_group-found.new.names = got _ _ _ _ (ap group_answer (sym c.in-Ok.is) ∙ c.read_group-found.ensures.0) c.read_group-found.ensures.1 in
    sym (length-take-le _ _ left.inside)

pub returns-in-Ok : goal.returns-in-Ok
returns-in-Ok c =
    let left : Got c.args.line.now c.in-Ok.actor c.in-Ok.count c.read_group-found.new.names = got _ _ _ _ (ap group_answer (sym c.in-Ok.is) ∙ c.read_group-found.ensures.0) c.read_group-found.ensures.1 in
    let g = left in
    (taken_request (sheet_in c.args.sheet.now) (limits_in c.args.limits.now) c.args.table.now c.args.bits.now (states_in c.args.stored.now c.args.copies.now) c.args.tally (ap (or_state (limits_in c.args.limits.now) c.args.line.now) (g.read ∙ ap (λ (names : List ℕ). value (c.in-Ok.actor, names)) (sym g.taken))) c.take.ensures.0, c.take.ensures.1)

pub returns-in-Err : goal.returns-in-Err
returns-in-Err c = let read : read_group c.args.line.now ≡ refused 2 = none_got c.args.line.now (number c.in-Err.field-0) (ap group_answer (sym c.in-Err.is) ∙ c.read_group-found.ensures.0) in
    (taken_as (sheet_in c.args.sheet.now) (limits_in c.args.limits.now) c.args.table.now c.args.bits.now (states_in c.args.stored.now c.args.copies.now) c.args.tally (ap (or_state (limits_in c.args.limits.now) c.args.line.now) read) c.take_state.ensures.0, c.take_state.ensures.1)
