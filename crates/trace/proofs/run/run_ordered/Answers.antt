use mathlib.Core.Path.{refl, ◌∙◌}
use native.Mathlib.Omega.{arith}
use Rattle.table.specs.Words.{rows_in}
use Rattle.table.specs.Limits.{limits_in}
use Rattle.table.specs.Sheets.{sheet_in}
use Rattle.table.specs.States.{states_in}
use Rattle.rules.specs.Steps.{lends}
use Rattle.trace.proofs.Laws.Turn.{line_some, line_inside, turn_on, turn_ends, run_ends}
use Rattle.trace.proofs.run.run_ordered.Goals as goal

pub loop-at-init : goal.loop-at-init
loop-at-init c = (omega arith, omega (arith, c.requires.1), c.requires.0, refl, refl, refl, refl, refl)

pub take_line-taken-requires : goal.take_line-taken-requires
take_line-taken-requires c = c.loop-at.invariant.2

pub overflow_add-count : goal.overflow_add-count
overflow_add-count c = omega (arith, c.loop-at.invariant.1, c.loop-at.invariant.0, c.well_formed)

pub shape_of-table-in-Err : goal.shape_of-table-in-Err
shape_of-table-in-Err c = c.table-1.given ∙ c.loop-at.invariant.3

pub shape_of-bits-in-Err : goal.shape_of-bits-in-Err
shape_of-bits-in-Err c = c.bits-1.given ∙ c.loop-at.invariant.4

pub shape_of-stored-in-Err : goal.shape_of-stored-in-Err
shape_of-stored-in-Err c = c.stored-1.given ∙ c.loop-at.invariant.5

pub shape_of-copies-in-Err : goal.shape_of-copies-in-Err
shape_of-copies-in-Err c = c.copies-1.given ∙ c.loop-at.invariant.6

pub returns-in-Err : goal.returns-in-Err
returns-in-Err c = record { ran = turn_ends c.args.text.now c.loop-at.at c.loop-at-test.true c.next_line-line.result.now c.next_line-line.ensures c.loop-at.count c.args.spelling c.take_line-taken.ensures.0 c.in-Err.is ∙ c.loop-at.invariant.7 }

pub overflow_add-at : goal.overflow_add-at
overflow_add-at c = omega (arith, c.well_formed, line_inside c.args.text.now c.loop-at.at c.loop-at-test.true c.next_line-line.result.now c.next_line-line.ensures)

pub loop-at-smaller : goal.loop-at-smaller
loop-at-smaller c = omega (arith, line_some c.args.text.now c.loop-at.at c.loop-at-test.true c.next_line-line.result.now c.next_line-line.ensures, line_inside c.args.text.now c.loop-at.at c.loop-at-test.true c.next_line-line.result.now c.next_line-line.ensures)

pub loop-at-preserved : goal.loop-at-preserved
loop-at-preserved c = (line_inside c.args.text.now c.loop-at.at c.loop-at-test.true c.next_line-line.result.now c.next_line-line.ensures, omega (arith, line_some c.args.text.now c.loop-at.at c.loop-at-test.true c.next_line-line.result.now c.next_line-line.ensures, c.loop-at.invariant.1), c.take_line-taken.ensures.1, c.table-1.given ∙ c.loop-at.invariant.3, c.bits-1.given ∙ c.loop-at.invariant.4, c.stored-1.given ∙ c.loop-at.invariant.5, c.copies-1.given ∙ c.loop-at.invariant.6, turn_on c.args.text.now c.loop-at.at c.loop-at-test.true c.next_line-line.result.now c.next_line-line.ensures c.loop-at.count c.args.spelling c.take_line-taken.ensures.0 c.in_default.is ∙ c.loop-at.invariant.7)

pub shape_of-table : goal.shape_of-table
shape_of-table c = c.loop-at.invariant.3

pub shape_of-bits : goal.shape_of-bits
shape_of-bits c = c.loop-at.invariant.4

pub shape_of-stored : goal.shape_of-stored
shape_of-stored c = c.loop-at.invariant.5

pub shape_of-copies : goal.shape_of-copies
shape_of-copies c = c.loop-at.invariant.6

pub returns : goal.returns
returns c = record { ran = run_ends (sheet_in c.args.sheet.now) (limits_in c.args.limits.now) c.args.spelling c.args.text.now c.loop-at.at c.loop-at.count (lends (rows_in c.loop-at.table) c.loop-at.bits (states_in c.loop-at.stored c.loop-at.copies) c.loop-at.left) c.loop-at-test.false ∙ c.loop-at.invariant.7 }
