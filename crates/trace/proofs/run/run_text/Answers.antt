-- `run_text` meets its contract: behind the line `(trace 2)` the lines are in the second spelling.
-- Assumes nothing.
use mathlib.Core.Path.{sym, ◌∙◌}
use Prim.Native.Nat.{◌-◌}
use native.Mathlib.Omega.{arith}
use lib.ListN.{length, drop, length-drop}
use lib.Seq.{take_all}
use Rattle.table.specs.Sheets.{sheet_in}
use Rattle.table.specs.Limits.{limits_in}
use Rattle.table.specs.States.{states_in}
use Rattle.table.specs.Words.{rows_in}
use Rattle.table.proofs.Offered.{states_eight}
use Rattle.model.specs.Refusals.{view_of}
use Rattle.model.proofs.Offered.{fit_all}
use Rattle.trace.proofs.Laws.Header.{header_inside, runs_named, runs_plain}
use Rattle.trace.proofs.run.run_text.Goals as goal

pub slice_bounds-run_ordered-count : goal.slice_bounds-run_ordered-count
slice_bounds-run_ordered-count c = omega (arith, header_inside c.args.text.now (sym c.is_named.ensures ∙ c.if-is_named.true))

pub slice_bounds-run_ordered-start : goal.slice_bounds-run_ordered-start
slice_bounds-run_ordered-start c = header_inside c.args.text.now (sym c.is_named.ensures ∙ c.if-is_named.true)

pub returns-then-is_named : goal.returns-then-is_named
returns-then-is_named c = runs_named (sheet_in c.args.sheet.now) (limits_in c.args.limits.now) c.args.table.now c.args.bits.now (states_in c.args.stored.now c.args.copies.now) c.args.tally c.args.text.now (fit_all (limits_in c.args.limits.now) (view_of (rows_in c.args.table.now) c.args.bits.now (states_in c.args.stored.now c.args.copies.now) c.args.tally.issued) c.requires.fit.known.orderly.ordered c.requires.fit.allowed c.requires.fit.sized (states_eight c.args.stored.now c.args.copies.now c.requires.memory)) (sym c.is_named.ensures ∙ c.if-is_named.true) (take_all (length c.args.text.now - 10) (drop 10 c.args.text.now) (omega (arith, length-drop 10 c.args.text.now))) c.run_ordered.ensures

pub returns-else-is_named : goal.returns-else-is_named
returns-else-is_named c = runs_plain (sheet_in c.args.sheet.now) (limits_in c.args.limits.now) c.args.table.now c.args.bits.now (states_in c.args.stored.now c.args.copies.now) c.args.tally c.args.text.now (fit_all (limits_in c.args.limits.now) (view_of (rows_in c.args.table.now) c.args.bits.now (states_in c.args.stored.now c.args.copies.now) c.args.tally.issued) c.requires.fit.known.orderly.ordered c.requires.fit.allowed c.requires.fit.sized (states_eight c.args.stored.now c.args.copies.now c.requires.memory)) (sym c.is_named.ensures ∙ c.if-is_named.false) c.run_ordered-else-is_named.ensures
