-- `run_ordered` meets its contract. The invariant: what is lent is fit and known, and the lines that are left, with those taken so
-- far, give the run of all lines.
-- Assumes nothing.
use mathlib.Core.Path.{◌≡◌}
use Prim.Native.Nat.{◌+◌, ◌-◌, ◌≤◌}
use lib.ListN.{length, drop}
use Rattle.table.specs.Words.{rows_in}
use Rattle.table.specs.Known.{FitAll}
use Rattle.table.specs.Limits.{limits_in}
use Rattle.table.specs.Sheets.{sheet_in}
use Rattle.table.specs.States.{states_in}
use Rattle.rules.specs.Steps.{lends}
use Rattle.text.specs.Line.{lines_of}
use Rattle.trace.specs.Run.{lent, run_lines}
use Rattle.trace.proofs.run.run_ordered.Given as goal

abbrev pub invariant-loop-at : goal.invariant-loop-at
invariant-loop-at l =
    (l.at ≤ length l.text) × (l.count ≤ l.at + 1) × FitAll l.table l.bits l.stored l.copies l.alive l.left.issued l.limits l.places × (length l.table ≡ length l.initial.table) × (length l.bits ≡ length l.initial.bits) × (length l.stored ≡ length l.initial.stored) × (length l.copies ≡ length l.initial.copies)
    × (run_lines (lent (sheet_in l.sheet) (limits_in l.limits)) l.spelling l.count (lends (rows_in l.table) l.bits (states_in l.stored l.copies) l.left) (lines_of (drop l.at l.text)) ≡ run_lines (lent (sheet_in l.sheet) (limits_in l.limits)) l.spelling l.before (lends (rows_in l.initial.table) l.initial.bits (states_in l.initial.stored l.initial.copies) l.initial.left) (lines_of l.text))

abbrev pub decreases-loop-at : goal.decreases-loop-at
decreases-loop-at l = length l.text - l.at
