-- `kelzoud_events::batch::take_turns` meets its contract: i requests are taken, and what is lent is fit.
-- Assumes nothing.
use mathlib.Core.Path.{◌≡◌}
use Prim.Native.Nat.{◌≤◌}
use lib.ListN.{length}
use Rattle.table.specs.Words.{rows_in}
use Rattle.table.specs.Sheets.{sheet_in}
use Rattle.table.specs.Limits.{limits_in}
use Rattle.table.specs.States.{states_in}
use Rattle.table.specs.Known.{FitAll}
use Rattle.rules.specs.Steps.{lends}
use Rattle.kelzoud_events.specs.Batch.{Ran}
use Rattle.kelzoud_events.proofs.batch.take_turns.Given as goal

abbrev pub invariant-loop-i : goal.invariant-loop-i
invariant-loop-i l =
    (l.i ≤ l.m) × (length l.table ≡ length l.initial.table) × (length l.stored ≡ length l.initial.stored) × (length l.copies ≡ length l.initial.copies) × (length l.answers ≡ length l.initial.answers)
    × FitAll l.table l.bits l.stored l.copies l.alive l.tally.issued l.limits l.places
    × Ran (sheet_in l.sheet) (limits_in l.limits) (lends (rows_in l.initial.table) l.initial.bits (states_in l.initial.stored l.initial.copies) l.initial.tally) l.events l.names l.i l.initial.answers (lends (rows_in l.table) l.bits (states_in l.stored l.copies) l.tally) l.answers
