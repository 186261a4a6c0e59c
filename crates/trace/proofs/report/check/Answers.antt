-- `check` meets its contract: the line of the run's answer, and the listing of its table.
-- Assumes nothing.
use Rattle.std.specs.Prelude.{Ok, Err}
use mathlib.Core.Path.{sym, ap, subst, ◌∙◌}
use mathlib.Core.Bool.{true}
use mathlib.Core.List.{List, ◌++◌}
use Prim.Native.Nat.{ℕ}
use native.Mathlib.Omega.{arith}
use lib.ListN.{length-replicate}
use Rattle.model.specs.Requests.{Unlimited}
use Rattle.model.specs.Slots.{Memory, Slot}
use Rattle.table.specs.Sheets.{sheet_in}
use Rattle.table.specs.States.{states_in, emptied}
use Rattle.table.specs.Words.{rows_in}
use Rattle.rules.specs.Steps.{lends}
use Rattle.text.specs.Write.{Writes}
use Rattle.listing.specs.Listing.{listing}
use Rattle.trace.specs.Run.{ran_of, Runs}
use Rattle.trace.specs.Check.{answer_line, no_counts}
use Rattle.trace.proofs.Laws.Report.{long_text, long_stored, zero_row, zeros, no_bits, ran_is, ran_number, ran_order, ran_report, ran_stored}
use Rattle.trace.proofs.report.check.Goals as goal

pub returns-then-input-gt65536 : goal.returns-then-input-gt65536
returns-then-input-gt65536 c = (subst (λ (l : List ℕ). Writes true l c.args.out.now c.write_long.new.out c.write_long.result) (long_text (emptied (states_in c.args.stored.now c.args.copies.now)) c.args.input.now c.if-input-gt65536.true) c.write_long.ensures, c.forget.ensures ∙ long_stored (emptied (states_in c.args.stored.now c.args.copies.now)) c.args.input.now c.if-input-gt65536.true)

pub slice_bounds-run_lent-end : goal.slice_bounds-run_lent-end
slice_bounds-run_lent-end c = sym (length-replicate {A = List ℕ} 1024 zero_row)

pub slice_bounds-run_lent-end-2 : goal.slice_bounds-run_lent-end-2
slice_bounds-run_lent-end-2 c = sym (length-replicate {A = ℕ} 8192 0)

pub slice_bounds-write_report-end : goal.slice_bounds-write_report-end
slice_bounds-write_report-end c = sym (c.table-2-1.given ∙ length-replicate {A = List ℕ} 1024 zero_row)

pub overflow_cast-lines : goal.overflow_cast-lines
overflow_cast-lines c = let slots = emptied (states_in c.args.stored.now c.args.copies.now) in
    let ran = ran_of (Ok c.in-Ok.lines) (lends (rows_in c.run_lent-ran.new.table) c.run_lent-ran.new.bits (states_in c.run_lent-ran.new.stored c.run_lent-ran.new.copies) c.run_lent-ran.result.tally) in
    let is = ran_is slots c.card6-sheet.ensures (subst (λ (s : List (Slot Memory)). Runs (sheet_in c.card6-sheet.result) Unlimited zeros no_bits s no_counts c.args.input.now c.run_lent-ran.new.table c.run_lent-ran.new.bits (states_in c.run_lent-ran.new.stored c.run_lent-ran.new.copies) c.run_lent-ran.result) c.forget.ensures c.run_lent-ran.ensures) c.in-Ok.is in
    record { fits = omega (arith, ran_number slots c.args.input.now ran is, c.if-input-gt65536.false) }

pub write_report-requires : goal.write_report-requires
write_report-requires c = let slots = emptied (states_in c.args.stored.now c.args.copies.now) in
    let ran = ran_of (Ok c.in-Ok.lines) (lends (rows_in c.run_lent-ran.new.table) c.run_lent-ran.new.bits (states_in c.run_lent-ran.new.stored c.run_lent-ran.new.copies) c.run_lent-ran.result.tally) in
    let is = ran_is slots c.card6-sheet.ensures (subst (λ (s : List (Slot Memory)). Runs (sheet_in c.card6-sheet.result) Unlimited zeros no_bits s no_counts c.args.input.now c.run_lent-ran.new.table c.run_lent-ran.new.bits (states_in c.run_lent-ran.new.stored c.run_lent-ran.new.copies) c.run_lent-ran.result) c.forget.ensures c.run_lent-ran.ensures) c.in-Ok.is in
    ran_order slots c.args.input.now ran is

pub slice_bounds-write_report-end-in-Err : goal.slice_bounds-write_report-end-in-Err
slice_bounds-write_report-end-in-Err c = sym (c.table-2-1.given ∙ length-replicate {A = List ℕ} 1024 zero_row)

pub overflow_cast-at : goal.overflow_cast-at
overflow_cast-at c = let slots = emptied (states_in c.args.stored.now c.args.copies.now) in
    let ran = ran_of (Err c.in-Err.at) (lends (rows_in c.run_lent-ran.new.table) c.run_lent-ran.new.bits (states_in c.run_lent-ran.new.stored c.run_lent-ran.new.copies) c.run_lent-ran.result.tally) in
    let is = ran_is slots c.card6-sheet.ensures (subst (λ (s : List (Slot Memory)). Runs (sheet_in c.card6-sheet.result) Unlimited zeros no_bits s no_counts c.args.input.now c.run_lent-ran.new.table c.run_lent-ran.new.bits (states_in c.run_lent-ran.new.stored c.run_lent-ran.new.copies) c.run_lent-ran.result) c.forget.ensures c.run_lent-ran.ensures) c.in-Err.is in
    record { fits = omega (arith, ran_number slots c.args.input.now ran is, c.if-input-gt65536.false) }

pub write_report-requires-in-Err : goal.write_report-requires-in-Err
write_report-requires-in-Err c = let slots = emptied (states_in c.args.stored.now c.args.copies.now) in
    let ran = ran_of (Err c.in-Err.at) (lends (rows_in c.run_lent-ran.new.table) c.run_lent-ran.new.bits (states_in c.run_lent-ran.new.stored c.run_lent-ran.new.copies) c.run_lent-ran.result.tally) in
    let is = ran_is slots c.card6-sheet.ensures (subst (λ (s : List (Slot Memory)). Runs (sheet_in c.card6-sheet.result) Unlimited zeros no_bits s no_counts c.args.input.now c.run_lent-ran.new.table c.run_lent-ran.new.bits (states_in c.run_lent-ran.new.stored c.run_lent-ran.new.copies) c.run_lent-ran.result) c.forget.ensures c.run_lent-ran.ensures) c.in-Err.is in
    ran_order slots c.args.input.now ran is

pub returns-in-Ok : goal.returns-in-Ok
returns-in-Ok c = let slots = emptied (states_in c.args.stored.now c.args.copies.now) in
    let ran = ran_of (Ok c.in-Ok.lines) (lends (rows_in c.run_lent-ran.new.table) c.run_lent-ran.new.bits (states_in c.run_lent-ran.new.stored c.run_lent-ran.new.copies) c.run_lent-ran.result.tally) in
    let is = ran_is slots c.card6-sheet.ensures (subst (λ (s : List (Slot Memory)). Runs (sheet_in c.card6-sheet.result) Unlimited zeros no_bits s no_counts c.args.input.now c.run_lent-ran.new.table c.run_lent-ran.new.bits (states_in c.run_lent-ran.new.stored c.run_lent-ran.new.copies) c.run_lent-ran.result) c.forget.ensures c.run_lent-ran.ensures) c.in-Ok.is in
    (subst (λ (l : List ℕ). Writes true l c.args.out.now c.write_report.new.out c.write_report.result) (ran_report slots c.args.input.now ran is c.if-input-gt65536.false) c.write_report.ensures, ran_stored slots c.args.input.now ran is c.if-input-gt65536.false)

pub returns-in-Err : goal.returns-in-Err
returns-in-Err c = let slots = emptied (states_in c.args.stored.now c.args.copies.now) in
    let ran = ran_of (Err c.in-Err.at) (lends (rows_in c.run_lent-ran.new.table) c.run_lent-ran.new.bits (states_in c.run_lent-ran.new.stored c.run_lent-ran.new.copies) c.run_lent-ran.result.tally) in
    let is = ran_is slots c.card6-sheet.ensures (subst (λ (s : List (Slot Memory)). Runs (sheet_in c.card6-sheet.result) Unlimited zeros no_bits s no_counts c.args.input.now c.run_lent-ran.new.table c.run_lent-ran.new.bits (states_in c.run_lent-ran.new.stored c.run_lent-ran.new.copies) c.run_lent-ran.result) c.forget.ensures c.run_lent-ran.ensures) c.in-Err.is in
    (subst (λ (l : List ℕ). Writes true l c.args.out.now c.write_report-in-Err.new.out c.write_report-in-Err.result) (ap (λ (n : ℕ). answer_line n c.in-Err.at.line ++ listing (rows_in c.run_lent-ran.new.table) c.run_lent-ran.result.tally.issued) c.number_of.ensures ∙ ran_report slots c.args.input.now ran is c.if-input-gt65536.false) c.write_report-in-Err.ensures, ran_stored slots c.args.input.now ran is c.if-input-gt65536.false)
