-- `trace::report::write_report` meets its contract: the listing, where it fits, and then the line before it.
-- Assumes nothing.
use Rattle.model.proofs.Offered.{passed_on}
use native.Mathlib.Omega.{arith}
use mathlib.Core.List.{◌++◌}
use lib.ListN.{length-append}
use Rattle.table.specs.Words.{rows_in}
use Rattle.listing.specs.Listing.{listing}
use Rattle.text.proofs.Offered.{writes_none}
use Rattle.trace.specs.Check.{answer_line}
use Rattle.trace.proofs.Laws.Report.{listing_writes, behind_room, behind_fits, behind_none, behind_all}
use Rattle.trace.proofs.report.write_report.Goals as goal

pub returns-then-out-start : goal.returns-then-out-start
returns-then-out-start c =
    let first = answer_line c.args.refusal c.args.number in
    let second = listing (rows_in c.args.table.now) c.args.issued in
    writes_none (first ++ second) c.args.out.now (omega (arith, length-append first second, c.answer_length-start.ensures.0, c.if-out-start.true))

pub put_answer-requires : goal.put_answer-requires
put_answer-requires c =
    let wrote = listing_writes c.requires c.write_listing.ensures in
    behind_room (answer_line c.args.refusal c.args.number) (listing (rows_in c.args.table.now) c.args.issued) c.args.out.now c.answer_length-start.result c.answer_length-start.ensures.0 c.if-out-start.false wrote

pub overflow_add-result : goal.overflow_add-result
overflow_add-result c =
    let wrote = listing_writes c.requires c.write_listing.ensures in
    omega (arith, behind_fits (answer_line c.args.refusal c.args.number) (listing (rows_in c.args.table.now) c.args.issued) c.args.out.now c.answer_length-start.result c.answer_length-start.ensures.0 c.if-out-start.false wrote c.in_ok-length.was, c.well_formed)

pub returns : goal.returns
returns c =
    let wrote = listing_writes c.requires c.write_listing.ensures in
    behind_all (answer_line c.args.refusal c.args.number) (listing (rows_in c.args.table.now) c.args.issued) c.args.out.now c.answer_length-start.result c.answer_length-start.ensures.0 c.if-out-start.false wrote c.in_ok-length.was c.put_answer.ensures

pub returns-in_err-length : goal.returns-in_err-length
returns-in_err-length c =
    let wrote = listing_writes c.requires c.write_listing.ensures in
    rw (passed_on c.from_residual.result c.in_err-length.field-0.0 c.from_residual.ensures.1) (behind_none (answer_line c.args.refusal c.args.number) (listing (rows_in c.args.table.now) c.args.issued) c.args.out.now c.answer_length-start.result c.answer_length-start.ensures.0 c.if-out-start.false wrote c.in_err-length.was)
