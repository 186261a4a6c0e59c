-- `row_answer` meets its contract.
-- Assumes nothing.
use mathlib.Core.Path.{sym}
use native.Mathlib.Numerals.{add-one}
use lib.ListN.{length}
use borrow.Author.Tests.{le-leb, lt-leb}
use Rattle.table.specs.Words.{rows_in}
use Rattle.table.specs.Rows.{before}
use Rattle.table.proofs.Laws.Prefix.{length_before}
use Rattle.table.proofs.Laws.Limits.{unlimited_row, limited_row}
use Rattle.table.proofs.judge.row_answer.Goals as goal

pub returns-then-table-k : goal.returns-then-table-k
returns-then-table-k c = let u = unlimited_row (before (rows_in c.args.table.now) c.args.k) (length c.args.table.now) c.args.limits.now c.args.actor c.if-limits-eq0.true in rw (u.0, length_before (rows_in c.args.table.now) c.args.k, le-leb (length c.args.table.now) c.args.k c.if-table-k.true)

pub returns-then-limits-eq0 : goal.returns-then-limits-eq0
returns-then-limits-eq0 c = let u = unlimited_row (before (rows_in c.args.table.now) c.args.k) (length c.args.table.now) c.args.limits.now c.args.actor c.if-limits-eq0.true in rw (u.0, u.1, length_before (rows_in c.args.table.now) c.args.k, lt-leb (length c.args.table.now) c.args.k c.if-table-k.false, add-one)

pub limit_reached-requires : goal.limit_reached-requires
limit_reached-requires c = (c.requires.0, c.requires.2)

pub returns-then-limit_reached : goal.returns-then-limit_reached
returns-then-limit_reached c = let u = limited_row (before (rows_in c.args.table.now) c.args.k) (length c.args.table.now) c.args.limits.now c.args.actor c.if-limits-eq0.false in rw (u.0, u.1, sym c.limit_reached.ensures, c.if-limit_reached.true)

pub returns : goal.returns
returns c = let u = limited_row (before (rows_in c.args.table.now) c.args.k) (length c.args.table.now) c.args.limits.now c.args.actor c.if-limits-eq0.false in rw (u.0, u.1, sym c.limit_reached.ensures, c.if-limit_reached.false, add-one)
