-- `are_allowed` meets its contract.
-- Assumes nothing.
use mathlib.Core.Path.{sym, ap, ◌∙◌}
use mathlib.Core.Bool.{not}
use native.Mathlib.Omega.{arith}
use Rattle.table.specs.Words.{rows_in}
use Rattle.table.proofs.Laws.Words.{length_in_lem}
use Rattle.table.proofs.Laws.Limits.{none_refused, length_refused, sum_refused, exceeded_refused}
use Rattle.table.proofs.limits.are_allowed.Goals as goal

pub returns-then-limits-eq0 : goal.returns-then-limits-eq0
returns-then-limits-eq0 c = sym (ap not (none_refused (rows_in c.args.table.now) c.args.limits.now c.if-limits-eq0.true))

pub returns-then-limits-ne64 : goal.returns-then-limits-ne64
returns-then-limits-ne64 c = sym (ap not (length_refused (rows_in c.args.table.now) c.args.limits.now c.if-limits-eq0.false c.if-limits-ne64.true))

pub sum_of-requires : goal.sum_of-requires
sum_of-requires c = c.if-limits-ne64.false

pub returns-then-table-sum_of : goal.returns-then-table-sum_of
returns-then-table-sum_of c = sym (ap not (sum_refused (rows_in c.args.table.now) c.args.limits.now c.if-limits-eq0.false c.if-limits-ne64.false (omega (arith, length_in_lem c.args.table.now, c.if-table-sum_of.true, c.sum_of.ensures))))

pub are_kept-requires : goal.are_kept-requires
are_kept-requires c = (c.requires, λ z. c.if-limits-ne64.false)

pub returns : goal.returns
returns c = c.are_kept.ensures ∙ ap not (sym (exceeded_refused (rows_in c.args.table.now) c.args.limits.now c.if-limits-eq0.false c.if-limits-ne64.false (omega (arith, length_in_lem c.args.table.now, c.if-table-sum_of.false, c.sum_of.ensures))))
