-- `mark_in_order` meets its contract.
-- Assumes nothing.
use mathlib.Core.Path.{◌≡◌, ap, ◌∙◌}
use mathlib.Core.Bool.{and-true}
use native.Mathlib.Omega.{arith}
use borrow.Author.Tests.{eq-eqb, ne_eqb, le-leb}
use Rattle.model.specs.Table.{span}
use Rattle.model.specs.Values.{end}
use Rattle.table.proofs.ordered.mark_in_order.Goals as goal

pub returns-then-c-eq1 : goal.returns-then-c-eq1
returns-then-c-eq1 c =
    let f = c.args.c.fresh in
    let e : c.end.result ≡ end (span c.args.c) = c.end.ensures ∙ ap end c.span_of.ensures in
    rw (e, le-leb f 1 (omega (arith, c.if-c-eq1.true)), eq-eqb f 1 c.if-c-eq1.true)

pub returns : goal.returns
returns c = rw (ne_eqb _ _ c.if-c-eq1.false, and-true) c.is_mark.ensures
