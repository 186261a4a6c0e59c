-- `check_order` meets its contract.
-- Assumes nothing.
use mathlib.Core.Path.{refl, sym, ◌∙◌}
use native.Mathlib.Omega.{arith}
use lib.ListN.{length}
use borrow.Author.Tests.{not-true, not-false}
use Rattle.table.specs.Words.{rows_in}
use Rattle.model.proofs.Offered.{clash}
use Rattle.table.proofs.Laws.Words.{length_in_lem}
use Rattle.table.proofs.Laws.Ordered.{order_names, order_zeros, order_rest}
use Rattle.table.proofs.ordered.check_order.Goals as goal

pub returns-then-issued-gt1000000 : goal.returns-then-issued-gt1000000
returns-then-issued-gt1000000 c =
    (sym (order_names (rows_in c.args.table.now) (length c.args.table.now) c.args.k c.requires.1 (length_in_lem c.args.table.now) c.args.issued c.if-issued-gt1000000.true), record { known = λ e. clash e refl })

pub rest_is_empty-requires : goal.rest_is_empty-requires
rest_is_empty-requires c = c.requires.1.fits

pub returns-then-not-rest_is_empty : goal.returns-then-not-rest_is_empty
returns-then-not-rest_is_empty c =
    (sym (order_zeros (rows_in c.args.table.now) (length c.args.table.now) c.args.k c.requires.1 (length_in_lem c.args.table.now) c.args.issued (sym c.rest_is_empty.ensures ∙ not-true c.rest_is_empty.result c.if-not-rest_is_empty.true-raw)), record { known = λ e. clash e refl })

pub rows_in_order-requires : goal.rows_in_order-requires
rows_in_order-requires c = (omega (arith, c.requires.0, c.requires.1.fits), c.requires.1.filled, c.requires.2)

pub returns : goal.returns
returns c =
    (c.rows_in_order.ensures.0 ∙ sym (order_rest (rows_in c.args.table.now) (length c.args.table.now) c.args.k c.requires.1 (length_in_lem c.args.table.now) c.args.issued c.requires.0 c.if-issued-gt1000000.false (sym c.rest_is_empty.ensures ∙ not-false c.rest_is_empty.result c.if-not-rest_is_empty.false-raw)), c.rows_in_order.ensures.1)
