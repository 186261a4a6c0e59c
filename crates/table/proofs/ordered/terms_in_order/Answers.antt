-- `terms_in_order` meets its contract.
-- Assumes nothing.
use mathlib.Core.Path.{sym, ◌∙◌}
use borrow.Author.Tests.{not-true, not-false, ltb-true}
use Rattle.model.specs.Table.{terms_in_order}
use Rattle.table.proofs.ordered.terms_in_order.Goals as goal

pub returns-then-not-is_domain : goal.returns-then-not-is_domain
unfolding terms_in_order
returns-then-not-is_domain c = rw (sym c.is_domain.ensures, not-true c.is_domain.result c.if-not-is_domain.true-raw)

pub has_bit-requires : goal.has_bit-requires
has_bit-requires c = ltb-true c.args.c.maker 64 (sym c.is_domain.ensures ∙ not-false c.is_domain.result c.if-not-is_domain.false-raw)

pub returns-then-not-has_bit : goal.returns-then-not-has_bit
unfolding terms_in_order
returns-then-not-has_bit c = rw (sym c.is_domain.ensures, not-false c.is_domain.result c.if-not-is_domain.false-raw, sym c.has_bit.ensures, not-true c.has_bit.result c.if-not-has_bit.true-raw)

pub returns : goal.returns
unfolding terms_in_order
returns c = rw (sym c.is_domain.ensures, not-false c.is_domain.result c.if-not-is_domain.false-raw, sym c.has_bit.ensures, not-false c.has_bit.result c.if-not-has_bit.false-raw) c.mark_in_order.ensures
