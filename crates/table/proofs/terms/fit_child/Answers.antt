-- `fit_child` meets its contract.
-- Assumes nothing.
use mathlib.Core.Path.{sym}
use borrow.Author.Tests.{eq-eqb, ne_eqb, not-true, not-false}
use Rattle.table.proofs.terms.fit_child.Goals as goal

pub returns-then-not-is_right : goal.returns-then-not-is_right
returns-then-not-is_right c = rw (sym c.is_right.ensures, not-true c.is_right.result c.if-not-is_right.true-raw)

pub returns-then-not-is_kind : goal.returns-then-not-is_kind
returns-then-not-is_kind c = rw (sym c.is_right.ensures, not-false c.is_right.result c.if-not-is_right.false-raw, sym c.is_kind.ensures, not-true c.is_kind.result c.if-not-is_kind.true-raw)

pub returns-then-r-ne0 : goal.returns-then-r-ne0
returns-then-r-ne0 c = rw (sym c.is_right.ensures, not-false c.is_right.result c.if-not-is_right.false-raw, sym c.is_kind.ensures, not-false c.is_kind.result c.if-not-is_kind.false-raw, ne_eqb _ _ c.if-r-ne0.true)

pub returns : goal.returns
returns c = rw (sym c.is_right.ensures, not-false c.is_right.result c.if-not-is_right.false-raw, sym c.is_kind.ensures, not-false c.is_kind.result c.if-not-is_kind.false-raw, eq-eqb _ _ c.if-r-ne0.false) c.fit_mask.ensures
