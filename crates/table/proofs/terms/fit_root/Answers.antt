-- `fit_root` meets its contract.
-- Assumes nothing.
use mathlib.Core.Path.{sym}
use borrow.Author.Tests.{eq-eqb, ne_eqb, not-true, not-false}
use Rattle.table.proofs.terms.fit_root.Goals as goal

pub returns-then-not-is_right : goal.returns-then-not-is_right
returns-then-not-is_right c = rw (sym c.is_right.ensures, not-true c.is_right.result c.if-not-is_right.true-raw)

pub returns-then-r-ne0 : goal.returns-then-r-ne0
returns-then-r-ne0 c = rw (sym c.is_right.ensures, not-false c.is_right.result c.if-not-is_right.false-raw, ne_eqb _ _ c.if-r-ne0.true)

pub returns-then-not-is_mark : goal.returns-then-not-is_mark
returns-then-not-is_mark c = rw (sym c.is_right.ensures, not-false c.is_right.result c.if-not-is_right.false-raw, eq-eqb _ _ c.if-r-ne0.false, sym c.is_mark.ensures, not-true c.is_mark.result c.if-not-is_mark.true-raw)

pub returns : goal.returns
returns c = rw (sym c.is_right.ensures, not-false c.is_right.result c.if-not-is_right.false-raw, eq-eqb _ _ c.if-r-ne0.false, sym c.is_mark.ensures, not-false c.is_mark.result c.if-not-is_mark.false-raw) c.fit_mask.ensures
