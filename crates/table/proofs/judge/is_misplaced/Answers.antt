-- `is_misplaced` meets its contract.
-- Assumes nothing.
use mathlib.Core.Path.{◌≡◌, sym}
use borrow.Author.Tests.{eq-eqb, ne_eqb, not-true, not-false}
use Rattle.model.specs.Values.{legal}
use Rattle.table.proofs.judge.is_misplaced.Goals as goal

pub returns-then-not-is_legal : goal.returns-then-not-is_legal
returns-then-not-is_legal c =
    let tested : legal c.args.s ≡ c.is_legal.result = sym c.is_legal.ensures in
    rw (tested, not-true c.is_legal.result c.if-not-is_legal.true-raw)

pub returns-then-r-eq1 : goal.returns-then-r-eq1
returns-then-r-eq1 c =
    let tested : legal c.args.s ≡ c.is_legal.result = sym c.is_legal.ensures in
    rw (tested, not-false c.is_legal.result c.if-not-is_legal.false-raw, eq-eqb _ _ c.if-r-eq1.true, c.end.ensures)

pub returns-else-r-eq1 : goal.returns-else-r-eq1
returns-else-r-eq1 c =
    let tested : legal c.args.s ≡ c.is_legal.result = sym c.is_legal.ensures in
    rw (tested, not-false c.is_legal.result c.if-not-is_legal.false-raw, ne_eqb _ _ c.if-r-eq1.false)
