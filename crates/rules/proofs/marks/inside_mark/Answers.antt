-- `inside_mark` meets its contract.
-- Assumes nothing.
use native.Mathlib.Omega.{arith}
use borrow.Author.Tests.{eq-eqb, ne_eqb, le-ltb, lt-ltb, le-leb, lt-leb}
use Rattle.rules.proofs.marks.inside_mark.Goals as goal

pub bounds-relation-q : goal.bounds-relation-q
bounds-relation-q c = omega (arith, c.requires, c.if-i-q.false)

pub returns-then-relation-i-eq1 : goal.returns-then-relation-i-eq1
returns-then-relation-i-eq1 c = rw (eq-eqb _ _ c.if-relation-i-eq1.true)

pub returns-then-i-q : goal.returns-then-i-q
returns-then-i-q c = rw (ne_eqb _ _ c.if-relation-i-eq1.false, le-ltb _ _ c.if-i-q.true)

pub returns-then-q-cell : goal.returns-then-q-cell
returns-then-q-cell c = rw (ne_eqb _ _ c.if-relation-i-eq1.false, lt-ltb _ _ c.if-i-q.false, lt-leb _ _ c.if-q-cell.true)

pub returns-then-relation-q-eq0 : goal.returns-then-relation-q-eq0
returns-then-relation-q-eq0 c = rw (ne_eqb _ _ c.if-relation-i-eq1.false, lt-ltb _ _ c.if-i-q.false, le-leb _ _ c.if-q-cell.false, eq-eqb _ _ c.if-relation-q-eq0.true)

pub returns-else-relation-q-eq0 : goal.returns-else-relation-q-eq0
returns-else-relation-q-eq0 c = rw (ne_eqb _ _ c.if-relation-i-eq1.false, lt-ltb _ _ c.if-i-q.false, le-leb _ _ c.if-q-cell.false, ne_eqb _ _ c.if-relation-q-eq0.false)
