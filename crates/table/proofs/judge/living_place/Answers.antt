-- `living_place` meets its contract.
-- Assumes nothing.
use borrow.Author.Tests.{ne_eqb, lt-ltb, le-ltb}
use Rattle.table.specs.Words.{rows_in}
use Rattle.table.proofs.Laws.Ordered.{lookup_place}
use Rattle.table.proofs.judge.living_place.Goals as goal

pub returns-then-issued-u : goal.returns-then-issued-u
returns-then-issued-u c = rw (ne_eqb _ _ c.if-u-eq0.false, lt-ltb _ _ c.if-issued-u.true)

pub returns-then-q-k : goal.returns-then-q-k
returns-then-q-k c =
    let h = c.find-q.ensures.here c.if-q-k.true in
    let p = lookup_place (rows_in c.args.table.now) c.args.k c.find-q.result c.args.u.0 c.requires.1 c.if-q-k.true h in
    (rw (ne_eqb _ _ c.if-u-eq0.false, le-ltb _ _ c.if-issued-u.false, p.0), c.if-q-k.true, h)

pub returns-else-q-k : goal.returns-else-q-k
returns-else-q-k c = rw (ne_eqb _ _ c.if-u-eq0.false, le-ltb _ _ c.if-issued-u.false, c.find-q.ensures.gone c.if-q-k.false)
