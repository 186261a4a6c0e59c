use Prim.Native.Nat.{ℕ}
use native.Mathlib.Omega.{arith}
use lib.ListN.{get_or}
use Rattle.table.specs.Words.{rows_in}
use Rattle.table.proofs.Offered.{rise_fits}
use Rattle.rules.proofs.Laws.Marks.{walk_first, walk_step, walk_over}
use Rattle.rules.proofs.marks.ancestry_of.Goals as goal

pub find-at-requires : goal.find-at-requires
find-at-requires c = (c.requires.0, c.requires.1)

pub loop-at-init : goal.loop-at-init
loop-at-init c = rw c.requires.3 (walk_first (rows_in c.args.table.now) c.args.k c.args.u c.find-at.result c.requires.0 c.find-at.ensures)

pub bounds-relation-at : goal.bounds-relation-at
bounds-relation-at c = omega (arith, c.requires.0, c.loop-at.invariant.fits, c.loop-at.invariant.long, c.loop-at-test.true)

pub nearer-cell-requires : goal.nearer-cell-requires
nearer-cell-requires c = omega (arith, rise_fits c.args.table.now c.args.k c.requires.1, c.loop-at.invariant.fits, c.loop-at-test.true)

pub offset_bounds-places-at : goal.offset_bounds-places-at
offset_bounds-places-at c = omega (arith, c.requires.0, c.loop-at.invariant.fits, c.loop-at.invariant.long, c.loop-at-test.true)

pub bounds-places-at : goal.bounds-places-at
bounds-places-at c = omega (arith, c.requires.0, c.loop-at.invariant.fits, c.loop-at.invariant.long, c.loop-at-test.true)

pub loop-at-smaller : goal.loop-at-smaller
loop-at-smaller c = omega (arith, c.loop-at-test.true)

pub loop-at-preserved : goal.loop-at-preserved
loop-at-preserved c =
    let q : ℕ = c.loop-at.at in
    rw (c.wide-at.ensures, c.nearer-cell.ensures) (walk_step (rows_in c.args.table.now) c.args.k c.args.u c.requires.0 c.requires.1 c.loop-at.relation c.loop-at.cell c.loop-at.top q (get_or c.args.places.now q 0) c.loop-at.invariant c.loop-at-test.true (c.requires.2.each q (omega (arith, c.loop-at-test.true, c.loop-at.invariant.fits))))

pub returns : goal.returns
returns c =
    walk_over (rows_in c.args.table.now) c.args.k c.args.u c.requires.0 c.requires.1 c.loop-at.relation c.loop-at.cell c.loop-at.top c.loop-at.at c.loop-at.invariant c.loop-at-test.false
