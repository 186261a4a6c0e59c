use native.Mathlib.Omega.{arith}
use Rattle.table.specs.Words.{rows_in}
use Rattle.table.proofs.Offered.{length_in_lem}
use Rattle.rules.proofs.Laws.Settle.{closing_start, closing_more, placing_start, placing_more}
use Rattle.rules.proofs.settle.close.Goals as goal

pub loop-i-init : goal.loop-i-init
loop-i-init c =
    let marks = c.args.marks.now in let T = rows_in c.args.table.now in
    (closing_start marks T c.args.first c.requires.4.zero, placing_start marks c.args.places.now T c.stay_put-moved.result c.args.first c.args.k c.requires.4.fits c.requires.2 c.stay_put-moved.ensures)

pub loop-i-preserved : goal.loop-i-preserved
loop-i-preserved c = (
  rw (c.move_row-left.ensures.0, c.move_row-left.ensures.1) (closing_more c.args.marks.now (rows_in c.args.table.now) (rows_in c.loop-i.table) c.loop-i.i c.loop-i.left (omega (arith, length_in_lem c.loop-i.table, c.requires.1, c.loop-i-test.true)) c.loop-i.invariant.0),
  rw (c.move_row-left.ensures.0, c.move_row-left.ensures.1, c.wide-q.ensures) (placing_more c.args.marks.now c.args.places.now (rows_in c.args.table.now) (rows_in c.loop-i.table) c.loop-i.places c.loop-i.moved c.loop-i.i c.loop-i.left c.args.k c.loop-i-test.true c.requires.0 (omega (arith, length_in_lem c.loop-i.table, c.requires.1, c.loop-i-test.true)) c.requires.3 c.requires.2 c.loop-i.invariant.0 c.loop-i.invariant.1),
)
