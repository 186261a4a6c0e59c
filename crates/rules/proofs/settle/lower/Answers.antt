use native.Mathlib.Omega.{arith}
use Rattle.table.specs.Words.{rows_in}
use Rattle.table.proofs.Offered.{length_in_lem}
use Rattle.rules.proofs.Laws.Settle.{lowers_more}
use Rattle.rules.proofs.settle.lower.Goals as goal

pub loop-i-preserved : goal.loop-i-preserved
loop-i-preserved c = rw c.lower_row.ensures (lowers_more c.args.marks.now (rows_in c.args.table.now) (rows_in c.loop-i.table) c.loop-i.i (omega (arith, length_in_lem c.loop-i.table, c.requires.1, c.loop-i-test.true)) c.loop-i.invariant)
