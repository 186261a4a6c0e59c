use native.Mathlib.Omega.{arith}
use Rattle.table.proofs.Offered.{rise_fits}
use Rattle.rules.proofs.marks.first_struck.Goals as goal

pub row_at-c-requires : goal.row_at-c-requires
row_at-c-requires c = omega (arith, rise_fits c.args.table.now c.args.k c.requires.1, c.loop-i-test.true)
