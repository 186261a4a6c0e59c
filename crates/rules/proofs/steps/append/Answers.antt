-- `append` meets its contract.
-- Assumes nothing.
use native.Mathlib.Omega.{arith}
use lib.ListN.{length}
use Rattle.table.specs.Words.{rows_in}
use Rattle.table.proofs.Offered.{length_in_lem}
use Rattle.rules.proofs.Laws.Steps.{appended_settled}
use Rattle.rules.proofs.steps.append.Goals as goal

pub overflow_cast-places : goal.overflow_cast-places
overflow_cast-places c = omega (arith, c.requires.3.fits, c.requires.1.fits, c.requires.1.few)

pub returns : goal.returns
returns c =
    rw c.set_row.ensures.0 (appended_settled (rows_in c.args.table.now) (length c.args.table.now) c.args.k c.args.q c.args.c c.args.places.now c.requires.0 c.requires.1.few (length_in_lem c.args.table.now) c.requires.1.zeros c.requires.1.stands.filled c.requires.4 c.requires.3 c.requires.2)
