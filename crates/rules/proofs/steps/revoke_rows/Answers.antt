-- `revoke_rows` meets its contract: where no mark is 2, no row ends.
-- Assumes nothing.
use mathlib.Core.Path.{◌∙◌}
use native.Mathlib.Omega.{arith}
use lib.ListN.{length}
use Rattle.table.specs.Words.{rows_in}
use Rattle.table.proofs.Offered.{length_in_lem}
use Rattle.rules.proofs.Laws.Settle.{lowered_settled}
use Rattle.rules.proofs.steps.revoke_rows.Goals as goal

pub lower-requires : goal.lower-requires
lower-requires c = (c.requires.0.stands.few, c.requires.0.fits, c.requires.3)

pub returns-then-most-lt2 : goal.returns-then-most-lt2
returns-then-most-lt2 c =
    let T = rows_in c.args.table.now in
    let U = c.lower.new.table in
    lowered_settled c.args.marks.now T (rows_in U) (length c.args.table.now) c.args.k c.args.places.now c.requires.0.fits (length_in_lem U ∙ c.table-1.given) c.requires.0.zeros c.requires.0.stands.filled c.lower.ensures (λ j l. omega (arith, c.requires.4.each j l, c.if-most-lt2.true)) c.requires.1
