-- `settle` meets its contract.
-- Assumes nothing.
use mathlib.Core.Path.{◌∙◌}
use lib.ListN.{length}
use Rattle.table.specs.Words.{rows_in}
use Rattle.table.proofs.Offered.{length_in_lem}
use Rattle.rules.proofs.Laws.Settle.{closed_settled}
use Rattle.rules.proofs.settle.settle.Goals as goal

pub returns : goal.returns
returns c =
    closed_settled c.args.marks.now (rows_in c.args.table.now) (rows_in c.close-left.new.table) (rows_in c.clear.new.table) (length c.args.table.now) c.args.k c.close-left.result c.requires.0.fits (length_in_lem c.clear.new.table ∙ c.table-2-1.given ∙ c.table-1.given) c.requires.0.zeros c.close-left.ensures.0 c.clear.ensures c.requires.0.stands.filled _ c.close-left.ensures.1
