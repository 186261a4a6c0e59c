-- `table::sheets::result_at` meets its contract: the byte at the combination's place, and 2 for any above.
-- Assumes nothing.
use mathlib.Core.Path.{◌∙◌}
use lib.ListN.{get_or}
use Rattle.table.proofs.Laws.Sheets.{weight_at, weight_least}
use Rattle.table.proofs.sheets.result_at.Goals as goal

pub returns : goal.returns
returns c = c.min.ensures ∙ weight_least (get_or c.args.sheet.now c.place_of.result 0) ∙ weight_at c.args.sheet.now c.args.kind c.args.a c.args.from c.place_of.result c.place_of.ensures.0
