-- `row_at` meets its contract: the words at a row are the row.
-- Assumes nothing.
use mathlib.Core.Path.{sym, ◌∙◌}
use Rattle.table.proofs.Laws.Words.{in_at}
use Rattle.table.proofs.words.row_at.Goals as goal

pub returns : goal.returns
returns c = c.cap_of.ensures ∙ sym (in_at c.args.table.now c.args.i)
