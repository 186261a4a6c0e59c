-- `set_row` meets its contract: a row's words set it.
-- Assumes nothing.
use mathlib.Core.Path.{refl}
use Rattle.table.proofs.Laws.Words.{in_set}
use Rattle.table.proofs.words.set_row.Goals as goal

pub returns : goal.returns
returns c = rw (c.low_half.ensures, c.high_half.ensures) (in_set c.args.table.now c.args.i c.args.c, refl)
