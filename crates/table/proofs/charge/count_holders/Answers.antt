-- `count_holders` meets its contract: a mask has 64 bits.
-- Assumes nothing.
use mathlib.Core.Path.{sym}
use Rattle.table.proofs.Laws.Charge.{bits_ones}
use Rattle.table.proofs.charge.count_holders.Goals as goal

pub returns : goal.returns
returns c = sym (bits_ones 64 c.args.mask c.well_formed.0.1)
