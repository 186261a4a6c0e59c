-- `is_full` meets its contract: antt computes it at each of the 256 bytes.
-- Assumes nothing.
use Rattle.table.proofs.Laws.Bits.{byte_full}
use Rattle.table.proofs.bits.is_full.Goals as goal

pub returns : goal.returns
returns c = byte_full c.args.b c.ranges.b.fits
