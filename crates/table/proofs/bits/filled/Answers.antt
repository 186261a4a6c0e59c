-- `filled` meets its contract: antt computes it at each of the 256 bytes.
-- Assumes nothing.
use Rattle.table.proofs.Laws.Bits.{byte_filled}
use Rattle.table.proofs.bits.filled.Goals as goal

pub returns-then-v : goal.returns-then-v
returns-then-v c = rw c.if-v.true (byte_filled _ c.args._b c.ranges._b.fits)

pub returns-else-v : goal.returns-else-v
returns-else-v c = rw c.if-v.false (byte_filled _ c.args._b c.ranges._b.fits)
