-- `has_bit` meets its contract: to shift right is to divide by a power of two.
-- Assumes nothing.
use mathlib.Core.Path.{refl}
use Rattle.model.specs.Bits.{has_bit}
use Rattle.table.proofs.bits.has_bit.Goals as goal

pub returns : goal.returns
unfolding has_bit
returns c = refl
