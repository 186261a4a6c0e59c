-- The written bits a byte at a time. No public promise rests on it.
-- Assumes nothing.
use Rattle.std.specs.Prelude.{ℕ, zero, suc, Bool}
use Rattle.model.specs.Bits.{with_bit}

-- the byte with its first k bits so
unfoldable pub with_bits : Bool → ℕ → ℕ → ℕ
with_bits v zero b = b
with_bits v (suc k) b = with_bit v k (with_bits v k b)
