-- `bytes_written` meets its contract: the addresses of all bytes are written if those of the bytes passed are, which `full` tells, and those of
-- the bytes from i on.
-- Assumes nothing.
use mathlib.Core.Path.{◌≡◌}
use mathlib.Core.Bool.{◌&&◌}
use Prim.Native.Nat.{◌-◌, ◌*◌}
use Rattle.model.specs.Bits.{bit_at, all_written}
use Rattle.table.proofs.bits.bytes_written.Given as goal

abbrev pub invariant-loop-i : goal.invariant-loop-i
invariant-loop-i l = all_written (bit_at l.bits) (l.from * 8) ((l.to - l.from) * 8) ≡ l.full && all_written (bit_at l.bits) (l.i * 8) ((l.to - l.i) * 8)
