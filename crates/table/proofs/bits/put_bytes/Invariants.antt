-- `put_bytes` meets its contract. The invariant: what is put from byte i on makes the whole.
-- Assumes nothing.
use mathlib.Core.Path.{◌≡◌}
use Prim.Native.Nat.{◌-◌, ◌*◌}
use lib.ListN.{length}
use Rattle.model.specs.Bits.{put_from}
use Rattle.table.proofs.bits.put_bytes.Given as goal

abbrev pub invariant-loop-i : goal.invariant-loop-i
invariant-loop-i l = (length l.bits ≡ length l.initial.bits) × (put_from l.v (l.i * 8) ((l.to - l.i) * 8) l.bits ≡ put_from l.v (l.from * 8) ((l.to - l.from) * 8) l.initial.bits)
