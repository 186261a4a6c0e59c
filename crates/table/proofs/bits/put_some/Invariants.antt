-- `put_some` meets its contract. The invariant: what is put from a on makes the whole.
-- Assumes nothing.
use mathlib.Core.Path.{◌≡◌}
use Prim.Native.Nat.{◌-◌}
use lib.ListN.{length}
use Rattle.model.specs.Bits.{put_from}
use Rattle.table.proofs.bits.put_some.Given as goal

abbrev pub invariant-loop-a : goal.invariant-loop-a
invariant-loop-a l = (length l.bits ≡ length l.initial.bits) × (put_from l.v l.a (l.to - l.a) l.bits ≡ put_from l.v l.from (l.to - l.from) l.initial.bits)
