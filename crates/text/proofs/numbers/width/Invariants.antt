-- `text::numbers::width` meets its contract. The invariant: the power is that of k, and none below it is above the number.
-- Assumes nothing.
use mathlib.Core.Path.{◌≡◌}
use Prim.Native.Nat.{max, ◌-◌, ◌^◌, ◌≤◌}
use Rattle.text.proofs.numbers.width.Given as goal

abbrev pub invariant-loop-k : goal.invariant-loop-k
invariant-loop-k l = (10 ^ (l.k - 1) ≤ max 1 l.n) × (l.power ≡ 10 ^ l.k)
