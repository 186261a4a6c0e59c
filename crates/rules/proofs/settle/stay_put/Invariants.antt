-- `stay_put` meets its contract: each of the first i places is its own.
-- Assumes nothing.
use mathlib.Core.Path.{◌≡◌}
use Prim.Native.Nat.{ℕ, ◌<◌}
use lib.ListN.{length, get_or}
use Rattle.rules.proofs.settle.stay_put.Given as goal

abbrev pub invariant-loop-i : goal.invariant-loop-i
invariant-loop-i l = (length l.moved ≡ 1024) × ((j : ℕ) → j < l.i → get_or l.moved j 0 ≡ j)
