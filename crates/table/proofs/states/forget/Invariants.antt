-- `forget` meets its contract: the heads of the slots before are zeros.
-- Assumes nothing.
use mathlib.Core.Path.{◌≡◌}
use mathlib.Core.List.{[]}
use Prim.Native.Nat.{ℕ, ◌*◌, ◌<◌}
use lib.ListN.{length, get_or, replicate}
use Rattle.table.proofs.states.forget.Given as goal

abbrev pub invariant-loop-slot : goal.invariant-loop-slot
invariant-loop-slot l = (length l.stored ≡ length l.initial.stored) × ((j : ℕ) → j < l.slot → get_or l.stored (1025 * j) [] ≡ replicate 11 0)
