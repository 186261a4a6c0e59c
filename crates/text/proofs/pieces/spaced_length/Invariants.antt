-- `text::pieces::spaced_length` meets its contract. The invariant: the total and the length of what is left make the whole length.
-- Assumes nothing.
use mathlib.Core.Path.{◌≡◌}
use Prim.Native.Nat.{◌+◌, ◌*◌, ◌≤◌}
use lib.ListN.{length, drop}
use Rattle.text.specs.Event.{spaced}
use Rattle.text.proofs.pieces.spaced_length.Given as goal

abbrev pub invariant-loop-number : goal.invariant-loop-number
invariant-loop-number l =
    (l.total + length (spaced (drop l.number-index l.numbers)) ≡ length (spaced l.numbers)) × (l.total ≤ 11 * l.number-index)
