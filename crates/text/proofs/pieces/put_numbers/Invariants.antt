-- `text::pieces::put_numbers` meets its contract. The invariant: the numbers that are left, written where the loop stands, make the whole.
-- Assumes nothing.
use mathlib.Core.Path.{◌≡◌}
use Prim.Native.Nat.{◌+◌}
use lib.ListN.{length, drop}
use lib.Seq.{sets}
use Rattle.text.specs.Event.{spaced}
use Rattle.text.proofs.pieces.put_numbers.Given as goal

abbrev pub invariant-loop-number : goal.invariant-loop-number
invariant-loop-number l =
    (sets l.out l.next (spaced (drop l.number-index l.numbers)) ≡ sets l.initial.out l.at (spaced l.numbers))
    × (l.next + length (spaced (drop l.number-index l.numbers)) ≡ l.at + length (spaced l.numbers))
    × (length l.out ≡ length l.initial.out)
