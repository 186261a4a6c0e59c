-- `text::masks::put_digits` meets its contract. The invariant: the digits that are left, written in front of those that stand, make the whole mask.
-- Assumes nothing.
use mathlib.Core.Path.{◌≡◌}
use Prim.Native.Nat.{◌-◌}
use lib.ListN.{length}
use lib.Seq.{sets}
use Rattle.text.specs.Mask.{hex}
use Rattle.text.proofs.masks.put_digits.Given as goal

abbrev pub invariant-loop-place : goal.invariant-loop-place
invariant-loop-place l =
    (sets l.out l.at (hex (l.place - l.at) l.rest) ≡ sets l.initial.out l.at (hex 16 l.mask)) × (length l.out ≡ length l.initial.out)
