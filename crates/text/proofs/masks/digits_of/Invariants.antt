-- `text::masks::digits_of` meets its contract. The invariant: the value so far, with the digits that are left behind it, is the mask.
-- Assumes nothing.
use mathlib.Core.Path.{◌≡◌}
use Prim.Native.Nat.{◌-◌, ◌^◌, ◌<◌}
use lib.ListN.{drop}
use Rattle.text.specs.Mask.{hex_from, hex_of}
use Rattle.text.proofs.masks.digits_of.Given as goal

abbrev pub invariant-loop-byte : goal.invariant-loop-byte
invariant-loop-byte l = (l.value < 16 ^ l.byte-index) × (hex_from (16 - l.byte-index) l.value (drop l.byte-index l.text) ≡ hex_of l.text)
