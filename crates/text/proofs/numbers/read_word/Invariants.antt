-- `text::numbers::read_word` meets its contract. The invariant: the value so far, with the digits that are left behind it, is the number, and
-- the bytes passed and the count over the rest make the whole count.
-- Assumes nothing.
use mathlib.Core.Path.{◌≡◌}
use Prim.Native.Nat.{◌+◌, ◌^◌, ◌<◌}
use lib.ListN.{drop}
use Rattle.text.specs.Class.{space}
use Rattle.text.specs.Decimal.{number_from, number_of}
use Rattle.text.specs.Line.{through}
use Rattle.text.proofs.numbers.read_word.Given as goal

abbrev pub invariant-loop-i : goal.invariant-loop-i
invariant-loop-i l =
    (l.value < 2 ^ 32)
    × (number_from (2 ^ 32) l.value (drop l.i l.text) ≡ number_of l.text)
    × (l.i + through space (drop l.i l.text) ≡ through space l.text)
