-- `text::numbers::put_number` meets its contract. The invariant: the digits that are left, written in front of those that stand, make the whole numeral.
-- Assumes nothing.
use mathlib.Core.Path.{◌≡◌}
use Prim.Native.Nat.{◌-◌}
use lib.ListN.{length}
use lib.Seq.{sets}
use Rattle.text.specs.Decimal.{decimal}
use Rattle.text.proofs.Laws.Digits.{digits}
use Rattle.text.proofs.numbers.put_number.Given as goal

abbrev pub invariant-loop-place : goal.invariant-loop-place
invariant-loop-place l =
    (sets l.out l.at (digits 10 l.rest (l.place - l.at)) ≡ sets l.initial.out l.at (decimal l.n)) × (length l.out ≡ length l.initial.out)
