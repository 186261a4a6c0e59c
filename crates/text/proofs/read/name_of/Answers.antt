-- `text::read::name_of` meets its contract.
-- Assumes nothing.
use mathlib.Core.Path.{ap}
use Prim.Native.Nat.{ℕ}
use Rattle.text.proofs.read.name_of.Goals as goal

pub returns : goal.returns
returns c = ap (λ (n : ℕ). record { 0 = n }) c.number.ensures
