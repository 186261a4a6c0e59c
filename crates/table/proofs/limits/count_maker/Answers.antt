-- `count_maker` meets its contract.
-- Assumes nothing.
use native.Mathlib.Numerals.{add-one}
use Rattle.table.proofs.limits.count_maker.Goals as goal

pub returns : goal.returns
returns c = rw add-one
