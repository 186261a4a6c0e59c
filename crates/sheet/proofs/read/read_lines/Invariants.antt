-- `sheet::read::read_lines` meets its contract. The invariant: the lines up to here are rules and added up.
-- Assumes nothing.
use Prim.Native.Nat.{◌-◌, ◌≤◌}
use lib.ListN.{length}
use Rattle.sheet.proofs.Laws.Adding.{Reads}
use Rattle.sheet.proofs.read.read_lines.Given as goal

abbrev pub invariant-loop-at : goal.invariant-loop-at
invariant-loop-at l = (l.at ≤ length l.text) × Reads l.text l.at l.seen l.results

abbrev pub decreases-loop-at : goal.decreases-loop-at
decreases-loop-at l = length l.text - l.at
