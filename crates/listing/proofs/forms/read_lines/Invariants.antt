-- `listing::forms::read_lines` meets its contract. The invariant: the lines of the last bytes are left to read.
-- Assumes nothing.
use Rattle.listing.proofs.Laws.Roots.{Left}
use Rattle.listing.proofs.forms.read_lines.Given as goal

abbrev pub invariant-loop-left : goal.invariant-loop-left
invariant-loop-left l = Left l.text l.table l.left l.count

abbrev pub decreases-loop-left : goal.decreases-loop-left
decreases-loop-left l = l.left
