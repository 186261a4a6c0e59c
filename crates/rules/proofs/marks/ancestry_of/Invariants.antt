-- `ancestry_of` meets its contract: what is left of the ancestry starts at `at`, among the first `top` rows.
-- Assumes nothing.
use Rattle.table.specs.Words.{rows_in}
use Rattle.rules.proofs.Laws.Marks.{Walk}
use Rattle.rules.proofs.marks.ancestry_of.Given as goal

abbrev pub invariant-loop-at : goal.invariant-loop-at
invariant-loop-at l = Walk (rows_in l.table) l.k l.u l.relation l.cell l.top l.at

abbrev pub decreases-loop-at : goal.decreases-loop-at
decreases-loop-at l = l.top
