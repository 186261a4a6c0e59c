-- `sizes::fit::lay_out` meets its contract. The invariant, `Laying`: each text that is passed begins and ends at sums of lengths.
-- Assumes nothing.
use Rattle.sizes.proofs.Laws.Laid.{Laying}
use Rattle.sizes.proofs.fit.lay_out.Given as goal

abbrev pub invariant-loop-k : goal.invariant-loop-k
invariant-loop-k l = Laying l.lengths l.at l.ends l.place l.k
