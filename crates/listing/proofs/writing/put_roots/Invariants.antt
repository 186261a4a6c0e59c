-- `listing::writing::put_roots` meets its contract. The invariant: the roots from row k on are left.
-- Assumes nothing.
use Prim.Native.Nat.{◌-◌}
use Rattle.listing.specs.First.{first_rows}
use Rattle.listing.proofs.Laws.Forms.{Lines}
use Rattle.listing.proofs.writing.put_roots.Given as goal

abbrev pub invariant-loop-k : goal.invariant-loop-k
invariant-loop-k l = Lines (first_rows l.table l.n) l.initial.out l.at l.out l.here l.k

abbrev pub decreases-loop-k : goal.decreases-loop-k
decreases-loop-k l = l.n - l.k
