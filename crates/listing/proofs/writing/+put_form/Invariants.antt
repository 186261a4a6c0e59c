-- `put_form` meets its contract. Each call is on a later row: the measure is how many rows are left.
-- Assumes nothing.
use Rattle.std.proofs.Common.{◌-◌}
use Rattle.listing.specs.First.{first_rows}
use Rattle.listing.proofs.Laws.Forms.{Inside}
use Rattle.listing.proofs.writing.+put_form.Given as goal

abbrev pub decreases-put_form : goal.decreases-put_form
decreases-put_form l = l.n - l.i

abbrev pub invariant-loop-k : goal.invariant-loop-k
invariant-loop-k l = Inside (first_rows l.table l.n) l.i l.initial.out l.initial.here l.initial.k l.out l.here l.k

abbrev pub decreases-loop-k : goal.decreases-loop-k
decreases-loop-k l = l.n - l.k
