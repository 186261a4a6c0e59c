-- `sizes::names::keep_living` meets its contract. The invariant, `Keeping`: of the entries that are passed those of the first j rows are kept, and the names of the later rows are ahead.
-- Assumes nothing.
use Rattle.table.specs.Words.{rows_in}
use Rattle.sizes.proofs.Laws.Room.{Keeping}
use Rattle.sizes.proofs.names.keep_living.Given as goal

abbrev pub invariant-loop-i : goal.invariant-loop-i
invariant-loop-i l = Keeping (rows_in l.table) l.live l.initial.names l.initial.keys l.used l.names l.keys l.j l.i
