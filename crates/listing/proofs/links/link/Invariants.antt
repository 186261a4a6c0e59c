-- `listing::links::link` meets its contract. The invariant: the rows from i on are linked.
-- Assumes nothing.
use Rattle.listing.specs.First.{first_rows}
use Rattle.listing.proofs.Laws.Links.{Filling}
use Rattle.listing.proofs.links.link.Given as goal

abbrev pub invariant-loop-i : goal.invariant-loop-i
invariant-loop-i l = Filling (first_rows l.table l.n) l.first l.next l.i
