-- `sheet::read::add_rule` meets its contract. The invariant: up to p both lists have what the line leaves, and behind it what they had.
-- Assumes nothing.
use Rattle.sheet.proofs.Laws.Adding.{Filled, seen_after, result_after}
use Rattle.sheet.proofs.read.add_rule.Given as goal

abbrev pub invariant-loop-p : goal.invariant-loop-p
invariant-loop-p l = Filled (seen_after l.rule l.initial.seen) l.initial.seen l.seen l.p × Filled (result_after l.rule l.initial.seen l.initial.results) l.initial.results l.results l.p
