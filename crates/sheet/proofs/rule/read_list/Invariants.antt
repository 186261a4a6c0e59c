-- `sheet::rule::read_list` meets its contract. The invariant: what is counted, with what is listed from here on, is what the bracket lists.
-- Assumes nothing.
use Prim.Native.Nat.{◌-◌, ◌≤◌}
use lib.ListN.{length}
use Rattle.sheet.specs.Rule.{listed}
use Rattle.sheet.specs.Reading.{words_for, words_from}
use Rattle.sheet.proofs.Laws.Reading.{Goes}
use Rattle.sheet.proofs.rule.read_list.Given as goal

abbrev pub invariant-loop-at : goal.invariant-loop-at
invariant-loop-at l = (l.at ≤ length l.line) × Goes (listed (words_for l.bracket) (words_from l.line l.start)) l.counts (listed (words_for l.bracket) (words_from l.line l.at))

abbrev pub decreases-loop-at : goal.decreases-loop-at
decreases-loop-at l = length l.line - l.at
