-- `sizes::rounds::take_turn` meets its contract: the next line of what is left of the client's text, if anything is left.
-- Assumes nothing.
use Rattle.sizes.specs.Taken.{memory}
use Rattle.sizes.proofs.Laws.Rounds.{advanced_none, none_left, advanced_one, lines_are, turn_passed, turn_runs}
use Rattle.sizes.proofs.rounds.take_turn.Goals as goal

pub returns-then-start-end : goal.returns-then-start-end
returns-then-start-end c =
    let a = c.args in
    let p = c.requires in
    let text = a.text.now in
    let at = a.at.now in
    let ends = a.ends.now in
    let line = c.next_line-line.result.now in
    let is = c.next_line-line.ensures in
    let more = c.if-start-end.true in (
      advanced_one text at ends a.client p.2 p.1 p.3 p.4 more line is,
      turn_runs (memory a.table.now a.bits.now a.places.now a.names.now a.keys.now a.counts.now) a.from text at ends a.client line _ (lines_are text at ends a.client p.2 p.1 p.3 p.4 more line is) _ c.take_line.result c.take_line.ensures,
    )

pub returns : goal.returns
returns c =
    let a = c.args in
    let p = c.requires in
    let text = a.text.now in
    let at = a.at.now in
    let ends = a.ends.now in
    let end = c.if-start-end.false in (
      advanced_none text at ends a.client p.2 p.1 p.3 p.4 end,
      turn_passed (memory a.table.now a.bits.now a.places.now a.names.now a.keys.now a.counts.now) a.from text at ends a.client _ (none_left text at ends a.client p.2 p.1 p.3 p.4 end),
    )
