use native.Mathlib.Omega.{arith}
use Rattle.text.specs.Class.{newline}
use Rattle.text.proofs.Offered.{part_inside, part_longer}
use Rattle.sheet.proofs.Laws.Adding.{reads_none, reads_all, reads_stops, reads_more}
use Rattle.sheet.proofs.read.read_lines.Goals as goal

pub loop-at-init : goal.loop-at-init
loop-at-init c = (omega arith, reads_none c.args.text.now c.args.seen.now c.args.results.now c.requires)

pub returns-then-rule-ge3 : goal.returns-then-rule-ge3
returns-then-rule-ge3 c =
    reads_stops c.args.text.now c.loop-at.at c.loop-at.seen c.loop-at.results c.loop-at.invariant.1 c.loop-at-test.true c.next_line-line.result.now c.next_line-line.ensures c.read_rule-rule.result c.read_rule-rule.ensures c.if-rule-ge3.true

pub add_rule-requires : goal.add_rule-requires
add_rule-requires c = c.loop-at.invariant.1.adding.ready

pub overflow_add-at : goal.overflow_add-at
overflow_add-at c =
    omega (arith, part_inside newline c.args.text.now c.loop-at.at c.loop-at.invariant.0 c.next_line-line.result.now c.next_line-line.ensures, c.well_formed)

pub loop-at-smaller : goal.loop-at-smaller
loop-at-smaller c =
    let args = c.args in
    let text = args.text.now in
    omega (arith, part_inside newline text c.loop-at.at c.loop-at.invariant.0 c.next_line-line.result.now c.next_line-line.ensures, part_longer newline text c.loop-at.at c.loop-at.invariant.0 c.next_line-line.result.now c.next_line-line.ensures c.loop-at-test.true)

pub loop-at-preserved : goal.loop-at-preserved
loop-at-preserved c =
    let args = c.args in
    let text = args.text.now in
    (part_inside newline text c.loop-at.at c.loop-at.invariant.0 c.next_line-line.result.now c.next_line-line.ensures, reads_more text c.loop-at.at c.loop-at.seen c.loop-at.results c.loop-at.invariant.1 c.loop-at-test.true c.next_line-line.result.now c.next_line-line.ensures c.read_rule-rule.result c.read_rule-rule.ensures c.if-rule-ge3.false _ _ c.add_rule.ensures)

pub returns : goal.returns
returns c = reads_all c.args.text.now c.loop-at.at c.loop-at.seen c.loop-at.results c.loop-at.invariant.1 c.loop-at-test.false
