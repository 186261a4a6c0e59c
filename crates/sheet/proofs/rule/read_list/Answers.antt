use native.Mathlib.Omega.{arith}
use Rattle.text.specs.Class.{space}
use Rattle.sheet.specs.Rule.{listed}
use Rattle.sheet.specs.Reading.{words_for, words_from}
use Rattle.text.proofs.Offered.{part_inside, part_longer}
use Rattle.sheet.proofs.Laws.Reading.{few, goes_start, list_ends, list_other, list_closes, list_goes}
use Rattle.sheet.proofs.rule.read_list.Goals as goal

pub loop-at-init : goal.loop-at-init
loop-at-init c = (c.requires, goes_start (listed (words_for c.args.bracket) (words_from c.args.line.now c.args.start)))

pub returns-then-code-ge6 : goal.returns-then-code-ge6
returns-then-code-ge6 c =
    let args = c.args in
    let bracket = args.bracket in
    list_other args.line.now args.start (words_for bracket) c.loop-at.counts c.loop-at.at c.loop-at.invariant.1 c.loop-at-test.true c.next_word-word.result.now c.next_word-word.ensures c.word_code-code.result c.word_code-code.ensures (few bracket) c.if-code-ge6.true

pub overflow_add-at : goal.overflow_add-at
overflow_add-at c =
    omega (arith, part_inside space c.args.line.now c.loop-at.at c.loop-at.invariant.0 c.next_word-word.result.now c.next_word-word.ensures, c.well_formed)

pub count_one-requires : goal.count_one-requires
count_one-requires c = (omega (arith, c.if-code-ge6.false), c.loop-at.invariant.1.long)

pub returns-then-code-ge3 : goal.returns-then-code-ge3
returns-then-code-ge3 c =
    let args = c.args in
    let bracket = args.bracket in
    rw c.count_one.ensures (list_closes args.line.now args.start (words_for bracket) c.loop-at.counts c.loop-at.at c.loop-at.invariant.1 c.loop-at-test.true c.next_word-word.result.now c.next_word-word.ensures c.word_code-code.result c.word_code-code.ensures (few bracket) c.if-code-ge3.true c.if-code-ge6.false)

pub count_one-requires-in-loop-at : goal.count_one-requires-in-loop-at
count_one-requires-in-loop-at c = (c.if-code-ge3.false, c.loop-at.invariant.1.long)

pub loop-at-smaller : goal.loop-at-smaller
loop-at-smaller c =
    let args = c.args in
    let line = args.line.now in
    omega (arith, part_inside space line c.loop-at.at c.loop-at.invariant.0 c.next_word-word.result.now c.next_word-word.ensures, part_longer space line c.loop-at.at c.loop-at.invariant.0 c.next_word-word.result.now c.next_word-word.ensures c.loop-at-test.true)

pub loop-at-preserved : goal.loop-at-preserved
loop-at-preserved c =
    let args = c.args in
    let line = args.line.now in
    let bracket = args.bracket in
    (part_inside space line c.loop-at.at c.loop-at.invariant.0 c.next_word-word.result.now c.next_word-word.ensures, rw c.count_one-in-loop-at.ensures (list_goes line args.start (words_for bracket) c.loop-at.counts c.loop-at.at c.loop-at.invariant.1 c.loop-at-test.true c.next_word-word.result.now c.next_word-word.ensures c.word_code-code.result c.word_code-code.ensures (few bracket) c.if-code-ge3.false))

pub returns : goal.returns
returns c =
    let args = c.args in
    list_ends args.line.now args.start (words_for args.bracket) c.loop-at.counts c.loop-at.at c.loop-at.invariant.1 c.loop-at.invariant.0 c.loop-at-test.false
