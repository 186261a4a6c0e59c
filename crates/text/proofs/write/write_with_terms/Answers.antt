-- `text::write::write_with_terms` meets its contract: the tests tell what is refused, and a start and an ending are the line.
-- Assumes nothing.
use native.Mathlib.Omega.{arith}
use borrow.Author.Tests.{not-true, not-false}
use Rattle.text.specs.Event.{spaced, front, ending}
use Rattle.text.proofs.Laws.Put.{put_length}
use Rattle.text.proofs.Laws.Write.{writes_refused, line_none, line_all}
use Rattle.text.proofs.write.write_with_terms.Goals as goal

pub returns-then-not-spelled : goal.returns-then-not-spelled
returns-then-not-spelled c =
    let a = c.args in
    rw (not-true a.spelled c.if-not-spelled.true-raw) (writes_refused _ a.out.now)

pub returns-then-out-total : goal.returns-then-out-total
returns-then-out-total c =
    let a = c.args in
    rw (not-false a.spelled c.if-not-spelled.false-raw)
    (line_none (front a.actor) a.word.now (spaced a.numbers.now) (ending a.actor a.terms) a.out.now (omega (arith, c.if-out-total.true, c.ending_length.ensures.0, c.start_length.ensures.0)))

pub put_start-past_start-requires : goal.put_start-past_start-requires
put_start-past_start-requires c = omega (arith, c.if-out-total.false, c.ending_length.ensures.0, c.start_length.ensures.0)

pub put_ending-end-requires : goal.put_ending-end-requires
put_ending-end-requires c =
    omega (arith, c.put_start-past_start.ensures.moved, put_length c.put_start-past_start.ensures, c.if-out-total.false, c.ending_length.ensures.0, c.start_length.ensures.0)

pub returns : goal.returns
returns c =
    let a = c.args in
    rw (not-false a.spelled c.if-not-spelled.false-raw)
    (line_all (front a.actor) a.word.now (spaced a.numbers.now) (ending a.actor a.terms) c.put_start-past_start.ensures c.put_ending-end.ensures
    (omega (arith, c.if-out-total.false, c.ending_length.ensures.0, c.start_length.ensures.0)))
