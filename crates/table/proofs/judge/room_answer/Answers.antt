-- `room_answer` meets its contract.
-- Assumes nothing.
use mathlib.Core.Path.{sym, ◌∙◌}
use borrow.Author.Tests.{le-leb, lt-leb}
use Rattle.table.proofs.judge.room_answer.Goals as goal

pub returns-then-issued-ge1000000 : goal.returns-then-issued-ge1000000
returns-then-issued-ge1000000 c = rw (le-leb _ _ c.if-issued-ge1000000.true)

pub is_misnamed-requires : goal.is_misnamed-requires
is_misnamed-requires c = c.requires.1

pub returns-then-is_misnamed : goal.returns-then-is_misnamed
returns-then-is_misnamed c = rw (lt-leb _ _ c.if-issued-ge1000000.false, sym c.is_misnamed.ensures ∙ c.if-is_misnamed.true)

pub row_answer-requires : goal.row_answer-requires
row_answer-requires c = c.requires

pub returns : goal.returns
returns c = rw (lt-leb _ _ c.if-issued-ge1000000.false, sym c.is_misnamed.ensures ∙ c.if-is_misnamed.false) c.row_answer.ensures
