-- `count_event` meets its contract.
-- Assumes nothing.
use native.Mathlib.Numerals.{add-one}
use Rattle.rules.proofs.count.count_event.Goals as goal

pub returns-in-Create : goal.returns-in-Create
returns-in-Create c = rw (c.in-Create.is, c.count_up.ensures, add-one)

pub returns-in-Borrow : goal.returns-in-Borrow
returns-in-Borrow c = rw (c.in-Borrow.is, c.count_up-in-Borrow.ensures, add-one)

pub returns-in-Read : goal.returns-in-Read
returns-in-Read c = rw (c.in-Read.is, c.count_up-in-Read.ensures)

pub returns-in-Write : goal.returns-in-Write
returns-in-Write c = rw (c.in-Write.is, c.count_up-in-Write.ensures)

pub returns-in-Drop : goal.returns-in-Drop
returns-in-Drop c = rw (c.in-Drop.is, c.count_up-in-Drop.ensures)
