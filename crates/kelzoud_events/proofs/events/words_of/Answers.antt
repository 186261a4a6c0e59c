-- `kelzoud_events::events::words_of` meets its contract, case by case.
-- Assumes nothing.
use Rattle.kelzoud_events.specs.Interface.{words_of}
use Rattle.kelzoud_events.proofs.events.words_of.Goals as goal

pub returns-in-Create : goal.returns-in-Create
unfolding words_of
returns-in-Create c = rw (c.in-Create.is, c.written_of.ensures, c.named_of.ensures, c.low_half.ensures, c.high_half.ensures)

pub returns-in-Borrow : goal.returns-in-Borrow
unfolding words_of
returns-in-Borrow c = rw (c.in-Borrow.is, c.written_of-in-Borrow.ensures, c.named_of-in-Borrow.ensures, c.low_half-in-Borrow.ensures, c.high_half-in-Borrow.ensures)

pub returns-in-Read : goal.returns-in-Read
unfolding words_of
returns-in-Read c = rw c.in-Read.is

pub returns-in-Write : goal.returns-in-Write
unfolding words_of
returns-in-Write c = rw c.in-Write.is

pub returns-in-Drop : goal.returns-in-Drop
unfolding words_of
returns-in-Drop c = rw c.in-Drop.is
