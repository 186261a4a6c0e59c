-- `event_bits` meets its contract: only a create and a write change bits.
-- Assumes nothing.
use Rattle.model.specs.Bits.{bits_after}
use Rattle.rules.proofs.steps.event_bits.Goals as goal

pub returns-in-Create : goal.returns-in-Create
unfolding bits_after
returns-in-Create c = rw c.in-Create.is c.put_span.ensures

pub returns-in-Borrow : goal.returns-in-Borrow
unfolding bits_after
returns-in-Borrow c = rw c.in-Borrow.is

pub returns-in-Read : goal.returns-in-Read
unfolding bits_after
returns-in-Read c = rw c.in-Read.is

pub returns-in-Write : goal.returns-in-Write
unfolding bits_after
returns-in-Write c = rw c.in-Write.is c.put_span-in-Write.ensures

pub returns-in-Drop : goal.returns-in-Drop
unfolding bits_after
returns-in-Drop c = rw c.in-Drop.is
