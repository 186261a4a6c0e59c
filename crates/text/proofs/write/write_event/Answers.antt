-- `text::write::write_event` meets its contract: in each arm the event is known, and the line is its spelling.
-- Assumes nothing.
use Rattle.text.specs.Event.{form, spell, has_spelling}
use Rattle.text.proofs.Laws.Write.{event_written}
use Rattle.text.proofs.write.write_event.Goals as goal

pub returns-in-Create : goal.returns-in-Create
returns-in-Create c = rw c.in-Create.is c.write_create.ensures

pub returns-in-Borrow : goal.returns-in-Borrow
returns-in-Borrow c = rw c.in-Borrow.is c.write_borrow.ensures

pub returns-in-Read : goal.returns-in-Read
unfolding spell form has_spelling
returns-in-Read c =
    rw c.in-Read.is (event_written _ _ _ (rw c.is_domain.ensures at c.write_line.ensures))

pub returns-in-Write : goal.returns-in-Write
unfolding spell form has_spelling
returns-in-Write c =
    rw c.in-Write.is (event_written _ _ _ (rw c.is_domain-in-Write.ensures at c.write_line-in-Write.ensures))

pub returns-in-Drop : goal.returns-in-Drop
unfolding spell form has_spelling
returns-in-Drop c =
    rw c.in-Drop.is (event_written _ _ _ (rw c.is_domain-in-Drop.ensures at c.write_line-in-Drop.ensures))
