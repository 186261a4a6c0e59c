-- `root_in_order` meets its contract.
-- Assumes nothing.
use borrow.Author.Tests.{eq-eqb, ne_eqb}
use Rattle.table.proofs.ordered.root_in_order.Goals as goal

pub returns-then-c-eq1 : goal.returns-then-c-eq1
returns-then-c-eq1 c = rw (eq-eqb _ _ c.if-c-eq1.true)

pub returns-else-c-eq1 : goal.returns-else-c-eq1
returns-else-c-eq1 c = rw (ne_eqb _ _ c.if-c-eq1.false)
