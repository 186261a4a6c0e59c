-- `is_memory` meets its contract.
-- Assumes nothing.
use borrow.Author.Tests.{eq-eqb, ne_eqb}
use Rattle.table.specs.States.{is_memory}
use Rattle.table.proofs.states.is_memory.Goals as goal

pub returns-then-stored-ne8200 : goal.returns-then-stored-ne8200
unfolding is_memory
returns-then-stored-ne8200 c = rw (ne_eqb _ _ c.if-stored-ne8200.true)

pub returns : goal.returns
unfolding is_memory
returns c = rw (eq-eqb _ _ c.if-stored-ne8200.false)
