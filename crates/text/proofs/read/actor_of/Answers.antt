-- `text::read::actor_of` meets its contract: the test tells whether the line has an `as`.
-- Assumes nothing.
use mathlib.Core.Path.{ap, ◌∙◌}
use borrow.Author.Tests.{ne_eqb}
use Rattle.text.specs.Decimal.{number_of}
use Rattle.text.proofs.read.actor_of.Goals as goal

pub returns-then-byte_at-eq97 : goal.returns-then-byte_at-eq97
returns-then-byte_at-eq97 c = rw (← c.byte_at.ensures, c.if-byte_at-eq97.true) (c.number.ensures ∙ ap number_of c.after_space.ensures)

pub returns-else-byte_at-eq97 : goal.returns-else-byte_at-eq97
returns-else-byte_at-eq97 c = rw (← c.byte_at.ensures, ne_eqb _ _ c.if-byte_at-eq97.false)
