-- `text::states::read_state` meets its contract: the mark of the slot that is guessed is the answer where the line is its spelling, and else the back.
-- Assumes nothing.
use Rattle.text.specs.State.{read_state}
use Rattle.text.proofs.states.read_state.Goals as goal

pub returns-then-is_spelling : goal.returns-then-is_spelling
unfolding read_state
returns-then-is_spelling c =
    rw (← c.actor_of-actor.ensures, ← c.form_of.ensures, ← c.slot_of-slot.ensures, ← c.is_spelling.ensures, c.if-is_spelling.true)

pub returns-then-is_spelling-2 : goal.returns-then-is_spelling-2
unfolding read_state
returns-then-is_spelling-2 c =
    rw (← c.actor_of-actor.ensures, ← c.form_of.ensures, ← c.slot_of-slot.ensures, ← c.is_spelling.ensures, c.if-is_spelling.false, ← c.is_spelling-2.ensures, c.if-is_spelling-2.true)

pub returns : goal.returns
unfolding read_state
returns c =
    rw (← c.actor_of-actor.ensures, ← c.form_of.ensures, ← c.slot_of-slot.ensures, ← c.is_spelling.ensures, c.if-is_spelling.false, ← c.is_spelling-2.ensures, c.if-is_spelling-2.false)
