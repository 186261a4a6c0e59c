-- `text::states::write_slot` meets its contract: the line is the spelling of the word and the slot.
-- Assumes nothing.
use Rattle.text.specs.State.{spell_slot}
use Rattle.text.proofs.Laws.State.{slot_written}
use Rattle.text.proofs.states.write_slot.Goals as goal

pub returns : goal.returns
unfolding spell_slot
returns c =
    slot_written _ _ _ (rw c.is_spelled.ensures at c.write_line.ensures)
