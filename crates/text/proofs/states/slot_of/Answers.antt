-- `text::states::slot_of` meets its contract: the slot is the number behind the first space.
-- Assumes nothing.
use mathlib.Core.Path.{ap, ◌∙◌}
use Rattle.text.specs.Decimal.{number_of}
use Rattle.text.proofs.states.slot_of.Goals as goal

pub returns : goal.returns
returns c = c.number.ensures ∙ ap number_of c.after_space.ensures
