-- `change_bits` meets its contract.
-- Assumes nothing.
use mathlib.Core.Path.{◌∙◌}
use Rattle.model.specs.Bits.{bits_after}
use Rattle.model.specs.Requests.{Unlimited, caller}
use Rattle.rules.proofs.Laws.Steps.{bits_by}
use Rattle.rules.proofs.steps.change_bits.Goals as goal

pub returns-in-Single : goal.returns-in-Single
returns-in-Single c = rw c.in-Single.is (c.event_bits.ensures ∙ bits_by c.args.bits.now c.in-Single.e (caller 0 Unlimited) (caller c.in-Single.field-0 Unlimited))

pub returns-in-Group : goal.returns-in-Group
unfolding bits_after
returns-in-Group c = rw c.in-Group.is
