-- `count_allowed` meets its contract.
-- Assumes nothing.
use mathlib.Core.Path.{◌∙◌}
use Rattle.model.specs.Requests.{Unlimited, caller}
use Rattle.rules.proofs.Laws.Steps.{count_by}
use Rattle.rules.proofs.count.count_allowed.Goals as goal

pub returns-in-Single : goal.returns-in-Single
returns-in-Single c = rw c.in-Single.is (c.count_event.ensures ∙ count_by c.in-Single.e c.args.t (caller 0 Unlimited) (caller c.in-Single.field-0 Unlimited))

pub returns-in-Group : goal.returns-in-Group
returns-in-Group c = rw (c.in-Group.is, c.count_up.ensures)
