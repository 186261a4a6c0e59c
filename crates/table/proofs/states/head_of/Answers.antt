-- `head_of` meets its contract.
-- Assumes nothing.
use mathlib.Core.Path.{ap}
use mathlib.Core.List.{[]}
use lib.ListN.{get_or}
use Rattle.table.proofs.states.head_of.Goals as goal

pub returns : goal.returns
returns c = (ap (λ x. get_or (get_or c.args.stored.now x []) 0 0) c.head_at.ensures, ap (λ x. get_or (get_or c.args.stored.now x []) 1 0) c.head_at.ensures)
