-- `apply` meets its contract.
-- Assumes nothing.
use mathlib.Core.Path.{◌∙◌}
use Rattle.rules.proofs.lent.apply.Goals as goal

pub returns : goal.returns
returns c = let t = c.tally_at-t.ensures in let a = c.step-out.ensures in rw (← t) (a.table, a.bits, a.stored, c.set_tally.ensures ∙ a.tally, a.answer)
