-- `run` meets its contract.
-- Assumes nothing.
use mathlib.Core.Path.{ap, ◌∙◌}
use Rattle.model.specs.declared.Tally.{Tally}
use Rattle.table.specs.States.{states_in}
use Rattle.table.specs.Words.{rows_in}
use Rattle.rules.specs.Steps.{lends}
use Rattle.trace.specs.Run.{ran_of}
use Rattle.trace.proofs.run.run.Goals as goal

pub returns : goal.returns
returns c =
    rw (← c.tally_at-t.ensures) (ap (λ (y : Tally). ran_of c.run_lent-out.result.answer (lends (rows_in c.run_lent-out.new.table) c.run_lent-out.new.bits (states_in c.run_lent-out.new.stored c.run_lent-out.new.copies) y)) c.set_tally.ensures ∙ c.run_lent-out.ensures.ran)
