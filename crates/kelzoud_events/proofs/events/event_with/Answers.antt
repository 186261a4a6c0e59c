-- `kelzoud_events::events::event_with` meets its contract: the tests tell the kind.
-- Assumes nothing.
use native.Mathlib.Omega.{arith}
use Rattle.std.proofs.lemmas.Grind.{common_steps}
use Rattle.kelzoud_events.specs.Interface.{event_with}
use Rattle.kelzoud_events.proofs.events.event_with.Goals as goal

pub returns-in-1 : goal.returns-in-1
unfolding event_with
returns-in-1 c = grind (arith, common_steps)

pub returns-in-2 : goal.returns-in-2
unfolding event_with
returns-in-2 c = grind (arith, common_steps)

pub returns-in-3 : goal.returns-in-3
unfolding event_with
returns-in-3 c = grind (arith, common_steps)

pub returns-in-4 : goal.returns-in-4
unfolding event_with
returns-in-4 c = grind (arith, common_steps)

pub returns-in-5 : goal.returns-in-5
unfolding event_with
returns-in-5 c = grind (arith, common_steps)

pub returns-in_default : goal.returns-in_default
unfolding event_with
returns-in_default c = grind (arith, common_steps)
