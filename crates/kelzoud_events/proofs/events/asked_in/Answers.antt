-- `kelzoud_events::events::asked_in` meets its contract: the tests tell the kind.
-- Assumes nothing.
use native.Mathlib.Omega.{arith}
use Rattle.std.proofs.lemmas.Grind.{common_steps}
use Rattle.kelzoud_events.specs.Interface.{asked_in, event_in}
use Rattle.kelzoud_events.proofs.events.asked_in.Goals as goal

pub returns-in-6 : goal.returns-in-6
unfolding asked_in event_in
returns-in-6 c = grind (arith, common_steps)

pub returns-in-7 : goal.returns-in-7
unfolding asked_in event_in
returns-in-7 c = grind (arith, common_steps)

pub returns-in-8 : goal.returns-in-8
unfolding asked_in event_in
returns-in-8 c = grind (arith, common_steps)

pub returns-in_default : goal.returns-in_default
unfolding asked_in event_in
returns-in_default c = grind (arith, common_steps)
