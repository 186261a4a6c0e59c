-- `kelzoud_events::events::part_of` meets its contract.
-- Assumes nothing.
use native.Mathlib.Omega.{arith}
use Rattle.std.proofs.lemmas.Grind.{common_steps}
use Rattle.kelzoud_events.specs.Interface.{part}
use Rattle.kelzoud_events.proofs.events.part_of.Goals as goal

pub returns-then-to-names : goal.returns-then-to-names
unfolding part
returns-then-to-names c = grind (arith, common_steps)

pub returns-else-to-names : goal.returns-else-to-names
unfolding part
returns-else-to-names c = grind (arith, common_steps)
