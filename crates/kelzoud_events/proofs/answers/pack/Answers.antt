-- `kelzoud_events::answers::pack` meets its contract: the lower 32 bits hold the value.
-- Assumes nothing.
use native.Mathlib.Omega.{arith}
use Rattle.std.proofs.lemmas.Grind.{common_steps}
use Rattle.kelzoud_events.specs.Interface.{packed}
use Rattle.kelzoud_events.proofs.answers.pack.Goals as goal

pub returns : goal.returns
unfolding packed
returns c = grind (arith, common_steps)
