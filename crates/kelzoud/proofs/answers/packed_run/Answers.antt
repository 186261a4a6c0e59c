-- `kelzoud::answers::packed_run` meets its contract: each case by its number and its value.
-- Assumes nothing.
use Rattle.std.specs.Prelude.{ℕ, Result}
use mathlib.Core.Path.{◌∙◌, sym, ap}
use Rattle.trace.specs.declared.run.RefusedAt.{RefusedAt}
use Rattle.kelzoud.specs.Interface.{packed_run}
use Rattle.kelzoud.proofs.answers.packed_run.Goals as goal

pub returns-in-Ok : goal.returns-in-Ok
returns-in-Ok c = c.pack.ensures ∙ ap (λ (a : Result ℕ RefusedAt). packed_run a) (sym c.in-Ok.is)

pub returns-in-Err : goal.returns-in-Err
returns-in-Err c = c.pack_refusal.ensures ∙ ap (λ (a : Result ℕ RefusedAt). packed_run a) (sym c.in-Err.is)
