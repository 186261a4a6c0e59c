-- `kelzoud::answers::packed_written` meets its contract: each case by its number and its value.
-- Assumes nothing.
use Rattle.std.specs.Prelude.{ℕ, Result}
use Rattle.model.specs.declared.Refusal.{Refusal}
use mathlib.Core.Path.{◌∙◌, sym, ap}
use Rattle.text.specs.Write.{written_answer}
use Rattle.kelzoud.specs.Interface.{packed_result}
use Rattle.kelzoud.proofs.answers.packed_written.Goals as goal

pub returns-in-Ok : goal.returns-in-Ok
returns-in-Ok c = c.pack.ensures ∙ ap (λ (a : Result ℕ Refusal). packed_result (written_answer a)) (sym c.in-Ok.is)

pub returns-in-Err : goal.returns-in-Err
returns-in-Err c = c.pack_refusal.ensures ∙ ap (λ (a : Result ℕ Refusal). packed_result (written_answer a)) (sym c.in-Err.is)
