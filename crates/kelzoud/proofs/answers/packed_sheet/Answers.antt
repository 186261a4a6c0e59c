-- `kelzoud::answers::packed_sheet` meets its contract: each case by its number.
-- Assumes nothing.
use Rattle.std.specs.Prelude.{Result}
use mathlib.Core.Path.{◌∙◌, sym, ap}
use Rattle.model.specs.declared.Refusal.{Refusal}
use Rattle.sheet.specs.ReadSheet.{sheet_answer}
use Rattle.kelzoud_events.specs.Interface.{packed}
use Rattle.kelzoud.proofs.answers.packed_sheet.Goals as goal

pub returns-in-Ok : goal.returns-in-Ok
returns-in-Ok c = c.pack.ensures ∙ ap (λ (a : Result (Unit {0}) Refusal). packed (sheet_answer a) 0) (sym c.in-Ok.is)

pub returns-in-Err : goal.returns-in-Err
returns-in-Err c = c.pack_refusal.ensures ∙ ap (λ (a : Result (Unit {0}) Refusal). packed (sheet_answer a) 0) (sym c.in-Err.is)
