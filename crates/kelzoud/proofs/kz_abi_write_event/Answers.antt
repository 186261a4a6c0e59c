-- `kelzoud::kz_abi_write_event` meets its contract.
-- Assumes nothing.
use mathlib.Core.Path.{ap, ◌∙◌}
use Rattle.text.specs.Write.{Outcome}
use Rattle.kelzoud.specs.Interface.{packed_result}
use Rattle.kelzoud.proofs.kz_abi_write_event.Goals as goal

pub returns : goal.returns
returns c =
    let w = rw (c.asked_in-asked.ensures, c.names_in-part.ensures) at c.write_request-answer.ensures in
    (c.packed_written.ensures ∙ ap (λ (o : Outcome). packed_result o.answer) w, ap (λ (o : Outcome). o.buffer) w)
