-- `kelzoud_events::kz_abi_apply` meets its contract.
-- Assumes nothing.
use Rattle.kelzoud_events.specs.Interface.{packed_verdict}
use mathlib.Core.Path.{ap, ◌∙◌}
use Rattle.kelzoud_events.proofs.kz_abi_apply.Goals as goal

pub returns : goal.returns
returns c = let e = rw (c.asked_in-asked.ensures, c.names_in-part.ensures, c.sheet_lent-bytes.ensures) at c.apply-answer.ensures in (e.0, e.1, e.2, e.3, c.packed_answer.ensures ∙ ap packed_verdict e.4)
