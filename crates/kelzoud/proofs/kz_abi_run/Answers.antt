-- `kz_abi_run` meets its contract.
-- Assumes nothing.
use mathlib.Core.Path.{ap, ◌∙◌}
use Rattle.model.specs.Step.{State}
use Rattle.kelzoud.proofs.Laws.{ran_parts}
use Rattle.kelzoud.proofs.kz_abi_run.Goals as goal

pub returns : goal.returns
returns c = let e = rw c.sheet_lent-bytes.ensures at c.run-answer.ensures in
    let p = ran_parts c.run-answer.result _ _ e in
    (ap (λ (h : State). h.memory.table) p.0, ap (λ (h : State). h.memory.bits) p.0, ap (λ (h : State). h.slots) p.0, ap (λ (h : State). h.tally) p.0, c.packed_run.ensures ∙ p.1)
