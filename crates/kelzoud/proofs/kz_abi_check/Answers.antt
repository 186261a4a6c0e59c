-- `kz_abi_check` meets its contract.
-- Assumes nothing.
use mathlib.Core.Path.{◌∙◌, ap}
use Rattle.kelzoud.specs.Interface.{packed_result}
use Rattle.kelzoud.proofs.kz_abi_check.Goals as goal

pub returns : goal.returns
returns c = (c.packed_written.ensures ∙ ap packed_result c.check-answer.ensures.0.answer, c.check-answer.ensures.0.buffer, c.check-answer.ensures.1)
