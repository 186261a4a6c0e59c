-- `kelzoud::kz_abi_write_listing` meets its contract.
-- Assumes nothing.
use mathlib.Core.Path.{ap, ◌∙◌}
use Rattle.kelzoud.specs.Interface.{packed_result}
use Rattle.kelzoud.proofs.kz_abi_write_listing.Goals as goal

pub returns : goal.returns
returns c = let e = c.write_listing-answer.ensures in (c.packed_written.ensures ∙ ap packed_result e.answer, e.buffer)
