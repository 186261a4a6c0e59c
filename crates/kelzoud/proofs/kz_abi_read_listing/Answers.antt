-- `kelzoud::kz_abi_read_listing` meets its contract.
-- Assumes nothing.
use mathlib.Core.Path.{ap, ◌∙◌}
use Rattle.kelzoud.specs.Interface.{packed_read}
use Rattle.kelzoud.proofs.kz_abi_read_listing.Goals as goal

pub returns : goal.returns
returns c = let e = c.read_listing-answer.ensures in (e.table, e.tally, c.packed_listing.ensures ∙ ap packed_read e.answer)
