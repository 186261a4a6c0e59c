-- `kelzoud::kz_abi_read_event` meets its contract.
-- Assumes nothing.
use Rattle.kelzoud.proofs.kz_abi_read_event.Goals as goal

pub returns : goal.returns
returns c = rw (← c.spelling_in-spelling.ensures) c.read_request.ensures
