-- `kelzoud::kz_abi_read_sheet` meets its contract.
-- Assumes nothing.
use mathlib.Core.Path.{ap, ◌∙◌}
use Prim.Native.Nat.{ℕ}
use Rattle.kelzoud_events.specs.Interface.{packed}
use Rattle.kelzoud.proofs.kz_abi_read_sheet.Goals as goal

pub returns : goal.returns
returns c = (c.packed_sheet.ensures ∙ ap (λ (k : ℕ). packed k 0) c.read_sheet-answer.ensures.0, c.read_sheet-answer.ensures.1)
