-- `text::masks::alone` meets its contract: to shift left is to multiply by a power of two, and nothing is shifted out.
-- Assumes nothing.
use native.Mathlib.Nat.{one-mul, mod-eq_of_lt}
use Rattle.text.proofs.Laws.Masks.{mask_fits}
use Rattle.text.proofs.masks.alone.Goals as goal

pub returns : goal.returns
returns c = rw (one-mul, mod-eq_of_lt (mask_fits c.args.domain c.requires))
