-- `text::masks::mask_length` meets its contract: the test tells whether the mask is left out.
-- Assumes nothing.
use mathlib.Core.Path.{refl, sym, ap}
use Prim.Native.Nat.{suc}
use native.Mathlib.Omega.{arith}
use Rattle.text.proofs.Laws.Masks.{length_hex}
use Rattle.text.proofs.masks.mask_length.Goals as goal

pub returns-then-is_alone : goal.returns-then-is_alone
returns-then-is_alone c = rw (← c.is_alone.ensures, c.if-is_alone.true) (refl, omega arith)

pub returns-else-is_alone : goal.returns-else-is_alone
returns-else-is_alone c = rw (← c.is_alone.ensures, c.if-is_alone.false) (sym (ap suc (length_hex 16 c.args.mask)), omega arith)
