-- `text::masks::mask_at` meets its contract: the test tells whether a mask is written.
-- Assumes nothing.
use mathlib.Core.Path.{ap, ◌∙◌}
use Prim.Native.Nat.{ℕ}
use native.Mathlib.Numerals.{add-one}
use lib.ListN.{drop}
use borrow.Author.Tests.{ne_eqb}
use Rattle.text.specs.Mask.{hex_of}
use Rattle.text.proofs.masks.mask_at.Goals as goal

pub returns-then-byte_at-eq32 : goal.returns-then-byte_at-eq32
returns-then-byte_at-eq32 c =
    let a = c.args in
    rw (← c.byte_at.ensures, c.if-byte_at-eq32.true) (c.digits_at.ensures ∙ ap (λ (k : ℕ). hex_of (drop k a.text.now)) (add-one a.index))

pub returns-else-byte_at-eq32 : goal.returns-else-byte_at-eq32
returns-else-byte_at-eq32 c = rw (← c.byte_at.ensures, ne_eqb _ _ c.if-byte_at-eq32.false) c.alone.ensures
