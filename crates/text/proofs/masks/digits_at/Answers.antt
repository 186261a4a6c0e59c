-- `text::masks::digits_at` meets its contract: past the end there is no digit.
-- Assumes nothing.
use mathlib.Core.Path.{sym, ap, ◌∙◌}
use Prim.Native.Nat.{◌-◌}
use native.Mathlib.Omega.{arith}
use lib.ListN.{length, drop, length-drop}
use lib.Seq.{take_all}
use Rattle.text.specs.Mask.{hex_of}
use Rattle.text.proofs.Laws.Masks.{from_end}
use Rattle.text.proofs.masks.digits_at.Goals as goal

pub returns-then-at-text : goal.returns-then-at-text
returns-then-at-text c =
    let a = c.args in
    let s = a.text.now in
    c.digits_of.ensures ∙ ap hex_of (take_all (length s - a.at) (drop a.at s) (omega (arith, length-drop a.at s)))

pub returns-else-at-text : goal.returns-else-at-text
returns-else-at-text c =
    let a = c.args in
    sym (from_end 16 0 a.text.now a.at c.if-at-text.false)
