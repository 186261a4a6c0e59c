-- `text::masks::put_mask` meets its contract: the test tells whether the mask is left out, and else a space is put and the digits behind it.
-- Assumes nothing.
use mathlib.Core.Path.{refl, sym, ◌∙◌}
use Prim.Native.Nat.{◌+◌, ◌≤◌}
use native.Mathlib.Omega.{arith}
use lib.ListN.{length, length-set}
use Rattle.text.specs.Mask.{hex}
use Rattle.text.proofs.Laws.Masks.{length_hex}
use Rattle.text.proofs.Laws.Put.{sets_first, put_length}
use Rattle.text.proofs.masks.put_mask.Goals as goal

pub returns-then-is_alone : goal.returns-then-is_alone
returns-then-is_alone c = rw (← c.is_alone.ensures, c.if-is_alone.true) (record { moved = omega arith; stored = refl })

pub bounds-out-at : goal.bounds-out-at
bounds-out-at c =
    let room : c.args.at + 17 ≤ length c.args.out.now = let all = rw (← c.is_alone.ensures, c.if-is_alone.false) at c.requires in omega (arith, all, length_hex 16 c.args.mask) in
    omega (arith, room)

pub overflow_add-at : goal.overflow_add-at
overflow_add-at c =
    let room : c.args.at + 17 ≤ length c.args.out.now = let all = rw (← c.is_alone.ensures, c.if-is_alone.false) at c.requires in omega (arith, all, length_hex 16 c.args.mask) in
    omega (arith, room)

pub put_digits-requires : goal.put_digits-requires
put_digits-requires c =
    let room : c.args.at + 17 ≤ length c.args.out.now = let all = rw (← c.is_alone.ensures, c.if-is_alone.false) at c.requires in omega (arith, all, length_hex 16 c.args.mask) in
    rw length-set (omega (arith, room, length_hex 16 c.args.mask))

pub shape_of-out : goal.shape_of-out
shape_of-out c =
    let a = c.args in
    put_length c.put_digits.ensures ∙ length-set a.out.now a.at 32

pub returns : goal.returns
returns c =
    let put = c.put_digits.ensures in
    let a = c.args in
    rw (← c.is_alone.ensures, c.if-is_alone.false)
    (record { moved = omega (arith, put.moved); stored = put.stored ∙ sym (sets_first a.out.now a.at 32 (hex 16 a.mask)) })
