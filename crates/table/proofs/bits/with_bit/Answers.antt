-- `with_bit` meets its contract: a bit that is not so is put on, or taken off, by what it is worth.
-- Assumes nothing.
use mathlib.Core.Path.{◌≡◌, sym, ap, ◌∙◌}
use mathlib.Core.Bool.{true, false, not}
use native.Mathlib.Omega.{arith}
use Rattle.model.specs.Bits.{has_bit}
use Rattle.table.proofs.Laws.Bits.{beq_same, beq_other, bit_is, bit_set, bit_clear, bit_fits, shifted}
use Rattle.table.proofs.bits.with_bit.Goals as goal

pub returns-then-has_bit-v : goal.returns-then-has_bit-v
returns-then-has_bit-v c =
    let a = c.args in
    bit_is a.v a.j a.b (sym c.has_bit.ensures ∙ beq_same c.has_bit.result a.v c.if-has_bit-v.true)

pub overflow_add-result : goal.overflow_add-result
overflow_add-result c =
    let h : has_bit c.args.b c.args.j ≡ false = sym c.has_bit.ensures ∙ beq_other c.has_bit.result c.args.v c.if-has_bit-v.false ∙ ap not c.if-v.true in
    rw (shifted c.args.j c.requires, bit_set c.args.j c.args.b h) (record { fits = bit_fits true c.args.j 8 c.args.b c.requires c.ranges.b.fits })

pub overflow_sub-result : goal.overflow_sub-result
overflow_sub-result c =
    let h : has_bit c.args.b c.args.j ≡ true = sym c.has_bit.ensures ∙ beq_other c.has_bit.result c.args.v c.if-has_bit-v.false ∙ ap not c.if-v.false in
    rw (shifted c.args.j c.requires) (omega (arith, bit_clear c.args.j c.args.b h))

pub returns-then-v : goal.returns-then-v
returns-then-v c =
    let h : has_bit c.args.b c.args.j ≡ false = sym c.has_bit.ensures ∙ beq_other c.has_bit.result c.args.v c.if-has_bit-v.false ∙ ap not c.if-v.true in
    rw (shifted c.args.j c.requires, c.if-v.true) (bit_set c.args.j c.args.b h)

pub returns-else-v : goal.returns-else-v
returns-else-v c =
    let h : has_bit c.args.b c.args.j ≡ true = sym c.has_bit.ensures ∙ beq_other c.has_bit.result c.args.v c.if-has_bit-v.false ∙ ap not c.if-v.false in
    rw (shifted c.args.j c.requires, c.if-v.false) (omega (arith, bit_clear c.args.j c.args.b h))
