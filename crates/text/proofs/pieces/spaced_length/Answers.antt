use mathlib.Core.Path.{ap}
use native.Mathlib.Omega.{arith}
use lib.ListN.{length}
use Rattle.text.proofs.Laws.Digits.{decimal_short}
use Rattle.text.proofs.Laws.Put.{spaced_length, spaced_end}
use Rattle.text.proofs.pieces.spaced_length.Goals as goal

pub overflow_add-total : goal.overflow_add-total
overflow_add-total c = omega (arith, decimal_short _ (c.type_inv.numbers c.loop-number.number-index).fits)

pub overflow_add-total-in-loop-number : goal.overflow_add-total-in-loop-number
overflow_add-total-in-loop-number c = omega (arith, decimal_short _ (c.type_inv.numbers c.loop-number.number-index).fits)

pub loop-number-preserved : goal.loop-number-preserved
loop-number-preserved c =
    omega (arith, decimal_short _ (c.type_inv.numbers c.loop-number.number-index).fits, spaced_length c.args.numbers.now c.loop-number.number-index c.loop-number-test.true)

pub returns : goal.returns
returns c =
    omega (arith, ap length (spaced_end c.args.numbers.now c.loop-number.number-index c.loop-number-test.false))
