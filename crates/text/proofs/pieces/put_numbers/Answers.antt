use mathlib.Core.Path.{sym, ap, ◌∙◌}
use mathlib.Core.List.{◌++◌}
use Prim.Native.Nat.{◌+◌}
use native.Mathlib.Omega.{arith}
use lib.ListN.{length, get_or, drop, length-set}
use lib.Seq.{sets}
use Rattle.text.specs.Decimal.{decimal}
use Rattle.text.specs.Event.{spaced}
use Rattle.text.proofs.Laws.Put.{sets_first, put_next, put_length, spaced_first, spaced_length, spaced_end}
use Rattle.text.proofs.pieces.put_numbers.Goals as goal

pub bounds-out-next : goal.bounds-out-next
bounds-out-next c = omega (arith, spaced_length c.args.numbers.now c.loop-number.number-index c.loop-number-test.true)

pub put_number-next-requires : goal.put_number-next-requires
put_number-next-requires c =
    rw length-set (omega (arith, spaced_length c.args.numbers.now c.loop-number.number-index c.loop-number-test.true))

pub loop-number-preserved : goal.loop-number-preserved
loop-number-preserved c =
    let s = c.args.numbers.now in
    let out = c.loop-number.out in
    let next = c.loop-number.next in
    let i = c.loop-number.number-index in
    let more = c.loop-number-test.true in
    let put = c.put_number-next.ensures in
    let rest = spaced (drop (i + 1) s) in (
      put_next put rest ∙ sym (sets_first out next 32 (decimal (get_or s i 0) ++ rest)) ∙ ap (sets out next) (sym (spaced_first s i more)) ∙ c.loop-number.invariant.0,
      omega (arith, put.moved, spaced_length s i more),
      put_length put ∙ length-set out next 32 ∙ c.loop-number.invariant.2,
    )

pub returns : goal.returns
returns c =
    let s = c.args.numbers.now in
    let none = spaced_end s c.loop-number.number-index c.loop-number-test.false in
    record {
      moved = omega (arith, ap length none);
      stored = sym (ap (sets c.loop-number.out c.loop-number.next) none) ∙ c.loop-number.invariant.0;
    }
