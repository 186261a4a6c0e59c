-- `text::lines::next_word` meets its contract: the count is within the text.
-- Assumes nothing.
use mathlib.Core.Path.{sym, ap}
use Prim.Native.Nat.{ℕ}
use native.Mathlib.Omega.{arith}
use lib.ListN.{take}
use lib.Seq.{length-take-le}
use Rattle.text.specs.Class.{space}
use Rattle.text.proofs.Laws.Line.{through_le}
use Rattle.text.proofs.lines.next_word.Goals as goal

pub slice_bounds-result-end : goal.slice_bounds-result-end
slice_bounds-result-end c =
    let s = c.args.text.now in
    sym (length-take-le c.count_through-end.result s (omega (arith, through_le space s)))

pub returns : goal.returns
returns c = ap (λ (k : ℕ). take k c.args.text.now) c.count_through-end.ensures
