-- `text::lines::after_space` meets its contract: the count is within the text.
-- Assumes nothing.
use mathlib.Core.Path.{ap, ◌∙◌}
use Prim.Native.Nat.{ℕ, ◌-◌}
use native.Mathlib.Omega.{arith}
use lib.ListN.{length, drop, length-drop}
use lib.Seq.{take_all}
use Rattle.text.specs.Class.{space}
use Rattle.text.proofs.Laws.Line.{through_le}
use Rattle.text.proofs.lines.after_space.Goals as goal

pub slice_bounds-result-count : goal.slice_bounds-result-count
slice_bounds-result-count c = omega (arith, through_le space c.args.text.now)

pub slice_bounds-result-start : goal.slice_bounds-result-start
slice_bounds-result-start c = omega (arith, through_le space c.args.text.now)

pub returns : goal.returns
returns c =
    let s = c.args.text.now in
    let n = c.count_through-start.result in
    take_all (length s - n) (drop n s) (omega (arith, length-drop n s)) ∙ ap (λ (k : ℕ). drop k s) c.count_through-start.ensures
