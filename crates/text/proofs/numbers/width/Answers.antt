use mathlib.Core.Path.{◌≡◌, sym, ◌∙◌}
use native.Mathlib.Omega.{arith}
use Rattle.text.proofs.Laws.Digits.{width_is}
use Rattle.text.proofs.numbers.width.Goals as goal

pub returns-then-n-power : goal.returns-then-n-power
returns-then-n-power c =
    width_is c.args.n c.loop-k.k (omega arith) (omega arith) c.loop-k.invariant.0

pub returns : goal.returns
returns c =
    let n = c.args.n in
    let ten : c.loop-k.k ≡ 10 = omega arith in
    sym ten ∙ width_is n c.loop-k.k (omega arith) (rw ten (omega arith)) c.loop-k.invariant.0
