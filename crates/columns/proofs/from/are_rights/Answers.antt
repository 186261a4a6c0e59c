use mathlib.Core.Path.{refl, ◌∙◌}
use native.Mathlib.Omega.{arith}
use Rattle.model.specs.Table.{is_right}
use Rattle.columns.proofs.Laws.Turns.{all_more, all_found}
use Rattle.columns.proofs.from.are_rights.Goals as goal

pub loop-right-init : goal.loop-right-init
loop-right-init c = (omega arith, refl)

pub loop-right-preserved : goal.loop-right-preserved
loop-right-preserved c =
    let l = c in
    let l = l.loop-right in
    let rights = c.args.rights.now in
    (omega (arith, c.loop-right-test.true), rw c.is_right-good.ensures (all_more is_right rights 0 l.right-index l.good c.loop-right-test.true) ∙ l.invariant.1)

pub returns : goal.returns
returns c = all_found is_right c.args.rights.now c.loop-right.right-index c.loop-right.good c.loop-right-test.false ∙ c.loop-right.invariant.1
