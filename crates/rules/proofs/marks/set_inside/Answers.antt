use mathlib.Core.Path.{ap, ◌∙◌}
use mathlib.Core.Bool.{cond}
use Prim.Native.Nat.{ℕ}
use native.Mathlib.Omega.{arith}
use lib.Dec.{eqb}
use lib.ListN.{get_or}
use Rattle.rules.specs.Engine.{inside_of}
use Rattle.rules.proofs.Laws.Marks.{inside_more}
use Rattle.rules.proofs.marks.set_inside.Goals as goal

pub loop-i-preserved : goal.loop-i-preserved
loop-i-preserved c =
    let i : ℕ = c.loop-i.i in
    let e = c.inside_mark.ensures ∙ ap (λ (q : ℕ). cond (eqb (get_or c.loop-i.relation i 0) 1) 1 (inside_of c.loop-i.relation c.args.cell q i)) c.wide.ensures in
    rw e (inside_more i c.args.cell c.args.places.now c.args.relation.now c.loop-i.relation c.loop-i.invariant (omega arith) (omega (arith, c.requires.0, c.loop-i-test.true)))
