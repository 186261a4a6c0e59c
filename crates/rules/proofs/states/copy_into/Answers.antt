use Rattle.std.proofs.Common.{◌+◌, arith, sym, ap, ◌∙◌, add-one}
use lib.ListN.{set}
use lib.Seq.{paste, paste-suc}
use Rattle.rules.proofs.states.copy_into.Goals as goal

pub loop-i-preserved : goal.loop-i-preserved
loop-i-preserved g c =
    let to = c.args.to.now in
    let x = c.index-from-i.result in
    ap (λ xs. set xs (c.args.at + c.loop-i.i) x) c.loop-i.invariant
    ∙ ap (set (paste to c.args.at c.args.from.now c.loop-i.i) (c.args.at + c.loop-i.i)) c.index-from-i.is
    ∙ paste-suc to c.args.at c.args.from.now c.loop-i.i x (omega (arith, c.requires.0, c.loop-i-test.true)) (omega (arith, c.requires.1, c.loop-i-test.true))
    ∙ ap (paste to c.args.at c.args.from.now) (sym (add-one c.loop-i.i))
