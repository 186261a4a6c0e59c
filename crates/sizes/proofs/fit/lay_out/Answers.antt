use mathlib.Core.Path.{refl}
use native.Mathlib.Omega.{arith}
use Rattle.sizes.proofs.Laws.Laid.{laying_none, laying_more, laying_all}
use Rattle.sizes.proofs.fit.lay_out.Goals as goal

pub loop-k-init : goal.loop-k-init
loop-k-init c = laying_none c.args.lengths.now c.args.at.now c.args.ends.now c.requires.1 c.requires.2

pub loop-k-preserved : goal.loop-k-preserved
loop-k-preserved c = laying_more c.args.lengths.now c.loop-k.at c.loop-k.ends c.loop-k.place c.loop-k.k c.requires.0 c.loop-k.invariant c.loop-k-test.true _ refl (omega (arith, c.type_inv.lengths c.loop-k.k))

pub returns : goal.returns
returns c = laying_all c.args.lengths.now c.loop-k.at c.loop-k.ends c.loop-k.place c.loop-k.k c.loop-k.invariant c.loop-k-test.false
