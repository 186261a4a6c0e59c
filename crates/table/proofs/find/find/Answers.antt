use mathlib.Core.Path.{ap, sym, ◌∙◌}
use native.Mathlib.Omega.{arith}
use Rattle.model.specs.declared.Cap.{Cap}
use Rattle.table.proofs.Laws.Words.{rise_fits}
use Rattle.table.specs.Words.{rows_in}
use Rattle.table.proofs.Laws.Find.{halving_all, halving_more, halving_none, found_at, found_empty}
use Rattle.table.proofs.find.find.Goals as goal

pub returns-then-k-eq0 : goal.returns-then-k-eq0
returns-then-k-eq0 c = rw c.if-k-eq0.true (found_empty (rows_in c.args.table.now) c.args.x)

pub loop-size-init : goal.loop-size-init
loop-size-init c = halving_all (rows_in c.args.table.now) c.args.k c.args.x c.requires.1 (omega (arith, c.if-k-eq0.false))

pub not_above-base-requires : goal.not_above-base-requires
not_above-base-requires c = omega (arith, c.loop-size.invariant.fits, rise_fits c.args.table.now c.args.k c.requires.1, c.loop-size-test.true)

pub loop-size-smaller : goal.loop-size-smaller
loop-size-smaller c = omega (arith, c.loop-size-test.true)

pub loop-size-preserved : goal.loop-size-preserved
loop-size-preserved c = rw c.not_above-base.ensures (halving_more (rows_in c.args.table.now) c.args.k c.args.x c.requires.1 c.loop-size.base c.loop-size.size c.loop-size.invariant c.loop-size-test.true)

pub row_at-c-requires : goal.row_at-c-requires
row_at-c-requires c = omega (arith, c.loop-size.invariant.fits, c.loop-size.invariant.some, rise_fits c.args.table.now c.args.k c.requires.1)

pub returns-then-c-x : goal.returns-then-c-x
returns-then-c-x c = found_at (rows_in c.args.table.now) c.args.k c.args.x c.requires.1 c.loop-size.base (omega (arith, c.loop-size.invariant.fits, c.loop-size.invariant.some)) (ap (λ (d : Cap). d.name.0) (sym c.row_at-c.ensures) ∙ c.if-c-x.true)

pub returns-else-c-x : goal.returns-else-c-x
returns-else-c-x c = halving_none (rows_in c.args.table.now) c.args.k c.args.x c.requires.1 c.loop-size.base c.loop-size.size c.loop-size.invariant (omega (arith, c.loop-size-test.false)) (λ q. c.if-c-x.false (ap (λ (d : Cap). d.name.0) c.row_at-c.ensures ∙ q))
