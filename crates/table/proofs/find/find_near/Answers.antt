-- `find_near` meets its contract.
-- Assumes nothing.
use mathlib.Core.Path.{ap, sym, ◌∙◌}
use Rattle.model.specs.declared.Cap.{Cap}
use native.Mathlib.Omega.{arith}
use Rattle.table.proofs.Laws.Words.{rise_fits}
use Rattle.table.specs.Words.{rows_in}
use Rattle.table.proofs.Laws.Find.{found_at, found_zero}
use Rattle.table.proofs.find.find_near.Goals as goal

pub returns-then-x-eq0 : goal.returns-then-x-eq0
returns-then-x-eq0 c = rw c.if-x-eq0.true (found_zero (rows_in c.args.table.now) c.args.k c.requires.1)

pub row_at-c-requires : goal.row_at-c-requires
row_at-c-requires c = omega (arith, c.if-hint-k.true, rise_fits c.args.table.now c.args.k c.requires.1)

pub returns-then-c-x : goal.returns-then-c-x
returns-then-c-x c = found_at (rows_in c.args.table.now) c.args.k c.args.x c.requires.1 c.args.hint c.if-hint-k.true (ap (λ (d : Cap). d.name.0) (sym c.row_at-c.ensures) ∙ c.if-c-x.true)
