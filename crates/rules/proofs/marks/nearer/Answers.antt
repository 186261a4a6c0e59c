-- `nearer` meets its contract.
-- Assumes nothing.
use mathlib.Core.Path.{sym, ap, ◌∙◌}
use lib.Dec.{eqb}
use borrow.Author.Tests.{eq-eqb, ne_eqb, lt-ltb, le-ltb}
use Rattle.model.specs.declared.Cap.{Cap}
use Rattle.rules.proofs.marks.nearer.Goals as goal

pub returns-then-found-k : goal.returns-then-found-k
returns-then-found-k c = rw (lt-ltb _ _ c.if-found-k.true)

pub returns-then-c-eq2 : goal.returns-then-c-eq2
returns-then-c-eq2 c = rw (le-ltb _ _ c.if-found-k.false, ap (λ (d : Cap). eqb d.kind 2) (sym c.row_at-c.ensures) ∙ eq-eqb _ _ c.if-c-eq2.true)

pub returns-else-c-eq2 : goal.returns-else-c-eq2
returns-else-c-eq2 c = rw (le-ltb _ _ c.if-found-k.false, ap (λ (d : Cap). eqb d.kind 2) (sym c.row_at-c.ensures) ∙ ne_eqb _ _ c.if-c-eq2.false)
