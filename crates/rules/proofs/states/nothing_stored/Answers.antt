-- `nothing_stored` meets its contract.
-- Assumes nothing.
use mathlib.Core.Path.{sym, ◌∙◌}
use Rattle.rules.proofs.states.nothing_stored.Goals as goal

pub returns-then-is_domain : goal.returns-then-is_domain
returns-then-is_domain c = rw (sym c.is_domain.ensures ∙ c.if-is_domain.true)

pub returns-else-is_domain : goal.returns-else-is_domain
returns-else-is_domain c = rw (sym c.is_domain.ensures ∙ c.if-is_domain.false)
