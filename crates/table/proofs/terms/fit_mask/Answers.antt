-- `fit_mask` meets its contract.
-- Assumes nothing.
use mathlib.Core.Path.{sym, ◌∙◌}
use mathlib.Core.Bool.{not-not}
use borrow.Author.Tests.{not-true, not-false, ltb-true}
use Rattle.table.proofs.terms.fit_mask.Goals as goal

pub returns-then-not-is_domain : goal.returns-then-not-is_domain
returns-then-not-is_domain c = rw (sym c.is_domain.ensures, not-true c.is_domain.result c.if-not-is_domain.true-raw)

pub has_bit-requires : goal.has_bit-requires
has_bit-requires c = ltb-true c.args.actor 64 (sym c.is_domain.ensures ∙ not-false c.is_domain.result c.if-not-is_domain.false-raw)

pub returns : goal.returns
returns c = rw (sym c.is_domain.ensures, not-false c.is_domain.result c.if-not-is_domain.false-raw, not-not) c.has_bit.ensures
