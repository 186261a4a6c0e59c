-- `judge_group` meets its contract.
-- Assumes nothing.
use mathlib.Core.Path.{sym, ◌∙◌}
use borrow.Author.Tests.{not-true, not-false, ltb-true}
use Rattle.table.proofs.groups.judge_group.Goals as goal

pub returns-then-not-is_group : goal.returns-then-not-is_group
returns-then-not-is_group c = rw (sym c.is_group.ensures, not-true c.is_group.result c.if-not-is_group.true-raw)

pub returns-then-not-is_domain : goal.returns-then-not-is_domain
returns-then-not-is_domain c = rw (sym c.is_group.ensures, not-false c.is_group.result c.if-not-is_group.false-raw, sym c.is_domain.ensures, not-true c.is_domain.result c.if-not-is_domain.true-raw)

pub judge_names-requires : goal.judge_names-requires
judge_names-requires c = (c.requires.0, c.requires.1, ltb-true c.args.actor 64 (sym c.is_domain.ensures ∙ not-false c.is_domain.result c.if-not-is_domain.false-raw))

pub returns : goal.returns
returns c = rw (sym c.is_group.ensures, not-false c.is_group.result c.if-not-is_group.false-raw, sym c.is_domain.ensures, not-false c.is_domain.result c.if-not-is_domain.false-raw) c.judge_names.ensures
