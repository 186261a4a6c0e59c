-- `judge_read` meets its contract.
-- Assumes nothing.
use mathlib.Core.Path.{◌≡◌, sym, ◌∙◌}
use mathlib.Core.Bool.{true, false}
use borrow.Author.Tests.{not-true, not-false, ltb-true}
use Rattle.model.specs.Table.{is_domain}
use Rattle.table.proofs.judge.judge_read.Goals as goal

pub returns-then-not-is_domain : goal.returns-then-not-is_domain
returns-then-not-is_domain c = let d : is_domain c.args.actor ≡ false = sym c.is_domain.ensures ∙ not-true c.is_domain.result c.if-not-is_domain.true-raw in rw d

pub read_answer-requires : goal.read_answer-requires
read_answer-requires c = let d : is_domain c.args.actor ≡ true = sym c.is_domain.ensures ∙ not-false c.is_domain.result c.if-not-is_domain.false-raw in (c.requires.0, c.requires.1, ltb-true c.args.actor 64 d)

pub returns : goal.returns
returns c = let d : is_domain c.args.actor ≡ true = sym c.is_domain.ensures ∙ not-false c.is_domain.result c.if-not-is_domain.false-raw in rw d c.read_answer.ensures
