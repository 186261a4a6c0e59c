-- `sheet::rule::behind` meets its contract.
-- Assumes nothing.
use mathlib.Core.Path.{sym, ◌∙◌}
use Rattle.sheet.proofs.Laws.Reading.{same_is_eq, behind_fits, behind_other}
use Rattle.sheet.proofs.rule.behind.Goals as goal

pub returns-then-eq : goal.returns-then-eq
returns-then-eq c =
    let args = c.args in
    behind_fits args.line.now args.at c.requires c.next_word-word.result.now c.next_word-word.ensures args.expected.now (sym (same_is_eq c.next_word-word.result.now args.expected.now) ∙ sym c.eq.ensures ∙ c.if-eq.true)

pub returns-else-eq : goal.returns-else-eq
returns-else-eq c =
    let args = c.args in
    behind_other args.line.now args.at c.requires c.next_word-word.result.now c.next_word-word.ensures args.expected.now (sym (same_is_eq c.next_word-word.result.now args.expected.now) ∙ sym c.eq.ensures ∙ c.if-eq.false)
