-- `sheet::read::read_sheet` meets its contract.
-- Assumes nothing.
use mathlib.Core.Path.{sym, ◌∙◌}
use borrow.Author.Tests.{not-true, not-false}
use Rattle.sheet.proofs.Laws.Adding.{noted_none, sheet_misspelt, sheet_twice, sheet_missing, sheet_is}
use Rattle.sheet.proofs.read.read_sheet.Goals as goal

pub read_lines-requires : goal.read_lines-requires
read_lines-requires c = noted_none

pub returns-then-not-read_lines : goal.returns-then-not-read_lines
returns-then-not-read_lines c =
    let args = c.args in
    sheet_misspelt args.text.now args.sheet.now (sym (not-true c.read_lines.result c.if-not-read_lines.true-raw) ∙ c.read_lines.ensures.rules)

pub returns-then-some_twice : goal.returns-then-some_twice
returns-then-some_twice c =
    let args = c.args in
    sheet_twice args.text.now args.sheet.now _ _ (sym (not-false c.read_lines.result c.if-not-read_lines.false-raw) ∙ c.read_lines.ensures.rules) (c.read_lines.ensures.noted (not-false c.read_lines.result c.if-not-read_lines.false-raw)) (sym c.some_twice.ensures ∙ c.if-some_twice.true)

pub returns-then-some_missing : goal.returns-then-some_missing
returns-then-some_missing c =
    let args = c.args in
    sheet_missing args.text.now args.sheet.now _ _ (sym (not-false c.read_lines.result c.if-not-read_lines.false-raw) ∙ c.read_lines.ensures.rules) (c.read_lines.ensures.noted (not-false c.read_lines.result c.if-not-read_lines.false-raw)) (sym c.some_twice.ensures ∙ c.if-some_twice.false) (sym c.some_missing.ensures ∙ c.if-some_missing.true)

pub returns : goal.returns
returns c =
    let args = c.args in
    sheet_is args.text.now args.sheet.now _ _ (sym (not-false c.read_lines.result c.if-not-read_lines.false-raw) ∙ c.read_lines.ensures.rules) (c.read_lines.ensures.noted (not-false c.read_lines.result c.if-not-read_lines.false-raw)) (sym c.some_twice.ensures ∙ c.if-some_twice.false) (sym c.some_missing.ensures ∙ c.if-some_missing.false)
