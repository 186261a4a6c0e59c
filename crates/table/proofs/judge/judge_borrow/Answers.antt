-- `judge_borrow` meets its contract.
-- Assumes nothing.
use mathlib.Core.Path.{◌≡◌, sym, ◌∙◌}
use mathlib.Core.Bool.{true, false}
use borrow.Author.Tests.{not-true, not-false}
use Rattle.model.specs.Refusals.{unfit_child}
use Rattle.table.proofs.Laws.Judge.{child_domain}
use Rattle.table.proofs.judge.judge_borrow.Goals as goal

pub returns-then-not-fit_child : goal.returns-then-not-fit_child
returns-then-not-fit_child c =
    let e : unfit_child c.args.actor c.args.r ≡ true = not-false (unfit_child c.args.actor c.args.r) (sym c.fit_child.ensures ∙ not-true c.fit_child.result c.if-not-fit_child.true-raw) in
    rw e

pub judge_child-requires : goal.judge_child-requires
judge_child-requires c =
    let f : unfit_child c.args.actor c.args.r ≡ false = not-true (unfit_child c.args.actor c.args.r) (sym c.fit_child.ensures ∙ not-false c.fit_child.result c.if-not-fit_child.false-raw) in
    (c.requires.0, c.requires.1, c.requires.2, child_domain c.args.actor c.args.r f)

pub returns : goal.returns
returns c =
    let f : unfit_child c.args.actor c.args.r ≡ false = not-true (unfit_child c.args.actor c.args.r) (sym c.fit_child.ensures ∙ not-false c.fit_child.result c.if-not-fit_child.false-raw) in
    rw f c.judge_child.ensures
