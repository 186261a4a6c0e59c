-- `judge_create` meets its contract.
-- Assumes nothing.
use mathlib.Core.Path.{◌≡◌, sym, ◌∙◌}
use mathlib.Core.Bool.{true, false}
use borrow.Author.Tests.{not-true, not-false}
use Rattle.model.specs.Refusals.{unfit_root, misplaced}
use Rattle.table.proofs.judge.judge_create.Goals as goal

pub returns-then-not-fit_root : goal.returns-then-not-fit_root
returns-then-not-fit_root c =
    let e : unfit_root c.args.actor c.args.r ≡ true = not-false (unfit_root c.args.actor c.args.r) (sym c.fit_root.ensures ∙ not-true c.fit_root.result c.if-not-fit_root.true-raw) in
    rw e

pub returns-then-is_misplaced : goal.returns-then-is_misplaced
returns-then-is_misplaced c =
    let f : unfit_root c.args.actor c.args.r ≡ false = not-true (unfit_root c.args.actor c.args.r) (sym c.fit_root.ensures ∙ not-false c.fit_root.result c.if-not-fit_root.false-raw) in
    let e : misplaced c.args.r c.args.s ≡ true = sym c.is_misplaced.ensures ∙ c.if-is_misplaced.true in
    rw (f, e)

pub room_answer-requires : goal.room_answer-requires
room_answer-requires c = c.requires

pub returns : goal.returns
returns c =
    let f : unfit_root c.args.actor c.args.r ≡ false = not-true (unfit_root c.args.actor c.args.r) (sym c.fit_root.ensures ∙ not-false c.fit_root.result c.if-not-fit_root.false-raw) in
    let e : misplaced c.args.r c.args.s ≡ false = sym c.is_misplaced.ensures ∙ c.if-is_misplaced.false in
    rw (f, e) c.room_answer.ensures
