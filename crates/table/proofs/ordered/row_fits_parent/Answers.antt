-- `row_fits_parent` meets its contract.
-- Assumes nothing.
use mathlib.Core.Path.{◌≡◌, ap₂, sym, ◌∙◌}
use mathlib.Core.Bool.{true}
use borrow.Author.Tests.{eq-eqb, ne_eqb, le-leb, lt-leb, not-true, not-false}
use Rattle.model.specs.Table.{span, row_fits_parent}
use Rattle.model.specs.Values.{inside}
use Rattle.table.proofs.ordered.row_fits_parent.Goals as goal

pub returns-then-not-is_inside : goal.returns-then-not-is_inside
unfolding row_fits_parent
returns-then-not-is_inside c =
    let tested : inside (span c.args.c) (span c.args.p) ≡ c.is_inside.result = sym (c.is_inside.ensures ∙ ap₂ inside c.span_of.ensures c.span_of-2.ensures) in
    rw (tested, not-true c.is_inside.result c.if-not-is_inside.true-raw)

pub returns-then-p-c : goal.returns-then-p-c
unfolding row_fits_parent
returns-then-p-c c =
    let tested : inside (span c.args.c) (span c.args.p) ≡ c.is_inside.result = sym (c.is_inside.ensures ∙ ap₂ inside c.span_of.ensures c.span_of-2.ensures) in
    let is-in : inside (span c.args.c) (span c.args.p) ≡ true = tested ∙ not-false c.is_inside.result c.if-not-is_inside.false-raw in
    rw (is-in, lt-leb _ _ c.if-p-c.true)

pub returns-then-c-p : goal.returns-then-c-p
unfolding row_fits_parent
returns-then-c-p c =
    let tested : inside (span c.args.c) (span c.args.p) ≡ c.is_inside.result = sym (c.is_inside.ensures ∙ ap₂ inside c.span_of.ensures c.span_of-2.ensures) in
    let is-in : inside (span c.args.c) (span c.args.p) ≡ true = tested ∙ not-false c.is_inside.result c.if-not-is_inside.false-raw in
    rw (is-in, le-leb _ _ c.if-p-c.false, ne_eqb _ _ c.if-c-p.true)

pub returns-then-c-gt64 : goal.returns-then-c-gt64
unfolding row_fits_parent
returns-then-c-gt64 c =
    let tested : inside (span c.args.c) (span c.args.p) ≡ c.is_inside.result = sym (c.is_inside.ensures ∙ ap₂ inside c.span_of.ensures c.span_of-2.ensures) in
    let is-in : inside (span c.args.c) (span c.args.p) ≡ true = tested ∙ not-false c.is_inside.result c.if-not-is_inside.false-raw in
    rw (is-in, le-leb _ _ c.if-p-c.false, eq-eqb _ _ c.if-c-p.false, lt-leb _ _ c.if-c-gt64.true)

pub returns : goal.returns
unfolding row_fits_parent
returns c =
    let tested : inside (span c.args.c) (span c.args.p) ≡ c.is_inside.result = sym (c.is_inside.ensures ∙ ap₂ inside c.span_of.ensures c.span_of-2.ensures) in
    let is-in : inside (span c.args.c) (span c.args.p) ≡ true = tested ∙ not-false c.is_inside.result c.if-not-is_inside.false-raw in
    rw (is-in, le-leb _ _ c.if-p-c.false, eq-eqb _ _ c.if-c-p.false, le-leb _ _ c.if-c-gt64.false)
