-- `row_in_order` meets its contract.
-- Assumes nothing.
use mathlib.Core.Path.{◌≡◌, ap, sym, ◌∙◌}
use mathlib.Core.Bool.{true}
use mathlib.Core.List.{List}
use borrow.Author.Tests.{eq-eqb, ne_eqb, not-true, not-false}
use Rattle.model.specs.declared.Cap.{Cap}
use Rattle.model.specs.Table.{span, derivation, is_right, is_kind, terms_in_order, row_fits_parent, row_in_order, parent_in_order}
use Rattle.model.specs.Values.{legal}
use native.Mathlib.Omega.{arith}
use Rattle.table.proofs.Laws.Words.{rise_fits}
use Rattle.table.specs.Words.{rows_in}
use Rattle.table.proofs.Laws.Ordered.{lookup_place}
use Rattle.table.proofs.ordered.row_in_order.Goals as goal

pub returns-then-not-is_legal : goal.returns-then-not-is_legal
unfolding row_in_order
returns-then-not-is_legal c =
    let tested_span : legal (span c.args.c) ≡ c.is_legal.result = sym (c.is_legal.ensures ∙ ap legal c.span_of.ensures) in
    rw (tested_span, not-true c.is_legal.result c.if-not-is_legal.true-raw)

pub returns-then-not-is_right : goal.returns-then-not-is_right
unfolding row_in_order
returns-then-not-is_right c =
    let tested_span : legal (span c.args.c) ≡ c.is_legal.result = sym (c.is_legal.ensures ∙ ap legal c.span_of.ensures) in
    let tested-right : is_right c.args.c.right ≡ c.is_right.result = sym c.is_right.ensures in
    let is-legal : legal (span c.args.c) ≡ true = tested_span ∙ not-false c.is_legal.result c.if-not-is_legal.false-raw in
    rw (is-legal, tested-right, not-true c.is_right.result c.if-not-is_right.true-raw)

pub returns-then-not-is_kind : goal.returns-then-not-is_kind
unfolding row_in_order
returns-then-not-is_kind c =
    let tested_span : legal (span c.args.c) ≡ c.is_legal.result = sym (c.is_legal.ensures ∙ ap legal c.span_of.ensures) in
    let tested-right : is_right c.args.c.right ≡ c.is_right.result = sym c.is_right.ensures in
    let tested-kind : is_kind c.args.c.kind ≡ c.is_kind.result = sym c.is_kind.ensures in
    let is-legal : legal (span c.args.c) ≡ true = tested_span ∙ not-false c.is_legal.result c.if-not-is_legal.false-raw in
    let has_right : is_right c.args.c.right ≡ true = tested-right ∙ not-false c.is_right.result c.if-not-is_right.false-raw in
    rw (is-legal, has_right, tested-kind, not-true c.is_kind.result c.if-not-is_kind.true-raw)

pub returns-then-not-terms_in_order : goal.returns-then-not-terms_in_order
unfolding row_in_order
returns-then-not-terms_in_order c =
    let tested_span : legal (span c.args.c) ≡ c.is_legal.result = sym (c.is_legal.ensures ∙ ap legal c.span_of.ensures) in
    let tested-right : is_right c.args.c.right ≡ c.is_right.result = sym c.is_right.ensures in
    let tested-kind : is_kind c.args.c.kind ≡ c.is_kind.result = sym c.is_kind.ensures in
    let tested-terms : terms_in_order (derivation c.args.c) ≡ c.terms_in_order.result = sym c.terms_in_order.ensures in
    let is-legal : legal (span c.args.c) ≡ true = tested_span ∙ not-false c.is_legal.result c.if-not-is_legal.false-raw in
    let has_right : is_right c.args.c.right ≡ true = tested-right ∙ not-false c.is_right.result c.if-not-is_right.false-raw in
    let has-kind : is_kind c.args.c.kind ≡ true = tested-kind ∙ not-false c.is_kind.result c.if-not-is_kind.false-raw in
    rw (is-legal, has_right, has-kind, tested-terms, not-true c.terms_in_order.result c.if-not-terms_in_order.true-raw)

pub returns-then-c-eq0 : goal.returns-then-c-eq0
unfolding parent_in_order row_in_order
returns-then-c-eq0 c =
    let tested_span : legal (span c.args.c) ≡ c.is_legal.result = sym (c.is_legal.ensures ∙ ap legal c.span_of.ensures) in
    let tested-right : is_right c.args.c.right ≡ c.is_right.result = sym c.is_right.ensures in
    let tested-kind : is_kind c.args.c.kind ≡ c.is_kind.result = sym c.is_kind.ensures in
    let tested-terms : terms_in_order (derivation c.args.c) ≡ c.terms_in_order.result = sym c.terms_in_order.ensures in
    let is-legal : legal (span c.args.c) ≡ true = tested_span ∙ not-false c.is_legal.result c.if-not-is_legal.false-raw in
    let has_right : is_right c.args.c.right ≡ true = tested-right ∙ not-false c.is_right.result c.if-not-is_right.false-raw in
    let has-kind : is_kind c.args.c.kind ≡ true = tested-kind ∙ not-false c.is_kind.result c.if-not-is_kind.false-raw in
    let rest : (earlier : List Cap) → row_in_order c.args.c earlier ≡ parent_in_order c.args.c earlier = λ earlier. rw (is-legal, has_right, has-kind, tested-terms, not-false c.terms_in_order.result c.if-not-terms_in_order.false-raw) in
    rw (rest, eq-eqb _ _ c.if-c-eq0.true) c.root_in_order.ensures

pub returns-then-q-i : goal.returns-then-q-i
unfolding parent_in_order row_in_order
returns-then-q-i c =
    let tested_span : legal (span c.args.c) ≡ c.is_legal.result = sym (c.is_legal.ensures ∙ ap legal c.span_of.ensures) in
    let tested-right : is_right c.args.c.right ≡ c.is_right.result = sym c.is_right.ensures in
    let tested-kind : is_kind c.args.c.kind ≡ c.is_kind.result = sym c.is_kind.ensures in
    let tested-terms : terms_in_order (derivation c.args.c) ≡ c.terms_in_order.result = sym c.terms_in_order.ensures in
    let is-legal : legal (span c.args.c) ≡ true = tested_span ∙ not-false c.is_legal.result c.if-not-is_legal.false-raw in
    let has_right : is_right c.args.c.right ≡ true = tested-right ∙ not-false c.is_right.result c.if-not-is_right.false-raw in
    let has-kind : is_kind c.args.c.kind ≡ true = tested-kind ∙ not-false c.is_kind.result c.if-not-is_kind.false-raw in
    let rest : (earlier : List Cap) → row_in_order c.args.c earlier ≡ parent_in_order c.args.c earlier = λ earlier. rw (is-legal, has_right, has-kind, tested-terms, not-false c.terms_in_order.result c.if-not-terms_in_order.false-raw) in
    let p = lookup_place (rows_in c.args.table.now) c.args.i c.args.q c.args.c.parent.0 c.requires.1 c.if-q-i.true (c.requires.2.here c.if-q-i.true) in
    rw (rest, ne_eqb _ _ c.if-c-eq0.false, p.0, p.1) (c.row_fits_parent.ensures ∙ ap (row_fits_parent c.args.c) c.row_at-p.ensures)

pub returns-else-q-i : goal.returns-else-q-i
unfolding parent_in_order row_in_order
returns-else-q-i c =
    let tested_span : legal (span c.args.c) ≡ c.is_legal.result = sym (c.is_legal.ensures ∙ ap legal c.span_of.ensures) in
    let tested-right : is_right c.args.c.right ≡ c.is_right.result = sym c.is_right.ensures in
    let tested-kind : is_kind c.args.c.kind ≡ c.is_kind.result = sym c.is_kind.ensures in
    let tested-terms : terms_in_order (derivation c.args.c) ≡ c.terms_in_order.result = sym c.terms_in_order.ensures in
    let is-legal : legal (span c.args.c) ≡ true = tested_span ∙ not-false c.is_legal.result c.if-not-is_legal.false-raw in
    let has_right : is_right c.args.c.right ≡ true = tested-right ∙ not-false c.is_right.result c.if-not-is_right.false-raw in
    let has-kind : is_kind c.args.c.kind ≡ true = tested-kind ∙ not-false c.is_kind.result c.if-not-is_kind.false-raw in
    let rest : (earlier : List Cap) → row_in_order c.args.c earlier ≡ parent_in_order c.args.c earlier = λ earlier. rw (is-legal, has_right, has-kind, tested-terms, not-false c.terms_in_order.result c.if-not-terms_in_order.false-raw) in
    rw (rest, ne_eqb _ _ c.if-c-eq0.false, c.requires.2.gone c.if-q-i.false)

pub row_at-p-requires : goal.row_at-p-requires
row_at-p-requires c = omega (arith, c.if-q-i.true, rise_fits c.args.table.now c.args.i c.requires.1)
