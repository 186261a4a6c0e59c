-- `usable_place` meets its contract.
-- Assumes nothing.
use Rattle.std.specs.Prelude.{ℕ, Ok, Result}
use Rattle.model.specs.declared.Refusal.{Refusal}
use mathlib.Core.Path.{◌≡◌, sym, ap, ◌∙◌, subst}
use mathlib.Core.Bool.{true}
use native.Mathlib.Omega.{arith}
use borrow.Author.Tests.{not-true, not-false}
use Rattle.model.specs.Values.{legal, inside}
use Rattle.model.specs.Table.{span}
use Rattle.table.proofs.Laws.Words.{rise_fits}
use Rattle.table.specs.Words.{rows_in}
use Rattle.table.specs.Rows.{before}
use Rattle.table.specs.Stands.{Stands}
use Rattle.table.proofs.Laws.Ordered.{lookup_place}
use Rattle.table.proofs.Laws.Judge.{serve_illegal, serve_outside, serve_above, serve}
use Rattle.table.proofs.judge.usable_place.Goals as goal

pub returns-then-not-is_legal : goal.returns-then-not-is_legal
returns-then-not-is_legal c = serve_illegal (before (rows_in c.args.table.now) c.args.k) c.args.issued c.args.actor c.args.u c.args.s c.args.right (sym c.is_legal.ensures ∙ not-true c.is_legal.result c.if-not-is_legal.true-raw)

pub row_at-c-requires : goal.row_at-c-requires
row_at-c-requires c =
    let T = rows_in c.args.table.now in
    let st : Stands T c.args.k c.args.issued c.args.actor c.args.u (Ok c.in_ok-q.q) = subst (λ (p : Result ℕ Refusal). Stands T c.args.k c.args.issued c.args.actor c.args.u p) c.in_ok-q.was c.place_of.ensures in
    omega (arith, st.1, rise_fits c.args.table.now c.args.k c.requires.1)

pub returns-then-not-is_inside : goal.returns-then-not-is_inside
returns-then-not-is_inside c =
    let T = rows_in c.args.table.now in
    let lg : legal c.args.s ≡ true = sym c.is_legal.ensures ∙ not-false c.is_legal.result c.if-not-is_legal.false-raw in
    let st : Stands T c.args.k c.args.issued c.args.actor c.args.u (Ok c.in_ok-q.q) = subst (λ (p : Result ℕ Refusal). Stands T c.args.k c.args.issued c.args.actor c.args.u p) c.in_ok-q.was c.place_of.ensures in
    let sk = (lookup_place T c.args.k c.in_ok-q.q c.args.u.0 c.requires.1 st.1 st.2).1 ∙ sym c.row_at-c.ensures in
    let ins : inside c.args.s (span c.row_at-c.result) ≡ c.is_inside.result = sym (c.is_inside.ensures ∙ ap (inside c.args.s) c.span_of.ensures) in
    serve_outside (before T c.args.k) c.args.issued c.args.actor c.args.u c.args.s c.args.right c.row_at-c.result lg st.0 sk (ins ∙ not-true c.is_inside.result c.if-not-is_inside.true-raw)

pub returns-then-c-right : goal.returns-then-c-right
returns-then-c-right c =
    let T = rows_in c.args.table.now in
    let lg : legal c.args.s ≡ true = sym c.is_legal.ensures ∙ not-false c.is_legal.result c.if-not-is_legal.false-raw in
    let st : Stands T c.args.k c.args.issued c.args.actor c.args.u (Ok c.in_ok-q.q) = subst (λ (p : Result ℕ Refusal). Stands T c.args.k c.args.issued c.args.actor c.args.u p) c.in_ok-q.was c.place_of.ensures in
    let sk = (lookup_place T c.args.k c.in_ok-q.q c.args.u.0 c.requires.1 st.1 st.2).1 ∙ sym c.row_at-c.ensures in
    let ins : inside c.args.s (span c.row_at-c.result) ≡ c.is_inside.result = sym (c.is_inside.ensures ∙ ap (inside c.args.s) c.span_of.ensures) in
    serve_above (before T c.args.k) c.args.issued c.args.actor c.args.u c.args.s c.args.right c.row_at-c.result lg st.0 sk (ins ∙ not-false c.is_inside.result c.if-not-is_inside.false-raw) c.if-c-right.true

pub returns-else-c-right : goal.returns-else-c-right
returns-else-c-right c =
    let T = rows_in c.args.table.now in
    let lg : legal c.args.s ≡ true = sym c.is_legal.ensures ∙ not-false c.is_legal.result c.if-not-is_legal.false-raw in
    let st : Stands T c.args.k c.args.issued c.args.actor c.args.u (Ok c.in_ok-q.q) = subst (λ (p : Result ℕ Refusal). Stands T c.args.k c.args.issued c.args.actor c.args.u p) c.in_ok-q.was c.place_of.ensures in
    let sk = (lookup_place T c.args.k c.in_ok-q.q c.args.u.0 c.requires.1 st.1 st.2).1 ∙ sym c.row_at-c.ensures in
    let ins : inside c.args.s (span c.row_at-c.result) ≡ c.is_inside.result = sym (c.is_inside.ensures ∙ ap (inside c.args.s) c.span_of.ensures) in
    (serve (before T c.args.k) c.args.issued c.args.actor c.args.u c.args.s c.args.right c.row_at-c.result lg st.0 sk (ins ∙ not-false c.is_inside.result c.if-not-is_inside.false-raw) c.if-c-right.false, st.1, st.2)
