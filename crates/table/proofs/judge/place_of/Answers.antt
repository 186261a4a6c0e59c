-- `place_of` meets its contract.
-- Assumes nothing.
use Rattle.std.specs.Prelude.{ℕ, Ok, Result}
use Rattle.model.specs.declared.Refusal.{Refusal}
use mathlib.Core.Path.{◌≡◌, sym, ◌∙◌, subst}
use native.Mathlib.Omega.{arith}
use Rattle.model.specs.Table.{lookup}
use Rattle.table.specs.Words.{rows_in}
use Rattle.table.specs.Rows.{before}
use Rattle.table.specs.Stands.{Lives}
use Rattle.table.proofs.Laws.Words.{rise_fits}
use Rattle.table.proofs.Laws.Ordered.{lookup_place}
use Rattle.table.proofs.Laws.Judge.{stand_unheld, stand}
use Rattle.table.proofs.judge.place_of.Goals as goal

pub living_place-requires : goal.living_place-requires
living_place-requires c = (c.requires.0, c.requires.1)

pub row_at-c-requires : goal.row_at-c-requires
row_at-c-requires c =
    let place : Lives (rows_in c.args.table.now) c.args.k c.args.issued c.args.u (Ok c.in_ok-q.q) = subst (λ (p : Result ℕ Refusal). Lives (rows_in c.args.table.now) c.args.k c.args.issued c.args.u p) c.in_ok-q.was c.living_place.ensures in
    omega (arith, place.1, rise_fits c.args.table.now c.args.k c.requires.1)

pub has_bit-requires : goal.has_bit-requires
has_bit-requires c = c.requires.2

pub returns-then-has_bit : goal.returns-then-has_bit
returns-then-has_bit c =
    let place : Lives (rows_in c.args.table.now) c.args.k c.args.issued c.args.u (Ok c.in_ok-q.q) = subst (λ (p : Result ℕ Refusal). Lives (rows_in c.args.table.now) c.args.k c.args.issued c.args.u p) c.in_ok-q.was c.living_place.ensures in
    let found : lookup c.args.u.0 (before (rows_in c.args.table.now) c.args.k) ≡ c.row_at-c.result = let p = place in (lookup_place (rows_in c.args.table.now) c.args.k c.in_ok-q.q c.args.u.0 c.requires.1 p.1 p.2).1 ∙ sym c.row_at-c.ensures in
    let p = place in
    (stand (before (rows_in c.args.table.now) c.args.k) c.args.issued c.args.actor c.args.u c.row_at-c.result p.0 found (sym c.has_bit.ensures ∙ c.if-has_bit.true), p.1, p.2)

pub returns-else-has_bit : goal.returns-else-has_bit
returns-else-has_bit c =
    let place : Lives (rows_in c.args.table.now) c.args.k c.args.issued c.args.u (Ok c.in_ok-q.q) = subst (λ (p : Result ℕ Refusal). Lives (rows_in c.args.table.now) c.args.k c.args.issued c.args.u p) c.in_ok-q.was c.living_place.ensures in
    let found : lookup c.args.u.0 (before (rows_in c.args.table.now) c.args.k) ≡ c.row_at-c.result = let p = place in (lookup_place (rows_in c.args.table.now) c.args.k c.in_ok-q.q c.args.u.0 c.requires.1 p.1 p.2).1 ∙ sym c.row_at-c.ensures in
    let p = place in
    stand_unheld (before (rows_in c.args.table.now) c.args.k) c.args.issued c.args.actor c.args.u c.row_at-c.result p.0 found (sym c.has_bit.ensures ∙ c.if-has_bit.false)
