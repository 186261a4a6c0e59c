-- `charge_live` meets its contract.
-- Assumes nothing.
use Rattle.model.proofs.Offered.{passed_on}
use Rattle.std.specs.Prelude.{ℕ, Err, Ok, Result}
use Rattle.model.specs.declared.Refusal.{Refusal}
use mathlib.Core.Path.{◌≡◌, sym, ◌∙◌, subst}
use native.Mathlib.Omega.{arith}
use lib.ListN.{length}
use Rattle.model.specs.Table.{lookup}
use Rattle.table.specs.Words.{rows_in}
use Rattle.table.specs.Rows.{before, Rise}
use Rattle.table.specs.Stands.{Lives}
use Rattle.table.proofs.Laws.Words.{rise_fits}
use Rattle.table.proofs.Laws.Ordered.{lookup_place}
use Rattle.table.proofs.Laws.Judge.{orderly_few, orderly_rise}
use Rattle.table.proofs.Laws.Charge.{charge_refused, charge_shares, some_holder}
use Rattle.table.proofs.charge.charge_live.Goals as goal

pub living_place-requires : goal.living_place-requires
living_place-requires c =
    let rise : Rise (rows_in c.args.table.now) c.args.k = orderly_rise (rows_in c.args.table.now) (length c.args.table.now) c.args.k c.args.issued c.requires in
    (orderly_few (rows_in c.args.table.now) (length c.args.table.now) c.args.k c.args.issued c.requires, rise)

pub row_at-requires : goal.row_at-requires
row_at-requires c =
    let rise : Rise (rows_in c.args.table.now) c.args.k = orderly_rise (rows_in c.args.table.now) (length c.args.table.now) c.args.k c.args.issued c.requires in
    let place : Lives (rows_in c.args.table.now) c.args.k c.args.issued c.args.u (Ok c.in_ok-q.q) = subst (λ (p : Result ℕ Refusal). Lives (rows_in c.args.table.now) c.args.k c.args.issued c.args.u p) c.in_ok-q.was c.living_place.ensures in
    omega (arith, place.1, rise_fits c.args.table.now c.args.k rise)

pub shares_of-requires : goal.shares_of-requires
shares_of-requires c =
    let rise : Rise (rows_in c.args.table.now) c.args.k = orderly_rise (rows_in c.args.table.now) (length c.args.table.now) c.args.k c.args.issued c.requires in
    let place : Lives (rows_in c.args.table.now) c.args.k c.args.issued c.args.u (Ok c.in_ok-q.q) = subst (λ (p : Result ℕ Refusal). Lives (rows_in c.args.table.now) c.args.k c.args.issued c.args.u p) c.in_ok-q.was c.living_place.ensures in
    let found : lookup c.args.u.0 (before (rows_in c.args.table.now) c.args.k) ≡ c.row_at.result = let p = place in (lookup_place (rows_in c.args.table.now) c.args.k c.in_ok-q.q c.args.u.0 rise p.1 p.2).1 ∙ sym c.row_at.ensures in
    some_holder (rows_in c.args.table.now) (length c.args.table.now) c.args.k c.args.issued c.requires c.args.u c.row_at.result place.0 found

pub returns-in_err-q : goal.returns-in_err-q
returns-in_err-q c =
    let T = rows_in c.args.table.now in
    let not : Lives T c.args.k c.args.issued c.args.u (Err c.in_err-q.field-0.0) = subst (λ (p : Result ℕ Refusal). Lives T c.args.k c.args.issued c.args.u p) c.in_err-q.was c.living_place.ensures in
    rw (passed_on c.from_residual.result c.in_err-q.field-0.0 c.from_residual.ensures.1) (sym (charge_refused T (length c.args.table.now) c.args.k c.args.issued c.requires c.args.u c.in_err-q.field-0.0 not))

pub returns : goal.returns
returns c =
    let rise : Rise (rows_in c.args.table.now) c.args.k = orderly_rise (rows_in c.args.table.now) (length c.args.table.now) c.args.k c.args.issued c.requires in
    let place : Lives (rows_in c.args.table.now) c.args.k c.args.issued c.args.u (Ok c.in_ok-q.q) = subst (λ (p : Result ℕ Refusal). Lives (rows_in c.args.table.now) c.args.k c.args.issued c.args.u p) c.in_ok-q.was c.living_place.ensures in
    let found : lookup c.args.u.0 (before (rows_in c.args.table.now) c.args.k) ≡ c.row_at.result = let p = place in (lookup_place (rows_in c.args.table.now) c.args.k c.in_ok-q.q c.args.u.0 rise p.1 p.2).1 ∙ sym c.row_at.ensures in
    c.shares_of.ensures ∙ sym (charge_shares (rows_in c.args.table.now) (length c.args.table.now) c.args.k c.args.issued c.requires c.args.u c.row_at.result place.0 found)
