-- `judge_child` meets its contract.
-- Assumes nothing.
use Rattle.model.proofs.Offered.{passed_on}
use Rattle.std.specs.Prelude.{Err, Ok, Result}
use Rattle.model.specs.declared.Refusal.{Refusal}
use mathlib.Core.Path.{◌≡◌, sym, ap, ◌∙◌, subst}
use Prim.Native.Nat.{ℕ, suc}
use native.Mathlib.Omega.{arith}
use lib.ListN.{length}
use Rattle.model.specs.Step.{verdict}
use Rattle.model.specs.Table.{lookup}
use Rattle.table.proofs.Laws.Words.{rise_fits}
use Rattle.table.specs.Words.{rows_in}
use Rattle.table.specs.Rows.{before}
use Rattle.table.specs.Stands.{Serves}
use Rattle.table.specs.Limits.{limits_in}
use Rattle.table.proofs.Laws.Ordered.{lookup_place}
use Rattle.table.proofs.Laws.Judge.{numbered, borrow_not, borrow_deep, borrow_room}
use Rattle.table.proofs.judge.judge_child.Goals as goal

pub usable_place-requires : goal.usable_place-requires
usable_place-requires c = (c.requires.0, c.requires.1, c.requires.3)

pub row_at-c-requires : goal.row_at-c-requires
row_at-c-requires c =
    let place : Serves (rows_in c.args.table.now) c.args.k c.args.issued c.args.actor c.args.u c.args.s c.args.right (Ok c.in_ok-q.q) = subst (λ (p : Result ℕ Refusal). Serves (rows_in c.args.table.now) c.args.k c.args.issued c.args.actor c.args.u c.args.s c.args.right p) c.in_ok-q.was c.usable_place.ensures in
    omega (arith, place.1, rise_fits c.args.table.now c.args.k c.requires.1)

pub returns-then-c-ge64 : goal.returns-then-c-ge64
returns-then-c-ge64 c =
    let place : Serves (rows_in c.args.table.now) c.args.k c.args.issued c.args.actor c.args.u c.args.s c.args.right (Ok c.in_ok-q.q) = subst (λ (p : Result ℕ Refusal). Serves (rows_in c.args.table.now) c.args.k c.args.issued c.args.actor c.args.u c.args.s c.args.right p) c.in_ok-q.was c.usable_place.ensures in
    let found : lookup c.args.u.0 (before (rows_in c.args.table.now) c.args.k) ≡ c.row_at-c.result = let p = place in (lookup_place (rows_in c.args.table.now) c.args.k c.in_ok-q.q c.args.u.0 c.requires.1 p.1 p.2).1 ∙ sym c.row_at-c.ensures in
    rw (borrow_deep (rows_in c.args.table.now) (length c.args.table.now) c.args.k c.args.issued (limits_in c.args.limits.now) c.args.actor c.args.w c.args.u c.args.s c.args.right c.row_at-c.result place.0 found c.if-c-ge64.true)

pub room_answer-requires : goal.room_answer-requires
room_answer-requires c = (rise_fits c.args.table.now c.args.k c.requires.1, c.requires.2, c.requires.0)

pub returns-in_err-q : goal.returns-in_err-q
returns-in_err-q c =
    let T = rows_in c.args.table.now in let x = c.in_err-q.field-0.0 in
    let not : Serves T c.args.k c.args.issued c.args.actor c.args.u c.args.s c.args.right (Err x) = subst (λ (p : Result ℕ Refusal). Serves T c.args.k c.args.issued c.args.actor c.args.u c.args.s c.args.right p) c.in_err-q.was c.usable_place.ensures in
    rw (passed_on c.from_residual.result x c.from_residual.ensures.1, borrow_not T (length c.args.table.now) c.args.k c.args.issued (limits_in c.args.limits.now) c.args.actor c.args.w c.args.u c.args.s c.args.right x not, numbered x)

pub returns : goal.returns
returns c =
    let place : Serves (rows_in c.args.table.now) c.args.k c.args.issued c.args.actor c.args.u c.args.s c.args.right (Ok c.in_ok-q.q) = subst (λ (p : Result ℕ Refusal). Serves (rows_in c.args.table.now) c.args.k c.args.issued c.args.actor c.args.u c.args.s c.args.right p) c.in_ok-q.was c.usable_place.ensures in
    let found : lookup c.args.u.0 (before (rows_in c.args.table.now) c.args.k) ≡ c.row_at-c.result = let p = place in (lookup_place (rows_in c.args.table.now) c.args.k c.in_ok-q.q c.args.u.0 c.requires.1 p.1 p.2).1 ∙ sym c.row_at-c.ensures in
    c.room_answer.ensures
    ∙ ap (λ (j : ℕ). verdict j (suc c.args.issued))
    (sym (borrow_room (rows_in c.args.table.now) (length c.args.table.now) c.args.k c.args.issued (limits_in c.args.limits.now) c.args.actor c.args.w c.args.u c.args.s c.args.right c.row_at-c.result place.0 found c.if-c-ge64.false))
