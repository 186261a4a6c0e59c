-- `read_answer` meets its contract.
-- Assumes nothing.
use Rattle.model.proofs.Offered.{passed_on}
use Rattle.std.specs.Prelude.{ℕ, Err, Ok, Result}
use Rattle.model.specs.declared.Refusal.{Refusal}
use mathlib.Core.Path.{◌≡◌, sym, ap, ◌∙◌, subst}
use mathlib.Core.Bool.{Bool, cond}
use native.Mathlib.Omega.{arith}
use lib.ListN.{length, get_or}
use Rattle.model.specs.declared.Cap.{Cap}
use Rattle.model.specs.Lists.{first}
use Rattle.model.specs.Bits.{bit_at}
use Rattle.model.specs.Table.{empty_row}
use Rattle.table.proofs.Laws.Words.{rise_fits}
use Rattle.table.specs.Words.{rows_in}
use Rattle.table.specs.Rows.{before, Rise}
use Rattle.table.specs.Stands.{Serves, read_checks}
use Rattle.table.proofs.Laws.Judge.{numbered, orderly_few, orderly_rise, read_not, read_unmarked, read_marked, read_low}
use Rattle.table.proofs.judge.read_answer.Goals as goal

pub usable_place-requires : goal.usable_place-requires
usable_place-requires c =
    let rise : Rise (rows_in c.args.table.now) c.args.k = orderly_rise (rows_in c.args.table.now) (length c.args.table.now) c.args.k c.args.issued c.requires.0 in
    (orderly_few (rows_in c.args.table.now) (length c.args.table.now) c.args.k c.args.issued c.requires.0, rise, c.requires.2)

pub row_at-c-requires : goal.row_at-c-requires
row_at-c-requires c =
    let rise : Rise (rows_in c.args.table.now) c.args.k = orderly_rise (rows_in c.args.table.now) (length c.args.table.now) c.args.k c.args.issued c.requires.0 in
    let place : Serves (rows_in c.args.table.now) c.args.k c.args.issued c.args.actor c.args.u c.args.s 1 (Ok c.in_ok-q.q) = subst (λ (p : Result ℕ Refusal). Serves (rows_in c.args.table.now) c.args.k c.args.issued c.args.actor c.args.u c.args.s 1 p) c.in_ok-q.was c.usable_place.ensures in
    omega (arith, place.1, rise_fits c.args.table.now c.args.k rise)

pub returns-then-c-ne1 : goal.returns-then-c-ne1
returns-then-c-ne1 c =
    let place : Serves (rows_in c.args.table.now) c.args.k c.args.issued c.args.actor c.args.u c.args.s 1 (Ok c.in_ok-q.q) = subst (λ (p : Result ℕ Refusal). Serves (rows_in c.args.table.now) c.args.k c.args.issued c.args.actor c.args.u c.args.s 1 p) c.in_ok-q.was c.usable_place.ensures in
    rw (read_unmarked (rows_in c.args.table.now) (length c.args.table.now) c.args.k c.args.issued c.requires.0 (bit_at c.args.bits.now) c.args.actor c.args.u c.args.s c.in_ok-q.q place (λ e. c.if-c-ne1.true (ap (λ (r : Cap). r.fresh) c.row_at-c.ensures ∙ e)))

pub span_written-requires : goal.span_written-requires
span_written-requires c =
    let place : Serves (rows_in c.args.table.now) c.args.k c.args.issued c.args.actor c.args.u c.args.s 1 (Ok c.in_ok-q.q) = subst (λ (p : Result ℕ Refusal). Serves (rows_in c.args.table.now) c.args.k c.args.issued c.args.actor c.args.u c.args.s 1 p) c.in_ok-q.was c.usable_place.ensures in
    let marked : (get_or (rows_in c.args.table.now) c.in_ok-q.q empty_row).fresh ≡ 1 = ap (λ (r : Cap). r.fresh) (sym c.row_at-c.ensures) ∙ c.if-c-ne1.false in
    (c.requires.1, read_low (rows_in c.args.table.now) (length c.args.table.now) c.args.k c.args.issued c.requires.0 (bit_at c.args.bits.now) c.args.actor c.args.u c.args.s c.in_ok-q.q place marked)

pub returns-in_err-q : goal.returns-in_err-q
returns-in_err-q c =
    let T = rows_in c.args.table.now in let x = c.in_err-q.field-0.0 in
    let not : Serves T c.args.k c.args.issued c.args.actor c.args.u c.args.s 1 (Err x) = subst (λ (p : Result ℕ Refusal). Serves T c.args.k c.args.issued c.args.actor c.args.u c.args.s 1 p) c.in_err-q.was c.usable_place.ensures in
    rw (passed_on c.from_residual.result x c.from_residual.ensures.1, read_not T (length c.args.table.now) c.args.k c.args.issued c.requires.0 (bit_at c.args.bits.now) c.args.actor c.args.u c.args.s x not, numbered x)

pub returns-then-span_written : goal.returns-then-span_written
returns-then-span_written c =
    let place : Serves (rows_in c.args.table.now) c.args.k c.args.issued c.args.actor c.args.u c.args.s 1 (Ok c.in_ok-q.q) = subst (λ (p : Result ℕ Refusal). Serves (rows_in c.args.table.now) c.args.k c.args.issued c.args.actor c.args.u c.args.s 1 p) c.in_ok-q.was c.usable_place.ensures in
    let marked : (get_or (rows_in c.args.table.now) c.in_ok-q.q empty_row).fresh ≡ 1 = ap (λ (r : Cap). r.fresh) (sym c.row_at-c.ensures) ∙ c.if-c-ne1.false in
    let answered : first (read_checks (before (rows_in c.args.table.now) c.args.k) c.args.issued (bit_at c.args.bits.now) c.args.actor c.args.u c.args.s) ≡ cond c.span_written.result 0 16 = read_marked (rows_in c.args.table.now) (length c.args.table.now) c.args.k c.args.issued c.requires.0 (bit_at c.args.bits.now) c.args.actor c.args.u c.args.s c.in_ok-q.q place marked ∙ ap (λ (b : Bool). cond b 0 16) (sym c.span_written.ensures) in
    rw (answered, c.if-span_written.true)

pub returns-else-span_written : goal.returns-else-span_written
returns-else-span_written c =
    let place : Serves (rows_in c.args.table.now) c.args.k c.args.issued c.args.actor c.args.u c.args.s 1 (Ok c.in_ok-q.q) = subst (λ (p : Result ℕ Refusal). Serves (rows_in c.args.table.now) c.args.k c.args.issued c.args.actor c.args.u c.args.s 1 p) c.in_ok-q.was c.usable_place.ensures in
    let marked : (get_or (rows_in c.args.table.now) c.in_ok-q.q empty_row).fresh ≡ 1 = ap (λ (r : Cap). r.fresh) (sym c.row_at-c.ensures) ∙ c.if-c-ne1.false in
    let answered : first (read_checks (before (rows_in c.args.table.now) c.args.k) c.args.issued (bit_at c.args.bits.now) c.args.actor c.args.u c.args.s) ≡ cond c.span_written.result 0 16 = read_marked (rows_in c.args.table.now) (length c.args.table.now) c.args.k c.args.issued c.requires.0 (bit_at c.args.bits.now) c.args.actor c.args.u c.args.s c.in_ok-q.q place marked ∙ ap (λ (b : Bool). cond b 0 16) (sym c.span_written.ensures) in
    rw (answered, c.if-span_written.false)
