-- `look_back` meets its contract: what the rows kept are decides what the table is.
-- Assumes nothing.
use Rattle.std.specs.Prelude.{ℕ, Option}
use mathlib.Core.Path.{◌≡◌, sym, ap, subst, ◌∙◌}
use mathlib.Core.Bool.{false, not, ◌||◌}
use Prim.Native.Nat.{◌+◌, ◌*◌, ◌≤◌}
use native.Mathlib.Omega.{arith}
use lib.ListN.{take, drop}
use borrow.Author.Tests.{eqb-true, not-true, not-false}
use Rattle.model.specs.Table.{live_rows, in_order}
use Rattle.model.specs.Limits.{exceeds}
use Rattle.model.specs.Refusals.{unfit_slot}
use Rattle.table.specs.Words.{rows_in}
use Rattle.table.specs.Limits.{limits_in}
use Rattle.table.specs.Known.{Known, LooksKept}
use Rattle.table.specs.States.{kept_rows, table_by, table_at}
use Rattle.table.proofs.Laws.States.{at_head, slice_kept, kept_slice, length_kept, unfit_size, unfit_kept, kept_fit}
use Rattle.table.proofs.states.look_back.Goals as goal

pub head_of-head-requires : goal.head_of-head-requires
head_of-head-requires c = (c.requires.0, c.requires.1)

pub returns-then-head-eq0 : goal.returns-then-head-eq0
unfolding table_by
returns-then-head-eq0 c = at_head c.args.stored.now c.args.slot c.head_of-head.result.more c.head_of-head.result.empty c.head_of-head.ensures.0 c.head_of-head.ensures.1 ∙ ap (λ m. table_by m c.head_of-head.result.empty (kept_rows c.args.stored.now c.args.slot)) c.if-head-eq0.true

pub is_size-requires : goal.is_size-requires
is_size-requires c = c.requires.2

pub returns-then-not-is_size : goal.returns-then-not-is_size
returns-then-not-is_size c = let f = sym c.is_size.ensures ∙ not-true _ c.if-not-is_size.true-raw in rw (at_head c.args.stored.now c.args.slot c.head_of-head.result.more c.head_of-head.result.empty c.head_of-head.ensures.0 c.head_of-head.ensures.1) (unfit_size c.args.limits.now c.args.size c.args.issued c.head_of-head.result.more c.head_of-head.result.empty (kept_rows c.args.stored.now c.args.slot) c.if-head-eq0.false f)

pub head_at-first-requires : goal.head_at-first-requires
head_at-first-requires c = c.requires.1

pub kept_of-kept-requires : goal.kept_of-kept-requires
kept_of-kept-requires c = omega (arith, c.if-head-eq0.false)

pub overflow_add-first-2 : goal.overflow_add-first-2
overflow_add-first-2 c =
    let total : c.head_of-head.result.more + c.head_of-head.result.empty ≡ c.args.size + 1 = eqb-true _ _ (sym c.is_size.ensures ∙ not-false _ c.if-not-is_size.false-raw) in
    let few : c.kept_of-kept.result ≤ 1024 = omega (arith, total, c.kept_of-kept.ensures, c.requires.2) in
    omega (arith, few, c.head_at-first.ensures, c.requires.1)

pub slice_bounds-look_kept-end : goal.slice_bounds-look_kept-end
slice_bounds-look_kept-end c =
    let total : c.head_of-head.result.more + c.head_of-head.result.empty ≡ c.args.size + 1 = eqb-true _ _ (sym c.is_size.ensures ∙ not-false _ c.if-not-is_size.false-raw) in
    let few : c.kept_of-kept.result ≤ 1024 = omega (arith, total, c.kept_of-kept.ensures, c.requires.2) in
    omega (arith, few, c.head_at-first.ensures, c.requires.1, c.requires.0)

pub look_kept-found-requires : goal.look_kept-found-requires
look_kept-found-requires c = (c.requires.4, c.requires.3.sheet)

pub returns-in-None : goal.returns-in-None
returns-in-None c =
    let total : c.head_of-head.result.more + c.head_of-head.result.empty ≡ c.args.size + 1 = eqb-true _ _ (sym c.is_size.ensures ∙ not-false _ c.if-not-is_size.false-raw) in
    let few : c.kept_of-kept.result ≤ 1024 = omega (arith, total, c.kept_of-kept.ensures, c.requires.2) in
    let looked : LooksKept (take c.kept_of-kept.result (drop (1025 * c.args.slot + 1) c.args.stored.now)) c.args.issued c.args.limits.now c.look_kept-found.new.places c.look_kept-found.result = subst (λ ws. LooksKept ws c.args.issued c.args.limits.now c.look_kept-found.new.places c.look_kept-found.result) (slice_kept c.args.stored.now c.args.slot c.head_at-first.result c.kept_of-kept.result c.head_at-first.ensures) c.look_kept-found.ensures in
    let told : table_at c.args.stored.now c.args.slot ≡ table_by (c.kept_of-kept.result + 1) c.head_of-head.result.empty (kept_rows c.args.stored.now c.args.slot) = at_head c.args.stored.now c.args.slot (c.kept_of-kept.result + 1) c.head_of-head.result.empty (c.kept_of-kept.ensures ∙ c.head_of-head.ensures.0) c.head_of-head.ensures.1 in
    let whole : c.kept_of-kept.result + c.head_of-head.result.empty ≡ c.args.size = omega (arith, total, c.kept_of-kept.ensures) in
    let judged : unfit_slot (limits_in c.args.limits.now) c.args.size c.args.issued (table_at c.args.stored.now c.args.slot) ≡ (not (in_order (rows_in (take c.kept_of-kept.result (drop (1025 * c.args.slot + 1) c.args.stored.now))) c.args.issued) || exceeds 0 (live_rows (rows_in (take c.kept_of-kept.result (drop (1025 * c.args.slot + 1) c.args.stored.now)))) c.args.limits.now) = let S = kept_rows c.args.stored.now c.args.slot in ap (unfit_slot (limits_in c.args.limits.now) c.args.size c.args.issued) told ∙ unfit_kept c.args.limits.now c.args.size c.args.issued S c.kept_of-kept.result c.head_of-head.result.empty (omega (arith, few, length_kept c.args.stored.now c.args.slot c.requires.0 c.requires.1)) c.requires.3 whole c.requires.2 ∙ ap (λ X. not (in_order X c.args.issued) || exceeds 0 (live_rows X) c.args.limits.now) (kept_slice c.args.stored.now c.args.slot c.kept_of-kept.result few) in
    judged ∙ subst (λ (p : Option ℕ). LooksKept (take c.kept_of-kept.result (drop (1025 * c.args.slot + 1) c.args.stored.now)) c.args.issued c.args.limits.now c.look_kept-found.new.places p) c.in-None.is looked

pub returns-in-Some : goal.returns-in-Some
returns-in-Some c =
    let total : c.head_of-head.result.more + c.head_of-head.result.empty ≡ c.args.size + 1 = eqb-true _ _ (sym c.is_size.ensures ∙ not-false _ c.if-not-is_size.false-raw) in
    let few : c.kept_of-kept.result ≤ 1024 = omega (arith, total, c.kept_of-kept.ensures, c.requires.2) in
    let looked : LooksKept (take c.kept_of-kept.result (drop (1025 * c.args.slot + 1) c.args.stored.now)) c.args.issued c.args.limits.now c.look_kept-found.new.places c.look_kept-found.result = subst (λ ws. LooksKept ws c.args.issued c.args.limits.now c.look_kept-found.new.places c.look_kept-found.result) (slice_kept c.args.stored.now c.args.slot c.head_at-first.result c.kept_of-kept.result c.head_at-first.ensures) c.look_kept-found.ensures in
    let told : table_at c.args.stored.now c.args.slot ≡ table_by (c.kept_of-kept.result + 1) c.head_of-head.result.empty (kept_rows c.args.stored.now c.args.slot) = at_head c.args.stored.now c.args.slot (c.kept_of-kept.result + 1) c.head_of-head.result.empty (c.kept_of-kept.ensures ∙ c.head_of-head.ensures.0) c.head_of-head.ensures.1 in
    let whole : c.kept_of-kept.result + c.head_of-head.result.empty ≡ c.args.size = omega (arith, total, c.kept_of-kept.ensures) in
    let judged : unfit_slot (limits_in c.args.limits.now) c.args.size c.args.issued (table_at c.args.stored.now c.args.slot) ≡ (not (in_order (rows_in (take c.kept_of-kept.result (drop (1025 * c.args.slot + 1) c.args.stored.now))) c.args.issued) || exceeds 0 (live_rows (rows_in (take c.kept_of-kept.result (drop (1025 * c.args.slot + 1) c.args.stored.now)))) c.args.limits.now) = let S = kept_rows c.args.stored.now c.args.slot in ap (unfit_slot (limits_in c.args.limits.now) c.args.size c.args.issued) told ∙ unfit_kept c.args.limits.now c.args.size c.args.issued S c.kept_of-kept.result c.head_of-head.result.empty (omega (arith, few, length_kept c.args.stored.now c.args.slot c.requires.0 c.requires.1)) c.requires.3 whole c.requires.2 ∙ ap (λ X. not (in_order X c.args.issued) || exceeds 0 (live_rows X) c.args.limits.now) (kept_slice c.args.stored.now c.args.slot c.kept_of-kept.result few) in
    let l : Known (take c.kept_of-kept.result (drop (1025 * c.args.slot + 1) c.args.stored.now)) c.in-Some.live c.args.issued c.look_kept-found.new.places × (exceeds 0 (live_rows (rows_in (take c.kept_of-kept.result (drop (1025 * c.args.slot + 1) c.args.stored.now)))) c.args.limits.now ≡ false) =
    subst (λ (p : Option ℕ). LooksKept (take c.kept_of-kept.result (drop (1025 * c.args.slot + 1) c.args.stored.now)) c.args.issued c.args.limits.now c.look_kept-found.new.places p) c.in-Some.is looked in (
      kept_fit c.args.stored.now c.args.slot c.args.size c.in-Some.live c.args.issued c.kept_of-kept.result c.head_of-head.result.empty c.look_kept-found.new.places c.requires.0 c.requires.1 whole c.requires.2 told l.0,
      judged ∙ rw l.0.orderly.ordered l.1,
    )
