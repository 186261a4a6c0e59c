-- `take_work` meets its contract.
-- Assumes nothing.
use Rattle.std.specs.Prelude.{Err, Ok, Result}
use Rattle.model.specs.declared.Name.{Name}
use Rattle.model.specs.declared.Refusal.{Refusal}
use mathlib.Core.Path.{◌≡◌, refl, subst, ◌∙◌, ap}
use mathlib.Core.Bool.{false}
use mathlib.Core.List.{List}
use lib.ListN.{length}
use Rattle.model.specs.declared.Cap.{Cap}
use Rattle.model.specs.Requests.{Limits, Request, work_of, caller_of, turns_state}
use Rattle.model.specs.Refusals.{view_of, judge}
use Rattle.model.specs.Limits.{refused_sheet}
use Rattle.model.specs.Effects.{new_name}
use Rattle.model.specs.Slots.{unstored}
use Rattle.model.specs.Step.{Verdict, verdict}
use Rattle.model.specs.Table.{lent_table}
use Rattle.model.specs.Answers.{verdict_of}
use Rattle.table.specs.Words.{rows_in}
use Rattle.table.specs.Rows.{before}
use Rattle.table.specs.Sheets.{sheet_in}
use Rattle.table.specs.Limits.{limits_in}
use Rattle.model.proofs.Offered.{no_slot}
use Rattle.table.proofs.Offered.{orderly_issued}
use Rattle.rules.proofs.Laws.Steps.{allowed_zero, stepped_allowed, stepped_refused, orderly_after, allowed_after, with_limits, without_limits, all_fit, is_work, same_rows, same_bits, counted}
use Rattle.rules.proofs.steps.take_work.Goals as goal

pub judge_request-a-requires : goal.judge_request-a-requires
judge_request-a-requires c = let f = c.requires in (f.known.orderly, f.sized, f.allowed)

pub change-live-requires : goal.change-live-requires
change-live-requires c =
    let ws = c.args.table.now in let bs = c.args.bits.now in let o = c.requires.known.orderly in
    let limits : Limits = limits_in c.args.limits.now in
    let req : Request = work_of limits c.args.work c.args.names.now in
    let v : Verdict = verdict (judge (view_of (rows_in ws) bs unstored c.args.t.issued) req) (new_name c.args.t.issued req) in
    let q : verdict_of (Ok c.in-Ok.x) ≡ v = subst (λ (x : Result Name Refusal). verdict_of x ≡ v) c.in-Ok.is c.judge_request-a.ensures in
    (c.requires.known, record { bits = bs; limits = limits; judged = allowed_zero (sheet_in c.args.sheet.now) ws bs unstored c.args.t req c.in-Ok.x q })

pub change_bits-requires : goal.change_bits-requires
change_bits-requires c = c.requires.sized

pub count_allowed-requires : goal.count_allowed-requires
count_allowed-requires c = orderly_issued (rows_in c.args.table.now) (length c.args.table.now) c.args.k c.args.t.issued c.requires.known.orderly

pub returns-in-Err : goal.returns-in-Err
returns-in-Err c =
    let ws = c.args.table.now in let bs = c.args.bits.now in let o = c.requires.known.orderly in
    let limits : Limits = limits_in c.args.limits.now in
    let req : Request = work_of limits c.args.work c.args.names.now in
    let v : Verdict = verdict (judge (view_of (rows_in ws) bs unstored c.args.t.issued) req) (new_name c.args.t.issued req) in
    let sheet = sheet_in c.args.sheet.now in
    let l : refused_sheet (rows_in ws) (caller_of req).limits ≡ false = with_limits (λ x. refused_sheet (rows_in ws) x ≡ false) limits c.args.work c.args.names.now c.requires.allowed in
    let q : verdict_of (Err c.in-Err.x) ≡ v = subst (λ (x : Result Name Refusal). verdict_of x ≡ v) c.in-Err.is c.judge_request-a.ensures in
    let w : turns_state req ≡ false = is_work limits c.args.work c.args.names.now in
    let fit = all_fit ws bs unstored c.args.t (caller_of req).limits c.args.k o c.requires.sized refl l in
    let st = stepped_refused sheet ws bs unstored c.args.t req c.args.k o fit (no_slot (view_of (rows_in ws) bs unstored c.args.t.issued) req w) c.count_refused.result c.in-Err.x q c.count_refused.ensures in
    (st, record { known = record { orderly = orderly_after sheet ws bs c.args.t req ws bs _ st c.args.k c.args.k refl o o.front; placed = c.requires.known.placed }; sized = c.requires.sized; allowed = c.requires.allowed })

pub returns-in-Ok : goal.returns-in-Ok
returns-in-Ok c =
    let ws = c.args.table.now in let bs = c.args.bits.now in let o = c.requires.known.orderly in
    let limits : Limits = limits_in c.args.limits.now in
    let req : Request = work_of limits c.args.work c.args.names.now in
    let v : Verdict = verdict (judge (view_of (rows_in ws) bs unstored c.args.t.issued) req) (new_name c.args.t.issued req) in
    let sheet = sheet_in c.args.sheet.now in
    let l : refused_sheet (rows_in ws) (caller_of req).limits ≡ false = with_limits (λ x. refused_sheet (rows_in ws) x ≡ false) limits c.args.work c.args.names.now c.requires.allowed in
    let q : verdict_of (Ok c.in-Ok.x) ≡ v = subst (λ (x : Result Name Refusal). verdict_of x ≡ v) c.in-Ok.is c.judge_request-a.ensures in
    let st = stepped_allowed sheet ws bs unstored c.args.t req c.args.k o (is_work limits c.args.work c.args.names.now) c.change-live.new.table c.change_bits.new.bits c.count_allowed.result c.in-Ok.x q
    (c.change-live.ensures.table ∙ ap (λ (rows : List Cap). lent_table (length ws) rows) (same_rows limits c.args.names.now sheet c.args.t.issued (before (rows_in ws) c.args.k) c.args.work))
    (c.change_bits.ensures ∙ same_bits limits c.args.names.now bs c.args.work) (c.count_allowed.ensures ∙ counted limits c.args.names.now c.args.work c.args.t) in
    let fit = all_fit ws bs unstored c.args.t (caller_of req).limits c.args.k o c.requires.sized refl l in (
      st,
      record {
        known = record { orderly = orderly_after sheet ws bs c.args.t req c.change-live.new.table c.change_bits.new.bits _ st c.args.k c.change-live.result c.table-1.given o c.change-live.ensures.front; placed = c.change-live.ensures.placed };
        sized = c.bits-1.given ∙ c.requires.sized;
        allowed = without_limits (λ x. refused_sheet (rows_in c.change-live.new.table) x ≡ false) limits c.args.work c.args.names.now (allowed_after sheet ws bs c.args.t req c.change-live.new.table c.change_bits.new.bits _ st fit);
      },
    )
