-- `request_first` meets its contract.
-- Assumes nothing.
use mathlib.Core.Path.{◌≡◌, sym, ◌∙◌}
use Prim.Native.Nat.{◌≤◌}
use native.Mathlib.Omega.{arith}
use lib.ListN.{length, take}
use lib.Seq.{length-take-le}
use Rattle.model.specs.Requests.{work_of}
use Rattle.table.specs.Sheets.{sheet_in}
use Rattle.table.specs.Limits.{limits_in}
use Rattle.rules.proofs.Laws.Records.{requested_few, requested_many}
use Rattle.rules.proofs.records.request_first.Goals as goal

pub slice_bounds-step_work-end-then-n-le1024 : goal.slice_bounds-step_work-end-then-n-le1024
slice_bounds-step_work-end-then-n-le1024 c = sym (length-take-le c.args.n c.args.rows.now (omega (arith, c.requires, c.if-n-le1024.true)))

pub returns-then-n-le1024 : goal.returns-then-n-le1024
returns-then-n-le1024 c =
    let few : c.args.n ≤ 1024 = c.if-n-le1024.true in
    let long : length c.step_work.new.table ≡ length (take c.args.n c.args.rows.now) = c.rows-1.given.0 in
    requested_few (sheet_in c.args.sheet.now) c.args.rows.now c.step_work.new.table c.args.n c.args.bits.now c.step_work.new.bits c.args.t (work_of (limits_in c.args.limits.now) c.args.work c.args.names.now) c.step_work.result c.requires few
    (long ∙ length-take-le c.args.n c.args.rows.now (omega (arith, c.requires, few))) c.step_work.ensures

pub returns : goal.returns
returns c = requested_many (sheet_in c.args.sheet.now) c.args.rows.now c.args.n c.args.bits.now c.args.t (work_of (limits_in c.args.limits.now) c.args.work c.args.names.now) c.if-n-le1024.false
