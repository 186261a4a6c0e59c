-- `access_rows` meets its contract.
-- Assumes nothing.
use mathlib.Core.Path.{◌≡◌, refl}
use Rattle.model.specs.Effects.{after_access}
use Rattle.table.specs.Words.{rows_in}
use Rattle.table.specs.Sheets.{sheet_in}
use Rattle.table.specs.Rows.{before}
use Rattle.rules.specs.Engine.{own_of_access, kept}
use Rattle.rules.proofs.Laws.Marks.{stand_rise, spread_downward, marked_use}
use Rattle.rules.proofs.Laws.Steps.{kept_used}
use Rattle.rules.proofs.steps.access_rows.Goals as goal

pub relate-in_cell-requires : goal.relate-in_cell-requires
relate-in_cell-requires c = let live = c.requires.0.stands in (live, c.requires.1, refl)

pub first_struck-first-requires : goal.first_struck-first-requires
first_struck-first-requires c = let live = c.requires.0.stands in (live.few, stand_rise (rows_in c.args.table.now) c.args.k live)

pub spread_access-most-requires : goal.spread_access-most-requires
spread_access-most-requires c =
    let live = c.requires.0.stands in
    (live.few, stand_rise (rows_in c.args.table.now) c.args.k live, c.requires.1, c.first_struck-first.ensures, refl)

pub revoke_rows-requires : goal.revoke_rows-requires
revoke_rows-requires c =
    let T = rows_in c.args.table.now in
    (c.requires.0, c.requires.1, spread_downward T c.args.k (own_of_access (sheet_in c.args.sheet.now) T c.relate-in_cell.result c.relate-in_cell.new.relation c.args.places.now c.args.a c.args.s) c.spread_access-most.new.marks c.spread_access-most.ensures.0, c.spread_access-most.ensures.1, c.spread_access-most.ensures.2)

pub returns : goal.returns
returns c =
    let T = rows_in c.args.table.now in let k = c.args.k in
    let sheet = sheet_in c.args.sheet.now in
    let marks = c.spread_access-most.new.marks in
    let m = marked_use T k c.requires.0.stands sheet c.args.a c.args.s c.args.u c.relate-in_cell.result c.relate-in_cell.new.relation c.args.places.now marks c.relate-in_cell.ensures c.requires.1 c.spread_access-most.ensures.0 in
    let e : kept marks T k ≡ after_access sheet c.args.a c.args.u c.args.s (before T k) = kept_used sheet marks T k c.args.u c.args.a c.args.s m in
    rw (← e) c.revoke_rows.ensures
