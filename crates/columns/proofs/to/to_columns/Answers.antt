-- `columns::to::to_columns` meets its contract.
-- Assumes nothing.
use mathlib.Core.Path.{◌≡◌, sym, ap, ◌∙◌}
use lib.ListN.{length}
use borrow.Author.Tests.{not-true, not-false}
use Rattle.model.specs.Lists.{all}
use Rattle.text.specs.Result.{Result, value}
use Rattle.columns.specs.declared.Used.{Used}
use Rattle.columns.specs.Form.{is_event}
use Rattle.columns.specs.Columns.{columns}
use Rattle.columns.specs.Walk.{counts_of, used_by, counted_of, kinds_in}
use Rattle.columns.proofs.Laws.Turns.{counted, uncounted}
use Rattle.columns.proofs.Laws.To.{read_all, read_other, read_long, room_found, used_is, words_small, to_refused, to_short, to_all}
use Rattle.columns.proofs.to.to_columns.Goals as goal

pub returns-then-events-gt4096 : goal.returns-then-events-gt4096
returns-then-events-gt4096 c =
    let a = c.args in
    let ws = a.events.now in
    let out = columns a.kinds.now a.names.now a.starts.now a.lengths.now a.rights.now in
    to_refused ws out (read_long ws c.if-events-gt4096.true)

pub returns-in_default : goal.returns-in_default
returns-in_default c =
    let a = c.args in
    let ws = a.events.now in
    let out = columns a.kinds.now a.names.now a.starts.now a.lengths.now a.rights.now in
    to_refused ws out (read_other ws (uncounted (all is_event ws) (counts_of (kinds_in ws)) (ap counted_of (sym c.in_default.is) ∙ c.count_events-counted.ensures)))

pub returns-then-not-has_room : goal.returns-then-not-has_room
returns-then-not-has_room c =
    let a = c.args in
    let ws = a.events.now in
    let out = columns a.kinds.now a.names.now a.starts.now a.lengths.now a.rights.now in
    let p = counted (all is_event ws) (ap counted_of (sym c.in-Some.is) ∙ c.count_events-counted.ensures) in
    to_short ws out (read_all ws c.if-events-gt4096.false p.0) (room_found ws p.0 out p.1 c.has_room.ensures ∙ not-true c.has_room.result c.if-not-has_room.true-raw)

pub put_events-requires : goal.put_events-requires
put_events-requires c =
    let a = c.args in
    let ws = a.events.now in
    let out = columns a.kinds.now a.names.now a.starts.now a.lengths.now a.rights.now in
    let p = counted (all is_event ws) (ap counted_of (sym c.in-Some.is) ∙ c.count_events-counted.ensures) in
    (c.if-events-gt4096.false, p.0, p.1, room_found ws p.0 out p.1 c.has_room.ensures ∙ not-false c.has_room.result c.if-not-has_room.false-raw)

pub used_by-requires : goal.used_by-requires
used_by-requires c =
    let s = c in
    let a = s.args in
    let ws = a.events.now in
    let out = columns a.kinds.now a.names.now a.starts.now a.lengths.now a.rights.now in
    let p = counted (all is_event ws) (ap counted_of (sym c.in-Some.is) ∙ c.count_events-counted.ensures) in
    let s = words_small ws c.if-events-gt4096.false p.1 in
    (c.if-events-gt4096.false, s.names, s.spans, s.rights)

pub returns : goal.returns
returns c =
    let a = c.args in
    let ws = a.events.now in
    let out = columns a.kinds.now a.names.now a.starts.now a.lengths.now a.rights.now in
    let p = counted (all is_event ws) (ap counted_of (sym c.in-Some.is) ∙ c.count_events-counted.ensures) in
    let q = to_all ws out (read_all ws c.if-events-gt4096.false p.0) (room_found ws p.0 out p.1 c.has_room.ensures ∙ not-false c.has_room.result c.if-not-has_room.false-raw) in
    let used : c.used_by.result ≡ used_by (length ws) (counts_of (kinds_in ws)) = c.used_by.ensures ∙ ap (used_by (length ws)) p.1 in
    (ap {B = Result Used} value (used ∙ sym (used_is ws p.0)) ∙ q.0, c.put_events.ensures ∙ q.1)
