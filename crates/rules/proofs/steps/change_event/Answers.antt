-- `change_event` meets its contract.
-- Assumes nothing.
use mathlib.Core.Path.{◌≡◌, sym, ap, ◌∙◌, subst}
use mathlib.Core.List.{List, [], ◌∷◌}
use Prim.Native.Nat.{◌+◌, ◌≤◌, ◌<◌}
use native.Mathlib.Omega.{arith}
use lib.ListN.{length}
use Rattle.model.specs.declared.Cap.{Cap}
use Rattle.model.specs.declared.Event.{Event}
use Rattle.model.specs.declared.Access.TheVariants.{Reading, Writing}
use Rattle.model.specs.declared.Work.TheVariants as work
use Rattle.model.specs.Requests.{Unlimited, Single, caller}
use Rattle.model.specs.Effects.{after_access, rows_without, rows_after}
use Rattle.table.specs.Words.{rows_in}
use Rattle.table.specs.Sheets.{sheet_in}
use Rattle.table.specs.Rows.{before, Found}
use Rattle.table.proofs.Offered.{orderly_issued, orderly_few, orderly_rise}
use Rattle.rules.specs.Steps.{AllowedOn}
use Rattle.rules.proofs.Laws.Steps.{ready, access_rows, access_few, access_ready, access_root, room_create, room_borrow, there_borrow, depth_borrow, next_create, next_borrow, next_read, next_write, next_drop}
use Rattle.rules.proofs.steps.change_event.Goals as goal

pub overflow_add-issued : goal.overflow_add-issued
overflow_add-issued c =
    let ws = c.args.table.now in let T = rows_in ws in
    let i : c.args.issued ≤ 1000000 = orderly_issued T (length ws) c.args.k c.args.issued c.requires.0 in
    omega arith

pub overflow_add-issued-in-Create : goal.overflow_add-issued-in-Create
overflow_add-issued-in-Create c =
    let ws = c.args.table.now in let T = rows_in ws in
    let i : c.args.issued ≤ 1000000 = orderly_issued T (length ws) c.args.k c.args.issued c.requires.0 in
    omega arith

pub access_rows-left-requires : goal.access_rows-left-requires
access_rows-left-requires c =
    let ws = c.args.table.now in
    (ready ws c.args.k c.args.issued c.requires.0, c.requires.2)

pub append-requires : goal.append-requires
append-requires c =
    let ws = c.args.table.now in let T = rows_in ws in
    let j = subst (λ (x : Event). AllowedOn T c.args.issued (work.Single c.args.actor x) []) c.in-Create.is c.requires.1 in
    let span = c.in-Create.s in
    let left = c.access_rows-left.ensures in let long = c.table-1.given in
    let room = room_create ws c.args.k c.args.issued c.requires.0 c.args.actor c.in-Create.field-0 span c.in-Create.r j (sheet_in c.args.sheet.now) in
    (omega (arith, room, access_few ws c.args.k c.args.issued c.requires.0 (sheet_in c.args.sheet.now) Writing (c.args.issued + 1) span c.access_rows-left.new.table left long), access_ready ws c.args.k c.args.issued c.requires.0 (sheet_in c.args.sheet.now) Writing (c.args.issued + 1) span c.access_rows-left.new.table left long, left.placed, subst (λ (d : Cap). Found (rows_in c.access_rows-left.new.table) c.access_rows-left.result d.parent.0 c.access_rows-left.result) (sym c.new_row-c.ensures) (access_root ws c.args.k c.args.issued c.requires.0 (sheet_in c.args.sheet.now) Writing (c.args.issued + 1) span c.access_rows-left.new.table left long), subst (λ (d : Cap). 0 < d.name.0) (sym c.new_row-c.ensures) (omega arith))

pub find-q-requires : goal.find-q-requires
find-q-requires c =
    let ws = c.args.table.now in let T = rows_in ws in
    (orderly_few T (length ws) c.args.k c.args.issued c.requires.0, orderly_rise T (length ws) c.args.k c.args.issued c.requires.0)

pub row_of-p-requires : goal.row_of-p-requires
row_of-p-requires c =
    let ws = c.args.table.now in let T = rows_in ws in
    let j = subst (λ (x : Event). AllowedOn T c.args.issued (work.Single c.args.actor x) []) c.in-Borrow.is c.requires.1 in
    (orderly_few T (length ws) c.args.k c.args.issued c.requires.0, orderly_rise T (length ws) c.args.k c.args.issued c.requires.0, there_borrow ws c.args.k c.args.issued c.requires.0 c.args.actor c.in-Borrow.field-0 c.in-Borrow.u c.in-Borrow.s c.in-Borrow.r j, c.find-q.ensures)

pub overflow_add-issued-in-Borrow : goal.overflow_add-issued-in-Borrow
overflow_add-issued-in-Borrow c =
    let ws = c.args.table.now in let T = rows_in ws in
    let i : c.args.issued ≤ 1000000 = orderly_issued T (length ws) c.args.k c.args.issued c.requires.0 in
    omega arith

pub overflow_add-p : goal.overflow_add-p
overflow_add-p c =
    let ws = c.args.table.now in let T = rows_in ws in
    let j = subst (λ (x : Event). AllowedOn T c.args.issued (work.Single c.args.actor x) []) c.in-Borrow.is c.requires.1 in
    omega (arith, ap (λ (d : Cap). d.depth) c.row_of-p.ensures, depth_borrow ws c.args.k c.args.issued c.requires.0 c.args.actor c.in-Borrow.field-0 c.in-Borrow.u c.in-Borrow.s c.in-Borrow.r j)

pub append-requires-in-Borrow : goal.append-requires-in-Borrow
append-requires-in-Borrow c =
    let ws = c.args.table.now in let T = rows_in ws in
    let j = subst (λ (x : Event). AllowedOn T c.args.issued (work.Single c.args.actor x) []) c.in-Borrow.is c.requires.1 in
    (room_borrow ws c.args.k c.args.issued c.requires.0 c.args.actor c.in-Borrow.field-0 c.in-Borrow.u c.in-Borrow.s c.in-Borrow.r j, ready ws c.args.k c.args.issued c.requires.0, c.requires.2, subst (λ (d : Cap). Found T c.args.k d.parent.0 c.find-q.result) (sym c.new_row-c-in-Borrow.ensures) c.find-q.ensures, subst (λ (d : Cap). 0 < d.name.0) (sym c.new_row-c-in-Borrow.ensures) (omega arith))

pub access_rows-requires : goal.access_rows-requires
access_rows-requires c =
    let ws = c.args.table.now in let T = rows_in ws in
    (ready ws c.args.k c.args.issued c.requires.0, c.requires.2)

pub access_rows-requires-in-Write : goal.access_rows-requires-in-Write
access_rows-requires-in-Write c =
    let ws = c.args.table.now in let T = rows_in ws in
    (ready ws c.args.k c.args.issued c.requires.0, c.requires.2)

pub drop_names-requires : goal.drop_names-requires
drop_names-requires c =
    let ws = c.args.table.now in let T = rows_in ws in
    (ready ws c.args.k c.args.issued c.requires.0, c.requires.2)

pub returns-in-Create : goal.returns-in-Create
returns-in-Create c =
    let ws = c.args.table.now in let T = rows_in ws in
    let span = c.in-Create.s in
    let new = c.new_row-c.result in
    let rows = access_rows ws c.args.k c.args.issued c.requires.0 (sheet_in c.args.sheet.now) Writing (c.args.issued + 1) span c.access_rows-left.new.table c.access_rows-left.ensures c.table-1.given in
    let e = ap (λ (l : List Cap). new ∷ l) rows ∙ next_create (sheet_in c.args.sheet.now) c.args.issued (before T c.args.k) (caller c.args.actor Unlimited) c.in-Create.field-0 span c.in-Create.r new c.new_row-c.ensures ∙ ap (λ (x : Event). rows_after (sheet_in c.args.sheet.now) c.args.issued (before T c.args.k) (Single (caller c.args.actor Unlimited) x)) (sym c.in-Create.is) in
    rw (← e, ← c.table-1.given) c.append.ensures

pub returns-in-Borrow : goal.returns-in-Borrow
returns-in-Borrow c =
    let ws = c.args.table.now in let T = rows_in ws in
    let e : (c.new_row-c-in-Borrow.result ∷ before T c.args.k) ≡ rows_after (sheet_in c.args.sheet.now) c.args.issued (before T c.args.k) (Single (caller c.args.actor Unlimited) c.args.e) = next_borrow (sheet_in c.args.sheet.now) c.args.issued (before T c.args.k) (caller c.args.actor Unlimited) c.in-Borrow.field-0 c.in-Borrow.u c.in-Borrow.s c.in-Borrow.r c.row_of-p.result c.new_row-c-in-Borrow.result c.row_of-p.ensures c.new_row-c-in-Borrow.ensures ∙ ap (λ (x : Event). rows_after (sheet_in c.args.sheet.now) c.args.issued (before T c.args.k) (Single (caller c.args.actor Unlimited) x)) (sym c.in-Borrow.is) in
    rw (← e) c.append-in-Borrow.ensures

pub returns-in-Read : goal.returns-in-Read
returns-in-Read c =
    let ws = c.args.table.now in let T = rows_in ws in
    let e : after_access (sheet_in c.args.sheet.now) Reading c.in-Read.u.0 c.in-Read.s (before T c.args.k) ≡ rows_after (sheet_in c.args.sheet.now) c.args.issued (before T c.args.k) (Single (caller c.args.actor Unlimited) c.args.e) = next_read (sheet_in c.args.sheet.now) c.args.issued (before T c.args.k) (caller c.args.actor Unlimited) c.in-Read.u c.in-Read.s ∙ ap (λ (x : Event). rows_after (sheet_in c.args.sheet.now) c.args.issued (before T c.args.k) (Single (caller c.args.actor Unlimited) x)) (sym c.in-Read.is) in
    rw (← e) c.access_rows.ensures

pub returns-in-Write : goal.returns-in-Write
returns-in-Write c =
    let ws = c.args.table.now in let T = rows_in ws in
    let e : after_access (sheet_in c.args.sheet.now) Writing c.in-Write.u.0 c.in-Write.s (before T c.args.k) ≡ rows_after (sheet_in c.args.sheet.now) c.args.issued (before T c.args.k) (Single (caller c.args.actor Unlimited) c.args.e) = next_write (sheet_in c.args.sheet.now) c.args.issued (before T c.args.k) (caller c.args.actor Unlimited) c.in-Write.u c.in-Write.s ∙ ap (λ (x : Event). rows_after (sheet_in c.args.sheet.now) c.args.issued (before T c.args.k) (Single (caller c.args.actor Unlimited) x)) (sym c.in-Write.is) in
    rw (← e) c.access_rows-in-Write.ensures

pub returns-in-Drop : goal.returns-in-Drop
returns-in-Drop c =
    let ws = c.args.table.now in let T = rows_in ws in
    let e : rows_without (c.in-Drop.u.0 ∷ []) (before T c.args.k) ≡ rows_after (sheet_in c.args.sheet.now) c.args.issued (before T c.args.k) (Single (caller c.args.actor Unlimited) c.args.e) = next_drop (sheet_in c.args.sheet.now) c.args.issued (before T c.args.k) (caller c.args.actor Unlimited) c.in-Drop.u ∙ ap (λ (x : Event). rows_after (sheet_in c.args.sheet.now) c.args.issued (before T c.args.k) (Single (caller c.args.actor Unlimited) x)) (sym c.in-Drop.is) in
    rw (← e) c.drop_names.ensures
