-- `judge` meets its contract.
-- Assumes nothing.
use mathlib.Core.Path.{refl, ◌∙◌}
use Prim.Native.Nat.{suc, ◌≤◌}
use lib.ListN.{length}
use Rattle.model.specs.declared.Event.TheVariants.{Create, Borrow, Read, Write, Drop}
use Rattle.model.specs.Requests.{Single, caller}
use Rattle.table.specs.Words.{rows_in}
use Rattle.table.specs.Rows.{Rise}
use Rattle.table.specs.Limits.{limits_in}
use Rattle.table.proofs.Laws.Judge.{orderly_issued, orderly_few, orderly_rise, answered}
use Rattle.table.proofs.judge.judge.Goals as goal

pub judge_create-requires : goal.judge_create-requires
judge_create-requires c =
    let risen : (c.args.k ≤ 1024) × Rise (rows_in c.args.table.now) c.args.k = let T = rows_in c.args.table.now in (orderly_few T (length c.args.table.now) c.args.k c.args.issued c.requires.0, orderly_rise T (length c.args.table.now) c.args.k c.args.issued c.requires.0) in
    let few : c.args.issued ≤ 1000000 = orderly_issued (rows_in c.args.table.now) (length c.args.table.now) c.args.k c.args.issued c.requires.0 in
    (c.requires.0.front.fits, few, risen.0)

pub judge_borrow-requires : goal.judge_borrow-requires
judge_borrow-requires c =
    let risen : (c.args.k ≤ 1024) × Rise (rows_in c.args.table.now) c.args.k = let T = rows_in c.args.table.now in (orderly_few T (length c.args.table.now) c.args.k c.args.issued c.requires.0, orderly_rise T (length c.args.table.now) c.args.k c.args.issued c.requires.0) in
    let few : c.args.issued ≤ 1000000 = orderly_issued (rows_in c.args.table.now) (length c.args.table.now) c.args.k c.args.issued c.requires.0 in
    (risen.0, risen.1, few)

pub judge_read-requires : goal.judge_read-requires
judge_read-requires c = (c.requires.0, c.requires.1)

pub judge_write-requires : goal.judge_write-requires
judge_write-requires c =
    let risen : (c.args.k ≤ 1024) × Rise (rows_in c.args.table.now) c.args.k = let T = rows_in c.args.table.now in (orderly_few T (length c.args.table.now) c.args.k c.args.issued c.requires.0, orderly_rise T (length c.args.table.now) c.args.k c.args.issued c.requires.0) in
    risen

pub judge_drop-requires : goal.judge_drop-requires
judge_drop-requires c =
    let risen : (c.args.k ≤ 1024) × Rise (rows_in c.args.table.now) c.args.k = let T = rows_in c.args.table.now in (orderly_few T (length c.args.table.now) c.args.k c.args.issued c.requires.0, orderly_rise T (length c.args.table.now) c.args.k c.args.issued c.requires.0) in
    risen

pub returns-in-Create : goal.returns-in-Create
returns-in-Create c =
    let T = rows_in c.args.table.now in let n = length c.args.table.now in
    rw c.in-Create.is (c.judge_create.ensures ∙ answered T n c.args.k c.args.issued c.requires.0 c.args.bits.now c.requires.1 (Single (caller c.args.actor (limits_in c.args.limits.now)) (Create c.in-Create.w c.in-Create.s c.in-Create.r)) refl c.requires.2 (suc c.args.issued))

pub returns-in-Borrow : goal.returns-in-Borrow
returns-in-Borrow c =
    let T = rows_in c.args.table.now in let n = length c.args.table.now in
    rw c.in-Borrow.is (c.judge_borrow.ensures ∙ answered T n c.args.k c.args.issued c.requires.0 c.args.bits.now c.requires.1 (Single (caller c.args.actor (limits_in c.args.limits.now)) (Borrow c.in-Borrow.w c.in-Borrow.u c.in-Borrow.s c.in-Borrow.r)) refl c.requires.2 (suc c.args.issued))

pub returns-in-Read : goal.returns-in-Read
returns-in-Read c =
    let T = rows_in c.args.table.now in let n = length c.args.table.now in
    rw c.in-Read.is (c.judge_read.ensures ∙ answered T n c.args.k c.args.issued c.requires.0 c.args.bits.now c.requires.1 (Single (caller c.args.actor (limits_in c.args.limits.now)) (Read c.in-Read.u c.in-Read.s)) refl c.requires.2 0)

pub returns-in-Write : goal.returns-in-Write
returns-in-Write c =
    let T = rows_in c.args.table.now in let n = length c.args.table.now in
    rw c.in-Write.is (c.judge_write.ensures ∙ answered T n c.args.k c.args.issued c.requires.0 c.args.bits.now c.requires.1 (Single (caller c.args.actor (limits_in c.args.limits.now)) (Write c.in-Write.u c.in-Write.s)) refl c.requires.2 0)

pub returns-in-Drop : goal.returns-in-Drop
returns-in-Drop c =
    let T = rows_in c.args.table.now in let n = length c.args.table.now in
    rw c.in-Drop.is (c.judge_drop.ensures ∙ answered T n c.args.k c.args.issued c.requires.0 c.args.bits.now c.requires.1 (Single (caller c.args.actor (limits_in c.args.limits.now)) (Drop c.in-Drop.u)) refl c.requires.2 0)
