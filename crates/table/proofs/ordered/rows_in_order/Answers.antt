use mathlib.Core.Path.{◌≡◌, refl, ap, sym, ◌∙◌}
use Prim.Native.Nat.{ℕ, suc}
use native.Mathlib.Omega.{arith}
use lib.ListN.{length-set, length-replicate}
use borrow.Author.Tests.{not-true, not-false, le-leb}
use Rattle.model.specs.declared.Cap.{Cap}
use Rattle.model.specs.Table.{row_in_order}
use Rattle.table.proofs.Laws.Words.{filled_fits}
use Rattle.table.specs.Words.{rows_in}
use Rattle.table.specs.Rows.{name_at, parent_at, before, Found}
use Rattle.model.proofs.Offered.{clash}
use Rattle.table.proofs.Laws.Places.{places_none, places_more}
use Rattle.table.proofs.Laws.Ordered.{checked_none, checked_more, checked_all, fails_name, fails_place, rows_in_order_rise}
use Rattle.table.proofs.ordered.rows_in_order.Goals as goal

pub returns-then-k-eq0 : goal.returns-then-k-eq0
returns-then-k-eq0 c = let T = rows_in c.args.table.now in
    rw c.if-k-eq0.true (sym (le-leb 0 c.args.issued (omega arith)) ∙ checked_all T 0 0 c.args.issued (checked_none T), record { known = λ _. places_none T c.args.places.now c.requires.2 })

pub loop-i-init : goal.loop-i-init
loop-i-init c = (checked_none (rows_in c.args.table.now), places_none (rows_in c.args.table.now) c.args.places.now c.requires.2, length-replicate {A = ℕ} 2048 0)

pub row_at-c-requires : goal.row_at-c-requires
row_at-c-requires c = omega (arith, filled_fits c.args.table.now c.args.k c.requires.1, c.loop-i-test.true)

pub returns-then-c-last : goal.returns-then-c-last
returns-then-c-last c = let T = rows_in c.args.table.now in
    let i : ℕ = c.loop-i.i in
    let n : name_at T i ≡ c.row_at-c.result.name.0 = ap (λ (d : Cap). d.name.0) (sym c.row_at-c.ensures) in
    (sym (fails_name T (suc c.args.issued) c.args.k i c.loop-i.last c.loop-i.invariant.0 c.loop-i-test.true c.requires.1 (omega (arith, n, c.if-c-last.true))), record { known = λ e. clash e refl })

pub find_near-q-requires : goal.find_near-q-requires
find_near-q-requires c = let T = rows_in c.args.table.now in
    let i : ℕ = c.loop-i.i in
    let n : name_at T i ≡ c.row_at-c.result.name.0 = ap (λ (d : Cap). d.name.0) (sym c.row_at-c.ensures) in
    (omega (arith, c.requires.0, c.loop-i-test.true), rows_in_order_rise T (suc c.loop-i.last) i (λ j l. c.requires.1 j (omega (arith, c.loop-i-test.true, l))) c.loop-i.invariant.0.up)

pub row_in_order-requires : goal.row_in_order-requires
row_in_order-requires c = let T = rows_in c.args.table.now in
    let i : ℕ = c.loop-i.i in
    let n : name_at T i ≡ c.row_at-c.result.name.0 = ap (λ (d : Cap). d.name.0) (sym c.row_at-c.ensures) in
    (omega (arith, c.requires.0, c.loop-i-test.true), rows_in_order_rise T (suc c.loop-i.last) i (λ j l. c.requires.1 j (omega (arith, c.loop-i-test.true, l))) c.loop-i.invariant.0.up, c.find_near-q.ensures)

pub returns-then-not-row_in_order : goal.returns-then-not-row_in_order
returns-then-not-row_in_order c = let T = rows_in c.args.table.now in
    let i : ℕ = c.loop-i.i in
    let n : name_at T i ≡ c.row_at-c.result.name.0 = ap (λ (d : Cap). d.name.0) (sym c.row_at-c.ensures) in
    (sym (fails_place T (suc c.args.issued) c.args.k i c.loop-i-test.true (ap (λ (d : Cap). row_in_order d (before T i)) (sym c.row_at-c.ensures) ∙ sym c.row_in_order.ensures ∙ not-true c.row_in_order.result c.if-not-row_in_order.true-raw)), record { known = λ e. clash e refl })

pub loop-i-preserved : goal.loop-i-preserved
loop-i-preserved c = let T = rows_in c.args.table.now in
    let i : ℕ = c.loop-i.i in
    let n : name_at T i ≡ c.row_at-c.result.name.0 = ap (λ (d : Cap). d.name.0) (sym c.row_at-c.ensures) in
    let p : c.row_at-c.result.parent.0 ≡ parent_at T i = ap (λ (d : Cap). d.parent.0) c.row_at-c.ensures in
    let f : Found T i (parent_at T i) c.find_near-q.result = rw (← p) c.find_near-q.ensures in
    (rw (← n) (checked_more T i c.loop-i.last c.loop-i.invariant.0 (omega (arith, n, c.if-c-last.false)) (ap (λ (d : Cap). row_in_order d (before T i)) (sym c.row_at-c.ensures) ∙ sym c.row_in_order.ensures ∙ not-false c.row_in_order.result c.if-not-row_in_order.false-raw)), places_more T T i c.find_near-q.result c.loop-i.places (omega (arith, c.requires.0, c.loop-i-test.true)) (λ j l. (refl, refl)) f c.loop-i.invariant.1, simp length-set c.loop-i.invariant.2)

pub returns : goal.returns
returns c = let e : c.loop-i.i ≡ c.args.k = omega (arith, c.loop-i-test.false) in rw (← e) (checked_all (rows_in c.args.table.now) c.loop-i.i c.loop-i.last c.args.issued c.loop-i.invariant.0, record { known = λ _. c.loop-i.invariant.1 })
