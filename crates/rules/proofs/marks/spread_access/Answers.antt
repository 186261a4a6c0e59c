use mathlib.Core.Path.{◌≡◌, ap, ap₂, ◌∙◌}
use Prim.Native.Nat.{ℕ, ◌<◌, max}
use native.Mathlib.Omega.{arith}
use lib.Dec.{eqb}
use lib.ListN.{get_or, replicate, length-replicate, get_or-replicate}
use lib.Seq.{get_or-set_other}
use Rattle.model.specs.declared.Cap.{Cap}
use Rattle.table.proofs.Offered.{rise_fits}
use Rattle.table.specs.Words.{rows_in}
use Rattle.table.specs.Sheets.{sheet_in}
use Rattle.rules.specs.Engine.{value_below, own, own_of_access}
use Rattle.rules.proofs.Laws.Marks.{spread_start, spread_more, most_more}
use Rattle.rules.proofs.marks.spread_access.Goals as goal

pub row_at-c-requires : goal.row_at-c-requires
row_at-c-requires c = omega (arith, rise_fits c.args.table.now c.args.k c.requires.1, c.loop-i-test.true)

pub loop-i-init : goal.loop-i-init
loop-i-init c =
    let T = rows_in c.args.table.now in
    let none : (j : ℕ) → j < c.args.first → get_or (replicate {A = ℕ} 1024 0) j 0 ≡ 0 = λ j l. get_or-replicate {A = ℕ} 1024 j 0 0 (omega (arith, l, c.requires.3.fits, c.requires.0)) in
    rw c.requires.4 (none, spread_start T c.args.first (own_of_access (sheet_in c.args.sheet.now) T c.args.in_cell c.args.relation.now c.args.places.now c.args.a c.args.s) (replicate {A = ℕ} 1024 0) (length-replicate {A = ℕ} 1024 0) (λ j l. rw (c.requires.3.none j l)) none, record { each = λ j l. omega (arith, none j l) })

pub loop-i-preserved : goal.loop-i-preserved
loop-i-preserved c =
    let T = rows_in c.args.table.now in let i : ℕ = c.loop-i.i in
    let here = c.loop-i-test.true in
    let sheet = sheet_in c.args.sheet.now in
    let relation = c.args.relation.now in
    let q : ℕ = get_or c.args.places.now i 0 in
    let marks = c.loop-i.marks in
    let owned : ℕ → ℕ = own_of_access sheet T c.args.in_cell relation c.args.places.now c.args.a c.args.s in
    let kin : c.mark_below-kin.result ≡ value_below relation q i = c.mark_below-kin.ensures ∙ ap (λ (p : ℕ). value_below relation p i) c.wide-q.ensures in
    let o : c.own_mark-owned.result ≡ owned i = c.own_mark-owned.ensures ∙ ap₂ (λ (d : Cap) (x : ℕ). own sheet c.args.a c.args.s d c.args.in_cell (get_or relation i 0) (eqb x 1)) c.row_at-c.ensures kin in
    let up : c.mark_below-up.result ≡ value_below marks q i = c.mark_below-up.ensures ∙ ap (λ (p : ℕ). value_below marks p i) c.wide-q.ensures in
    let m : ℕ = max (owned i) (value_below marks q i) in
    let e : c.max-mark.result ≡ m = c.max-mark.ensures ∙ ap₂ (λ (x y : ℕ). max y x) o up ∙ omega arith in
    let greatest : c.max-most.result ≡ max c.loop-i.most m = c.max-most.ensures ∙ ap (λ (x : ℕ). max x c.loop-i.most) e ∙ omega arith in
    ((λ j b. get_or-set_other marks i j c.max-mark.result 0 (λ (z : j ≡ i). omega (arith, z, b)) ∙ c.loop-i.invariant.0 j b), rw e (spread_more T c.args.k i q owned marks c.requires.1 c.requires.0 here (c.requires.2.each i here) c.loop-i.invariant.1), rw (e, greatest) (most_more i marks c.loop-i.most m (omega (arith, here, c.requires.0, c.loop-i.invariant.1.long)) c.loop-i.invariant.2))
