use mathlib.Core.Path.{◌≡◌, ap, ◌∙◌}
use mathlib.Core.Bool.{cond}
use Prim.Native.Nat.{ℕ, ◌<◌, max}
use native.Mathlib.Omega.{arith}
use lib.Dec.{ltb}
use lib.ListN.{get_or, replicate, length-replicate, get_or-replicate}
use lib.Seq.{get_or-set_other}
use Rattle.table.specs.Words.{rows_in}
use Rattle.rules.proofs.Laws.Marks.{spread_start, spread_more}
use Rattle.rules.proofs.marks.spread_names.Goals as goal

pub loop-i-init : goal.loop-i-init
loop-i-init c =
    let none : (j : ℕ) → j < c.args.first → get_or (replicate {A = ℕ} 1024 0) j 0 ≡ 0 = λ j l. get_or-replicate {A = ℕ} 1024 j 0 0 (omega (arith, l, c.requires.3.fits, c.requires.0)) in
    rw c.requires.4 (none, spread_start (rows_in c.args.table.now) c.args.first (λ j. get_or c.args.owned.now j 0) (replicate {A = ℕ} 1024 0) (length-replicate {A = ℕ} 1024 0) c.requires.3.zero none)

pub loop-i-preserved : goal.loop-i-preserved
loop-i-preserved c =
    let T = rows_in c.args.table.now in
    let i : ℕ = c.loop-i.i in
    let q : ℕ = get_or c.args.places.now i 0 in
    let up : ℕ → ℕ = λ p. cond (ltb p i) (get_or c.loop-i.marks p 0) 0 in
    let own : ℕ = get_or c.args.owned.now i 0 in
    let e : c.max.result ≡ max own (cond (ltb q i) (get_or c.loop-i.marks q 0) 0) = c.max.ensures ∙ ap (λ (x : ℕ). max x own) (c.mark_below-up.ensures ∙ ap up c.wide.ensures) ∙ omega arith in
    ((λ j l. get_or-set_other c.loop-i.marks i j c.max.result 0 (λ (e : j ≡ i). omega (arith, e, l)) ∙ c.loop-i.invariant.0 j l), rw e (spread_more T c.args.k i q (λ j. get_or c.args.owned.now j 0) c.loop-i.marks c.requires.1 c.requires.0 c.loop-i-test.true (c.requires.2.each i c.loop-i-test.true) c.loop-i.invariant.1))
