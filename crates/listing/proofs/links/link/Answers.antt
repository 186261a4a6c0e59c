use mathlib.Core.Path.{◌≡◌, sym, ap, ◌∙◌, subst}
use Prim.Native.Nat.{ℕ, suc, ◌-◌, ◌≤◌}
use mathlib.Core.List.{List}
use native.Mathlib.Omega.{arith}
use lib.ListN.{length, replicate, length-replicate}
use Rattle.model.specs.declared.Cap.{Cap}
use Rattle.listing.specs.First.{first_rows}
use Rattle.listing.proofs.Laws.First.{length_first}
use Rattle.listing.proofs.Laws.Live.{live_order}
use Rattle.listing.proofs.Laws.Links.{Filling, filling_start, filling_step, filling_end}
use Rattle.listing.proofs.links.link.Goals as goal

module _ (ws : List (List ℕ)) (first next : List ℕ) (n : ℕ) (few : n ≤ 1024) (inside : n ≤ length ws) where
  start : first ≡ replicate 1025 n → next ≡ replicate 1025 n → Filling (first_rows ws n) first next n
  start e f =
      let long = length_first ws n inside in
      subst (Filling (first_rows ws n) first next) long
      (filling_start (first_rows ws n) first next (omega arith) (ap length f ∙ length-replicate 1025 n) (e ∙ ap (replicate 1025) (sym long)))

pub loop-i-init : goal.loop-i-init
loop-i-init c =
    start c.args.table.now c.args.first.now c.args.next.now c.args.n c.requires.0 c.requires.4 c.requires.2 c.requires.3

pub loop-i-preserved : goal.loop-i-preserved
loop-i-preserved c =
    let rows : List Cap = first_rows c.args.table.now c.args.n in
    let long : length rows ≡ c.args.n = length_first c.args.table.now c.args.n c.requires.4 in
    let i : ℕ = c.loop-i.i - 1 in
    let up : c.loop-i.i ≡ suc i = omega (arith, c.loop-i-test.true) in
    filling_step rows c.loop-i.first c.loop-i.next i c.parent_row-p.result (live_order c.requires.1) (omega arith) (omega arith) (omega (arith, c.parent_row-p.ensures.0))
    c.parent_row-p.ensures.1 (subst (Filling rows c.loop-i.first c.loop-i.next) up c.loop-i.invariant)

pub returns : goal.returns
returns c =
    let rows : List Cap = first_rows c.args.table.now c.args.n in
    let zero : c.loop-i.i ≡ 0 = omega (arith, c.loop-i-test.false) in
    filling_end rows c.loop-i.first c.loop-i.next (live_order c.requires.1) (subst (Filling rows c.loop-i.first c.loop-i.next) zero c.loop-i.invariant)
