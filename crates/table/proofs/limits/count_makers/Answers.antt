use mathlib.Core.Path.{◌≡◌, sym, ap, ◌∙◌, subst}
use Prim.Native.Nat.{ℕ, suc, ◌+◌, ◌<◌}
use mathlib.Core.List.{List}
use native.Mathlib.Omega.{arith}
use lib.ListN.{get_or, set}
use Rattle.model.specs.declared.Cap.{Cap}
use Rattle.model.specs.Table.{empty_row}
use Rattle.table.specs.Words.{rows_in}
use Rattle.table.specs.Limits.{Counts}
use Rattle.table.proofs.Laws.Limits.{counts_more, made_few}
use Rattle.table.proofs.limits.count_makers.Goals as goal

pub loop-i-init : goal.loop-i-init
loop-i-init c = c.requires.3

pub count_maker-requires : goal.count_maker-requires
count_maker-requires c =
    let T = rows_in c.args.table.now in let i = c.loop-i.i in
    let m : ℕ = (get_or T i empty_row).maker in
    let e : c.row_at-c.result.maker ≡ m = ap (λ (r : Cap). r.maker) c.row_at-c.ensures in
    let l : m < 64 = c.requires.2 i c.loop-i-test.true in
    let few : get_or c.loop-i.counts m 0 < 1024 = omega (arith, c.loop-i.invariant.each m l, made_few T i m, c.loop-i-test.true, c.requires.1) in
    (c.loop-i.invariant.all_domains, rw e l, rw e few)

pub loop-i-preserved : goal.loop-i-preserved
loop-i-preserved c =
    let T = rows_in c.args.table.now in let i = c.loop-i.i in
    let m : ℕ = (get_or T i empty_row).maker in
    let e : c.row_at-c.result.maker ≡ m = ap (λ (r : Cap). r.maker) c.row_at-c.ensures in
    let l : m < 64 = c.requires.2 i c.loop-i-test.true in
    let counted : c.count_maker.new.counts ≡ set c.loop-i.counts m (suc (get_or c.loop-i.counts m 0)) = c.count_maker.ensures ∙ ap (λ (x : ℕ). set c.loop-i.counts x (suc (get_or c.loop-i.counts x 0))) e in
    subst (λ (counts : List ℕ). Counts T (i + 1) counts) (sym counted) (counts_more T i c.loop-i.counts c.loop-i.invariant l)

pub returns : goal.returns
returns c = let e : c.loop-i.i ≡ c.args.k = omega (arith, c.loop-i-test.false) in subst (λ (i : ℕ). Counts (rows_in c.args.table.now) i c.loop-i.counts) e c.loop-i.invariant
