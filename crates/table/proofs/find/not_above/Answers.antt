-- `not_above` meets its contract.
-- Assumes nothing.
use mathlib.Core.Path.{◌≡◌, ap, ◌∙◌}
use mathlib.Core.Bool.{cond}
use Prim.Native.Nat.{ℕ, ◌+◌, ◌*◌, ◌-◌, ◌/◌, ◌<◌, ◌≤◌}
use native.Mathlib.Omega.{arith}
use lib.Dec.{ltb}
use borrow.Author.Rules.{rules}
use Rattle.model.specs.declared.Cap.{Cap}
use Rattle.table.proofs.Laws.Find.{further, times, times_le}
use Rattle.table.proofs.find.not_above.Goals as goal

pub overflow_mul-result : goal.overflow_mul-result
overflow_mul-result c =
    let x : ℕ = c.args.x in let n : ℕ = c.row_at-c.result.name.0 in
    let l : x < 4294967296 = search rules in
    let e : (4294967296 + x - n) / 4294967296 ≡ cond (ltb x n) 0 1 = further x n l in
    let t : c.args.half * ((4294967296 + x - n) / 4294967296) ≤ c.args.half = rw e (times_le c.args.half (ltb x n)) in
    omega (arith, c.requires)

pub overflow_add-result : goal.overflow_add-result
overflow_add-result c =
    let x : ℕ = c.args.x in let n : ℕ = c.row_at-c.result.name.0 in
    let l : x < 4294967296 = search rules in
    let e : (4294967296 + x - n) / 4294967296 ≡ cond (ltb x n) 0 1 = further x n l in
    let t : c.args.half * ((4294967296 + x - n) / 4294967296) ≤ c.args.half = rw e (times_le c.args.half (ltb x n)) in
    omega (arith, c.requires)

pub returns : goal.returns
returns c =
    let x : ℕ = c.args.x in let n : ℕ = c.row_at-c.result.name.0 in
    let l : x < 4294967296 = search rules in
    let e : (4294967296 + x - n) / 4294967296 ≡ cond (ltb x n) 0 1 = further x n l in
    ap (λ (z : ℕ). c.args.base + c.args.half * z) e ∙ times c.args.base c.args.half (ltb x n)
    ∙ ap (λ (d : Cap). cond (ltb x d.name.0) c.args.base (c.args.base + c.args.half)) c.row_at-c.ensures
