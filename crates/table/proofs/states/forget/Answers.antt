use mathlib.Core.Path.{◌≡◌, refl, sym, ap, ◌∙◌}
use Prim.Native.Nat.{ℕ, ◌*◌}
use native.Mathlib.Nat.{not-suc-le-zero}
use native.Mathlib.Omega.{arith}
use lib.ListN.{set, replicate}
use borrow.Author.Tests.{not-true, not-false}
use Rattle.table.proofs.Laws.States.{rows_size, forgotten, none_forgotten, nothing_more}
use Rattle.table.proofs.states.forget.Goals as goal

pub returns-then-not-is_memory : goal.returns-then-not-is_memory
returns-then-not-is_memory c = none_forgotten c.args.stored.now c.args.stored.now c.args.copies.now (sym c.is_memory.ensures ∙ not-true _ c.if-not-is_memory.true-raw)

pub loop-slot-init : goal.loop-slot-init
loop-slot-init c = (refl, λ j l. absurd (not-suc-le-zero l))

pub put_nothing-requires : goal.put_nothing-requires
put_nothing-requires c = omega (arith, c.head_at.ensures, c.loop-slot.invariant.0, c.loop-slot-test.true, rows_size c.args.stored.now c.args.copies.now (sym c.is_memory.ensures ∙ not-false _ c.if-not-is_memory.false-raw))

pub loop-slot-preserved : goal.loop-slot-preserved
loop-slot-preserved c = let s = c.loop-slot.stored in
    let e : c.put_nothing.new.stored ≡ set s (1025 * c.loop-slot.slot) (replicate 11 0) = c.put_nothing.ensures ∙ ap (λ (n : ℕ). set s n (replicate 11 0)) c.head_at.ensures in
    (c.stored-1.given ∙ c.loop-slot.invariant.0, rw e (nothing_more s c.loop-slot.slot (omega (arith, c.loop-slot.invariant.0, c.loop-slot-test.true, rows_size c.args.stored.now c.args.copies.now (sym c.is_memory.ensures ∙ not-false _ c.if-not-is_memory.false-raw))) c.loop-slot.invariant.1))

pub shape_of-stored : goal.shape_of-stored
shape_of-stored c = c.loop-slot.invariant.0

pub returns : goal.returns
returns c = forgotten c.args.stored.now c.loop-slot.stored c.args.copies.now (sym c.is_memory.ensures ∙ not-false _ c.if-not-is_memory.false-raw) c.loop-slot.invariant.0 (λ j l. c.loop-slot.invariant.1 j (omega (arith, c.loop-slot-test.false)))
