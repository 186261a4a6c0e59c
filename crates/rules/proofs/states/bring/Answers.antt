-- `bring` meets its contract.
-- Assumes nothing.
use mathlib.Core.Path.{◌≡◌, ap, ◌∙◌}
use Prim.Native.Nat.{ℕ, ◌+◌, ◌-◌, ◌*◌}
use native.Mathlib.Omega.{arith}
use lib.ListN.{length, drop, length-drop}
use lib.Seq.{paste, take_all, length-take-le}
use Rattle.table.proofs.Offered.{rows_size, bytes_size}
use Rattle.rules.proofs.Laws.States.{brought, bits_brought}
use Rattle.rules.proofs.states.bring.Goals as goal

pub slice_bounds-copy_into-count : goal.slice_bounds-copy_into-count
slice_bounds-copy_into-count c = omega (arith, c.head_at-first.ensures, c.requires.3, rows_size c.args.stored.now c.args.copies.now c.requires.2)

pub slice_bounds-copy_into-start : goal.slice_bounds-copy_into-start
slice_bounds-copy_into-start c = omega (arith, c.head_at-first.ensures, c.requires.3, rows_size c.args.stored.now c.args.copies.now c.requires.2)

pub copy_into-requires : goal.copy_into-requires
copy_into-requires c = let l = length-take-le (length c.args.stored.now - (c.head_at-first.result + 1)) (drop (c.head_at-first.result + 1) c.args.stored.now) (omega (arith, length-drop (c.head_at-first.result + 1) c.args.stored.now)) in (omega (arith, c.requires.4), omega (arith, l, c.head_at-first.ensures, c.requires.3, rows_size c.args.stored.now c.args.copies.now c.requires.2, c.requires.0.few, c.requires.4))

pub slice_bounds-copy_into-count-2 : goal.slice_bounds-copy_into-count-2
slice_bounds-copy_into-count-2 c = omega (arith, c.bytes_at.ensures, c.requires.3, bytes_size c.args.stored.now c.args.copies.now c.requires.2)

pub slice_bounds-copy_into-start-2 : goal.slice_bounds-copy_into-start-2
slice_bounds-copy_into-start-2 c = omega (arith, c.bytes_at.ensures, c.requires.3, bytes_size c.args.stored.now c.args.copies.now c.requires.2)

pub copy_into-requires-2 : goal.copy_into-requires-2
copy_into-requires-2 c = let l = length-take-le (length c.args.copies.now - c.bytes_at.result) (drop c.bytes_at.result c.args.copies.now) (omega (arith, length-drop c.bytes_at.result c.args.copies.now)) in (omega (arith, c.requires.1), omega (arith, l, c.bytes_at.ensures, c.requires.3, bytes_size c.args.stored.now c.args.copies.now c.requires.2))

pub returns : goal.returns
returns c = let ws = c.args.table.now in let stored = c.args.stored.now in let copies = c.args.copies.now in
    let e : c.copy_into.new.to ≡ paste ws 0 (drop (1025 * c.args.slot + 1) stored) c.args.live =
    c.copy_into.ensures ∙ ap (λ x. paste ws 0 x c.args.live) (take_all (length stored - (c.head_at-first.result + 1)) (drop (c.head_at-first.result + 1) stored) (omega (arith, length-drop (c.head_at-first.result + 1) stored)) ∙ ap (λ (n : ℕ). drop (n + 1) stored) c.head_at-first.ensures) in
    record {
      table = brought ws stored copies c.args.slot c.args.live c.args.k c.max.result c.args.issued (omega (arith, c.max.ensures)) c.requires.0 c.requires.2 c.requires.3 c.requires.4 (omega (arith, c.requires.0.few, c.requires.4)) c.copy_into.new.to c.clear.new.table e c.clear.ensures (c.table-2-1.given ∙ c.table-1.given);
      bits = c.copy_into-2.ensures ∙ ap (λ x. paste c.args.bits.now 0 x 8192) (take_all (length copies - c.bytes_at.result) (drop c.bytes_at.result copies) (omega (arith, length-drop c.bytes_at.result copies)) ∙ ap (λ (n : ℕ). drop n copies) c.bytes_at.ensures) ∙ bits_brought c.args.bits.now copies c.args.slot c.requires.1;
    }
