-- `store` meets its contract.
-- Assumes nothing.
use mathlib.Core.Path.{◌≡◌, ap, ◌∙◌}
use Prim.Native.Nat.{ℕ, ◌+◌, ◌-◌, ◌*◌}
use native.Mathlib.Omega.{arith}
use lib.ListN.{length, set}
use lib.Seq.{paste}
use Rattle.table.specs.States.{head_words}
use Rattle.table.proofs.Offered.{rows_size, bytes_size}
use Rattle.rules.proofs.Laws.States.{stores}
use Rattle.rules.proofs.states.store.Goals as goal

pub put_head-requires : goal.put_head-requires
put_head-requires c = (omega (arith, c.head_at-at.ensures, rows_size c.args.stored.now c.args.copies.now c.requires.2, c.requires.3), omega (arith, c.requires.0.few, c.requires.0.front.fits))

pub copy_into-requires : goal.copy_into-requires
copy_into-requires c = (omega (arith, c.stored-1.given, c.head_at-at.ensures, rows_size c.args.stored.now c.args.copies.now c.requires.2, c.requires.3, c.requires.0.few, c.requires.0.front.fits), c.requires.0.front.fits)

pub copy_into-requires-2 : goal.copy_into-requires-2
copy_into-requires-2 c = (omega (arith, c.bytes_at.ensures, bytes_size c.args.stored.now c.args.copies.now c.requires.2, c.requires.3), omega (arith, c.requires.1))

pub returns : goal.returns
returns c = let ws = c.args.table.now in
    let e : c.copy_into.new.to ≡ paste (set c.args.stored.now (1025 * c.args.slot) (head_words c.args.k (length ws - c.args.k))) (1025 * c.args.slot + 1) ws c.args.k =
    c.copy_into.ensures ∙ ap (λ x. paste x (c.head_at-at.result + 1) ws c.args.k) c.put_head.ensures ∙ ap (λ (at : ℕ). paste (set c.args.stored.now at (head_words c.args.k (length ws - c.args.k))) (at + 1) ws c.args.k) c.head_at-at.ensures in
    let f : c.copy_into-2.new.to ≡ paste c.args.copies.now (8192 * c.args.slot) c.args.bits.now 8192 = c.copy_into-2.ensures ∙ ap (λ (at : ℕ). paste c.args.copies.now at c.args.bits.now 8192) c.bytes_at.ensures in
    rw (e, f) (stores ws c.args.bits.now c.args.stored.now c.args.copies.now c.args.slot c.args.k c.args.issued c.requires.0 c.requires.1 c.requires.2 c.requires.3)
