-- `text::pieces::put_front` meets its contract: the test tells whether domain 0 acts, and of another one three pieces are put one behind the other.
-- Assumes nothing.
use mathlib.Core.Path.{refl}
use Prim.Native.Nat.{◌+◌, ◌≤◌}
use native.Mathlib.Omega.{arith}
use lib.ListN.{length, length-append}
use borrow.Author.Tests.{ne_eqb}
use Rattle.text.specs.Decimal.{decimal}
use Rattle.text.proofs.Laws.Put.{put_three}
use Rattle.text.proofs.pieces.put_front.Goals as goal

pub returns-then-actor-eq0 : goal.returns-then-actor-eq0
returns-then-actor-eq0 c = rw c.if-actor-eq0.true (record { moved = omega arith; stored = refl })

pub put_bytes-past_word-requires : goal.put_bytes-past_word-requires
put_bytes-past_word-requires c =
    let room : c.args.at + (length (decimal c.args.actor) + 5) ≤ length c.args.out.now = let all = rw (ne_eqb _ 0 c.if-actor-eq0.false) at c.requires in omega (arith, simp length-append at all) in
    omega (arith, room)

pub put_number-past_actor-requires : goal.put_number-past_actor-requires
put_number-past_actor-requires c =
    let room : c.args.at + (length (decimal c.args.actor) + 5) ≤ length c.args.out.now = let all = rw (ne_eqb _ 0 c.if-actor-eq0.false) at c.requires in omega (arith, simp length-append at all) in
    omega (arith, room)

pub put_bytes-requires : goal.put_bytes-requires
put_bytes-requires c =
    let room : c.args.at + (length (decimal c.args.actor) + 5) ≤ length c.args.out.now = let all = rw (ne_eqb _ 0 c.if-actor-eq0.false) at c.requires in omega (arith, simp length-append at all) in
    omega (arith, room)

pub returns : goal.returns
returns c =
    rw (ne_eqb _ 0 c.if-actor-eq0.false) (put_three c.put_bytes-past_word.ensures c.put_number-past_actor.ensures c.put_bytes.ensures)
