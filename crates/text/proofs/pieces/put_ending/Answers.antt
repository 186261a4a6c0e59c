-- `text::pieces::put_ending` meets its contract: five pieces put one behind the other are the ending.
-- Assumes nothing.
use mathlib.Core.Path.{◌≡◌}
use Prim.Native.Nat.{ℕ, ◌+◌}
use native.Mathlib.Omega.{arith}
use lib.ListN.{length}
use Rattle.model.specs.declared.Terms.{Terms}
use Rattle.text.specs.Mask.{mask_word}
use Rattle.text.specs.Event.{right_word, kind_word, fresh_word, back, ending}
use Rattle.text.proofs.Laws.Put.{put_length, put_three}
use Rattle.text.proofs.Laws.Range.{right_length, ending_length}
use Rattle.text.proofs.pieces.put_ending.Goals as goal

-- the ending has as many bytes as its five pieces
parts : (actor : ℕ) (r : Terms)
    → length (ending actor r)
    ≡ length (right_word r.right) + length (kind_word r.kind) + length (fresh_word r.fresh) + length (mask_word actor r.holders) + length (back actor)
parts actor r = omega (arith, ending_length actor r, right_length r.right)

pub put_right-past_right-requires : goal.put_right-past_right-requires
put_right-past_right-requires c =
    let a = c.args in
    omega (arith, parts a.actor a.terms)

pub put_kind-past_kind-requires : goal.put_kind-past_kind-requires
put_kind-past_kind-requires c =
    let a = c.args in
    omega (arith, parts a.actor a.terms, c.put_right-past_right.ensures.moved, put_length c.put_right-past_right.ensures)

pub put_fresh-past_fresh-requires : goal.put_fresh-past_fresh-requires
put_fresh-past_fresh-requires c =
    let a = c.args in
    omega (arith, parts a.actor a.terms, c.put_kind-past_kind.ensures.moved, put_length c.put_kind-past_kind.ensures, c.put_right-past_right.ensures.moved, put_length c.put_right-past_right.ensures)

pub put_mask-past_mask-requires : goal.put_mask-past_mask-requires
put_mask-past_mask-requires c =
    let a = c.args in
    omega (arith, parts a.actor a.terms, c.requires, c.put_fresh-past_fresh.ensures.moved, put_length c.put_fresh-past_fresh.ensures, c.put_kind-past_kind.ensures.moved, put_length c.put_kind-past_kind.ensures, c.put_right-past_right.ensures.moved, put_length c.put_right-past_right.ensures)

pub put_back-requires : goal.put_back-requires
put_back-requires c =
    let a = c.args in
    omega (arith, parts a.actor a.terms, c.requires, c.put_mask-past_mask.ensures.moved, put_length c.put_mask-past_mask.ensures, c.put_fresh-past_fresh.ensures.moved, put_length c.put_fresh-past_fresh.ensures, c.put_kind-past_kind.ensures.moved, put_length c.put_kind-past_kind.ensures, c.put_right-past_right.ensures.moved, put_length c.put_right-past_right.ensures)

pub returns : goal.returns
returns c =
    put_three c.put_right-past_right.ensures c.put_kind-past_kind.ensures (put_three c.put_fresh-past_fresh.ensures c.put_mask-past_mask.ensures c.put_back.ensures)
