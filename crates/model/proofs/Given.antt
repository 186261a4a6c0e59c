-- Document 01, "Values": names are given out in order, never twice, up to 1,000,000.
-- Assumes nothing.
use mathlib.Core.Path.{◌≡◌, refl, sym, ◌∙◌}
use mathlib.Core.List.{List, [], ◌∷◌}
use Prim.Native.Nat.{ℕ, zero, suc, ◌<◌}
use native.Mathlib.Nat.{add-zero}
use native.Mathlib.Omega.{arith}
use borrow.Author.Tests.{lt-ltb, le-leb, leb-false, ne_eqb}
use Rattle.model.specs.declared.Event.TheVariants.{Create, Borrow, Read, Write, Drop}
use Rattle.model.specs.declared.Sheet.{Sheet}
use Rattle.model.specs.Refusals.{refusals, judge}
use Rattle.model.specs.Step.{State, view, verdict, outcome, answer, after}
use Rattle.model.specs.Requests.{Request, Single, Group, Mark, Back, rises_above}
use Rattle.model.specs.Effects.{new_name}
use Rattle.model.specs.Given.{given, count_from, GivenInOrder}
use Rattle.model.proofs.Judged.{allowed}

-- ---- one request

-- what a request gives out when so many names are issued, and what is issued then: no name, or the next one
data Gives (issued name left : ℕ) : Type 0 where
  none : name ≡ 0 → left ≡ issued → Gives issued name left
  next : name ≡ suc issued → left ≡ suc issued → issued < 1000000 → Gives issued name left

-- "A refusal carries name 0."
unnamed : (j name : ℕ) → (verdict (suc (suc j)) name).name ≡ 0
unnamed j name = rw (ne_eqb (suc (suc j)) 0 (λ (e : suc (suc j) ≡ 0). omega arith))

judged_gives : (sheet : Sheet) (h : State) (q : Request) (j : ℕ) → judge (view h) q ≡ j
    → Gives h.tally.issued (verdict j (new_name h.tally.issued q)).name (outcome sheet j h q).tally.issued
unfolding refusals
judged_gives sheet h (Single by (Create w s r)) zero e = next refl refl (leb-false 1000000 h.tally.issued (allowed (view h) (Single by (Create w s r)) e 9))
judged_gives sheet h (Single by (Borrow w u s r)) zero e = next refl refl (leb-false 1000000 h.tally.issued (allowed (view h) (Single by (Borrow w u s r)) e 9))
judged_gives sheet h (Single by (Read u s)) zero e = none refl refl
judged_gives sheet h (Single by (Write u s)) zero e = none refl refl
judged_gives sheet h (Single by (Drop u)) zero e = none refl refl
judged_gives sheet h (Group by names) zero e = none refl refl
judged_gives sheet h (Mark by k) zero e = none refl refl
judged_gives sheet h (Back by k) zero e = none refl refl
judged_gives sheet h q (suc zero) e = none refl refl
judged_gives sheet h q (suc (suc j)) e = none (unnamed j (new_name h.tally.issued q)) refl

gives : (sheet : Sheet) (h : State) (q : Request) → Gives h.tally.issued (answer h q).name (after sheet h q).tally.issued
unfolding answer after
gives sheet h q = judged_gives sheet h q (judge (view h) q) refl

-- ---- a list of requests

-- the names given out by one request more
module _ (sheet : Sheet) (h : State) (q : Request) (qs : List Request) where
  given_none : (answer h q).name ≡ 0 → given sheet h (q ∷ qs) ≡ given sheet (after sheet h q) qs
  unfolding given
  given_none e = rw e

  given_next : (x : ℕ) → (answer h q).name ≡ suc x → given sheet h (q ∷ qs) ≡ suc x ∷ given sheet (after sheet h q) qs
  unfolding given
  given_next x e = rw (e, lt-ltb 0 (suc x) (omega arith))

  one_more : Gives h.tally.issued (answer h q).name (after sheet h q).tally.issued → GivenInOrder sheet (after sheet h q) qs → GivenInOrder sheet h (q ∷ qs)
  unfolding count_from rises_above
  one_more (none name left) ih =
      let same : given sheet h (q ∷ qs) ≡ given sheet (after sheet h q) qs = given_none name in
      record { in_turn_lem = cc; issued_counts = cc; rising = cc; bounded = cc }
  one_more (next name left l) ih =
      let issued : ℕ = h.tally.issued in
      let more : given sheet h (q ∷ qs) ≡ suc issued ∷ given sheet (after sheet h q) qs = given_next issued name in
      record {
        in_turn_lem = cc;
        issued_counts = rw more (ih.issued_counts ∙ rw left (omega arith));
        rising = rw (more, lt-ltb issued (suc issued) (omega arith)) (cc);
        bounded = rw (more, le-leb 1 (suc issued) (omega arith), le-leb (suc issued) 1000000 (omega arith)) ih.bounded;
      }

-- Names are given out in order, never twice, and none above 1,000,000.
pub given_in_order : (sheet : Sheet) (h : State) (qs : List Request) → GivenInOrder sheet h qs
unfolding given count_from rises_above
given_in_order sheet h [] = record { in_turn_lem = refl; issued_counts = sym (add-zero h.tally.issued); rising = refl; bounded = refl }
given_in_order sheet h (q ∷ qs) = one_more sheet h q qs (gives sheet h q) (given_in_order sheet (after sheet h q) qs)
