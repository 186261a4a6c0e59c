-- Card 1: a request that writes the right name has the answer and the effect of the one that writes none.
-- Assumes nothing.
use Prim.Native.Nat.{ℕ, zero, suc}
use mathlib.Core.Path.{◌≡◌, refl, ◌∙◌}
use borrow.Author.Tests.{eq-eqb}
use Rattle.model.specs.declared.Sheet.{Sheet}
use Rattle.model.specs.declared.Event.TheVariants.{Create, Borrow, Read, Write, Drop}
use Rattle.model.specs.Requests.{Request, Single, Group, Mark, Back}
use Rattle.model.specs.Refusals.{View, refusals, judge}
use Rattle.model.specs.Effects.{rows_after, issued_after}
use Rattle.model.specs.Bits.{bits_after}
use Rattle.model.specs.Step.{State, view, outcome, answer, after}
use Rattle.model.specs.Named.{unnamed, rightly_named}
use Rattle.model.proofs.Judged.{counted_issued}

same_judge : (v : View) (q : Request) → judge v (rightly_named v.issued q) ≡ judge v (unnamed q)
unfolding judge refusals rightly_named unnamed
same_judge v (Single by (Create w s r)) = rw (eq-eqb (suc v.issued) (suc v.issued) refl)
same_judge v (Single by (Borrow w u s r)) = rw (eq-eqb (suc v.issued) (suc v.issued) refl)
same_judge v (Single by (Read u s)) = refl
same_judge v (Single by (Write u s)) = refl
same_judge v (Single by (Drop u)) = refl
same_judge v (Group by names) = refl
same_judge v (Mark by k) = refl
same_judge v (Back by k) = refl

pub same_answer : (h : State) (q : Request) → answer h (rightly_named h.tally.issued q) ≡ answer h (unnamed q)
unfolding answer rightly_named unnamed
same_answer h (Single by (Create w s r)) = rw (same_judge (view h) (Single by (Create w s r)))
same_answer h (Single by (Borrow w u s r)) = rw (same_judge (view h) (Single by (Borrow w u s r)))
same_answer h (Single by (Read u s)) = refl
same_answer h (Single by (Write u s)) = refl
same_answer h (Single by (Drop u)) = refl
same_answer h (Group by names) = refl
same_answer h (Mark by k) = refl
same_answer h (Back by k) = refl

same_outcome : (sheet : Sheet) (k : ℕ) (h : State) (q : Request) → outcome sheet k h (rightly_named h.tally.issued q) ≡ outcome sheet k h (unnamed q)
unfolding rows_after bits_after rightly_named unnamed
same_outcome sheet zero h (Single by (Create w s r)) = refl
same_outcome sheet zero h (Single by (Borrow w u s r)) = refl
same_outcome sheet zero h (Single by (Read u s)) = refl
same_outcome sheet zero h (Single by (Write u s)) = refl
same_outcome sheet zero h (Single by (Drop u)) = refl
same_outcome sheet zero h (Group by names) = refl
same_outcome sheet zero h (Mark by k) = refl
same_outcome sheet zero h (Back by k) = refl
same_outcome sheet (suc zero) h q = refl
same_outcome sheet (suc (suc k)) h q = refl

pub same_after : (sheet : Sheet) (h : State) (q : Request) → after sheet h (rightly_named h.tally.issued q) ≡ after sheet h (unnamed q)
unfolding after
same_after sheet h q = rw (same_judge (view h) q) (same_outcome sheet (judge (view h) (unnamed q)) h q)

same_issued : (i : ℕ) (q : Request) → issued_after i (unnamed q) ≡ issued_after i q
unfolding unnamed
same_issued i (Single by (Create w s r)) = refl
same_issued i (Single by (Borrow w u s r)) = refl
same_issued i (Single by (Read u s)) = refl
same_issued i (Single by (Write u s)) = refl
same_issued i (Single by (Drop u)) = refl
same_issued i (Group by names) = refl
same_issued i (Mark by k) = refl
same_issued i (Back by k) = refl

-- the issued number after an allowed request, whether it writes its name or not
pub issued_allowed : (sheet : Sheet) (h : State) (q : Request) → (answer h (unnamed q)).refusal ≡ 0 → (after sheet h (unnamed q)).tally.issued ≡ issued_after h.tally.issued q
unfolding answer after
issued_allowed sheet h q z = rw z (counted_issued (unnamed q) h.tally ∙ same_issued h.tally.issued q)
