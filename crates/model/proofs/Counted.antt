-- Each count of the tally is a count of the requests answered so, up to 4,294,967,295.
-- Assumes nothing.
use mathlib.Core.Path.{◌≡◌, ◌∙◌}
use mathlib.Core.Bool.{false, cond}
use mathlib.Core.List.{List, [], ◌∷◌}
use Prim.Native.Nat.{ℕ, zero, suc, ◌+◌, ◌≤◌, min}
use native.Mathlib.Omega.{arith}
use lib.Dec.{eqb}
use borrow.Author.Tests.{ne_eqb, le-leb}
use Rattle.model.specs.declared.Event.TheVariants.{Create, Borrow, Read, Write, Drop}
use Rattle.model.specs.Requests.{Request, Single, Group, Mark, Back}
use Rattle.model.specs.declared.Sheet.{Sheet}
use Rattle.model.specs.Lists.{final}
use Rattle.model.specs.Refusals.{judge}
use Rattle.model.specs.Step.{State, view, verdict, answer, outcome, after}
use Rattle.model.specs.Effects.{new_name}
use Rattle.model.specs.Counted.{Counter, Creates, Borrows, Reads, Writes, Drops, Refusals, count_in, counts_for, how_many}

stays : (n : ℕ) → n ≤ 4294967295 → n ≡ min (n + 0) 4294967295
stays n l = omega arith

goes_up : (n : ℕ) → min (suc n) 4294967295 ≡ min (n + 1) 4294967295
goes_up n = omega arith

refused : (j : ℕ) → eqb (suc (suc j)) 0 ≡ false
refused j = ne_eqb (suc (suc j)) 0 (λ (q : suc (suc j) ≡ 0). omega arith)

-- a request that gets the number j
module _ (sheet : Sheet) (h : State) where
  counted : (c : Counter) → count_in c h.tally ≤ 4294967295 → (j : ℕ) (q : Request)
      → count_in c (outcome sheet j h q).tally ≡ min (count_in c h.tally + cond (counts_for c q (verdict j (new_name h.tally.issued q))) 1 0) 4294967295
  counted Creates l zero (Single by (Create w s r)) = goes_up h.tally.creates
  counted Creates l zero (Single by (Borrow w u s r)) = stays h.tally.creates l
  counted Creates l zero (Single by (Read u s)) = stays h.tally.creates l
  counted Creates l zero (Single by (Write u s)) = stays h.tally.creates l
  counted Creates l zero (Single by (Drop u)) = stays h.tally.creates l
  counted Creates l zero (Group by names) = stays h.tally.creates l
  counted Creates l zero (Mark by k) = stays h.tally.creates l
  counted Creates l zero (Back by k) = stays h.tally.creates l
  counted Creates l (suc zero) q = stays h.tally.creates l
  counted Creates l (suc (suc j)) q = rw (refused j) (stays h.tally.creates l)
  counted Borrows l zero (Single by (Create w s r)) = stays h.tally.borrows l
  counted Borrows l zero (Single by (Borrow w u s r)) = goes_up h.tally.borrows
  counted Borrows l zero (Single by (Read u s)) = stays h.tally.borrows l
  counted Borrows l zero (Single by (Write u s)) = stays h.tally.borrows l
  counted Borrows l zero (Single by (Drop u)) = stays h.tally.borrows l
  counted Borrows l zero (Group by names) = stays h.tally.borrows l
  counted Borrows l zero (Mark by k) = stays h.tally.borrows l
  counted Borrows l zero (Back by k) = stays h.tally.borrows l
  counted Borrows l (suc zero) q = stays h.tally.borrows l
  counted Borrows l (suc (suc j)) q = rw (refused j) (stays h.tally.borrows l)
  counted Reads l zero (Single by (Create w s r)) = stays h.tally.reads l
  counted Reads l zero (Single by (Borrow w u s r)) = stays h.tally.reads l
  counted Reads l zero (Single by (Read u s)) = goes_up h.tally.reads
  counted Reads l zero (Single by (Write u s)) = stays h.tally.reads l
  counted Reads l zero (Single by (Drop u)) = stays h.tally.reads l
  counted Reads l zero (Group by names) = stays h.tally.reads l
  counted Reads l zero (Mark by k) = stays h.tally.reads l
  counted Reads l zero (Back by k) = stays h.tally.reads l
  counted Reads l (suc zero) q = stays h.tally.reads l
  counted Reads l (suc (suc j)) q = rw (refused j) (stays h.tally.reads l)
  counted Writes l zero (Single by (Create w s r)) = stays h.tally.writes l
  counted Writes l zero (Single by (Borrow w u s r)) = stays h.tally.writes l
  counted Writes l zero (Single by (Read u s)) = stays h.tally.writes l
  counted Writes l zero (Single by (Write u s)) = goes_up h.tally.writes
  counted Writes l zero (Single by (Drop u)) = stays h.tally.writes l
  counted Writes l zero (Group by names) = stays h.tally.writes l
  counted Writes l zero (Mark by k) = stays h.tally.writes l
  counted Writes l zero (Back by k) = stays h.tally.writes l
  counted Writes l (suc zero) q = stays h.tally.writes l
  counted Writes l (suc (suc j)) q = rw (refused j) (stays h.tally.writes l)
  counted Drops l zero (Single by (Create w s r)) = stays h.tally.drops l
  counted Drops l zero (Single by (Borrow w u s r)) = stays h.tally.drops l
  counted Drops l zero (Single by (Read u s)) = stays h.tally.drops l
  counted Drops l zero (Single by (Write u s)) = stays h.tally.drops l
  counted Drops l zero (Single by (Drop u)) = goes_up h.tally.drops
  counted Drops l zero (Group by names) = goes_up h.tally.drops
  counted Drops l zero (Mark by k) = stays h.tally.drops l
  counted Drops l zero (Back by k) = stays h.tally.drops l
  counted Drops l (suc zero) q = stays h.tally.drops l
  counted Drops l (suc (suc j)) q = rw (refused j) (stays h.tally.drops l)
  counted Refusals l zero (Single by (Create w s r)) = stays h.tally.refused l
  counted Refusals l zero (Single by (Borrow w u s r)) = stays h.tally.refused l
  counted Refusals l zero (Single by (Read u s)) = stays h.tally.refused l
  counted Refusals l zero (Single by (Write u s)) = stays h.tally.refused l
  counted Refusals l zero (Single by (Drop u)) = stays h.tally.refused l
  counted Refusals l zero (Group by names) = stays h.tally.refused l
  counted Refusals l zero (Mark by k) = stays h.tally.refused l
  counted Refusals l zero (Back by k) = stays h.tally.refused l
  counted Refusals l (suc zero) q = stays h.tally.refused l
  counted Refusals l (suc (suc j)) q = rw (le-leb 2 (suc (suc j)) (omega arith)) (goes_up h.tally.refused)

  counted_after : (c : Counter) → count_in c h.tally ≤ 4294967295 → (q : Request)
      → count_in c (after sheet h q).tally ≡ min (count_in c h.tally + cond (counts_for c q (answer h q)) 1 0) 4294967295
  unfolding after answer
  counted_after c l q = counted c l (judge (view h) q) q

joined : (a x b y : ℕ) → a ≡ min (x + b) 4294967295 → min (a + y) 4294967295 ≡ min (x + (b + y)) 4294967295
joined a x b y q = omega arith

bounded : (a x : ℕ) → a ≡ min x 4294967295 → a ≤ 4294967295
bounded a x q = omega arith

-- The tally after a list of requests: each count has gone up by the requests that count for it, and stays at 4,294,967,295. A group counts once,
-- whether it is allowed or refused.
pub tallied : (sheet : Sheet) (c : Counter) (qs : List Request) (h : State) → count_in c h.tally ≤ 4294967295
    → count_in c (final (after sheet) h qs).tally ≡ min (count_in c h.tally + how_many sheet c h qs) 4294967295
unfolding how_many
tallied sheet c [] h l = stays (count_in c h.tally) l
tallied sheet c (q ∷ qs) h l =
    let e = counted_after sheet h c l q in
    tallied sheet c qs (after sheet h q) (bounded (count_in c (after sheet h q).tally) (count_in c h.tally + cond (counts_for c q (answer h q)) 1 0) e)
    ∙ joined (count_in c (after sheet h q).tally) (count_in c h.tally) (cond (counts_for c q (answer h q)) 1 0) (how_many sheet c (after sheet h q) qs) e
