-- The number given, to an event, a group, a mark or a back, is the first in order of precedence that applies: its condition holds, and none that comes
-- before it does. And the order of precedence, worded again.
-- Assumes nothing.
use mathlib.Core.Path.{◌≡◌, refl, sym, ap, ◌∙◌}
use mathlib.Core.Logic.{◌⊎◌, inl, inr}
use mathlib.Core.Bool.{Bool, true, false, cond, ◌&&◌, ◌||◌, or-true}
use mathlib.Core.List.{List, [], ◌∷◌, ◌++◌}
use Prim.Native.Nat.{ℕ, zero, suc, ◌<◌, ◌≤◌}
use native.Mathlib.Omega.{arith}
use lib.Dec.{leb, eqb, ltb}
use lib.ListN.{length}
use borrow.Author.Tests.{ltb-true, eqb-true, eq-eqb, ne_eqb}
use Rattle.model.specs.declared.Name.{Name}
use Rattle.model.specs.declared.Cap.{Cap}
use Rattle.model.specs.declared.Event.{Event}
use Rattle.model.specs.declared.Event.TheVariants.{Create, Borrow, Read, Write, Drop}
use Rattle.model.specs.Lists.{filter, any, all, first}
use Rattle.model.specs.Requests.{Caller, Request, Single, Group, Mark, Back, turns_state}
use Rattle.model.specs.Table.{live_rows}
use Rattle.model.specs.Refusals.{View, not_a_domain, unfit, misgrouped, standing, standings, precedence, place, refusals, judge}
use Rattle.model.proofs.Lists.{listed, first_none, test, clash, and_both, all_append}

-- ---- checks whose places rise, from above a bound

abbrev pub rises_from : ℕ → List (ℕ × Bool) → Bool
rises_from bound [] = true
rises_from bound (c ∷ cs) = ltb bound (place c.0) && rises_from (place c.0) cs

apart : (i j : ℕ) → i ≡ j → i < j → ⊥
apart i j e l = omega arith

-- no condition is listed at or before the bound
listed_above : (cs : List (ℕ × Bool)) (bound j : ℕ) → rises_from bound cs ≡ true → place j ≤ bound → listed j cs ≡ false
listed_above [] bound j h l = refl
listed_above (c ∷ cs) bound j h l =
    let p = and_both (ltb bound (place c.0)) (rises_from (place c.0) cs) h in
    let b = ltb-true bound (place c.0) p.0 in
    rw (ne_eqb j c.0 (λ (e : j ≡ c.0). apart (place j) (place c.0) (ap place e) (omega arith))) (listed_above cs (place c.0) j p.1 (omega arith))

pub first_lowest : (cs : List (ℕ × Bool)) (bound j : ℕ) → rises_from bound cs ≡ true → place j < place (first cs) → listed j cs ≡ false
first_lowest [] bound j h l = refl
first_lowest (c ∷ cs) bound j h l = go (test c.1) (first_lowest cs (place c.0) j p.1)
  where
    p : (ltb bound (place c.0) ≡ true) × (rises_from (place c.0) cs ≡ true)
    p = and_both (ltb bound (place c.0)) (rises_from (place c.0) cs) h

    skip : (b : Bool) → listed j cs ≡ false → cond b false (listed j cs) ≡ false
    skip true e = refl
    skip false e = e

    go : (c.1 ≡ true) ⊎ (c.1 ≡ false) → (place j < place (first cs) → listed j cs ≡ false) → cond (eqb j c.0) c.1 (listed j cs) ≡ false
    go (inl t) ih =
        let below : place j < place c.0 = rw t at l in
        rw (ne_eqb j c.0 (λ (e : j ≡ c.0). apart (place j) (place c.0) (ap place e) below)) (listed_above cs (place c.0) j p.1 (omega arith))
    go (inr f) ih = rw f (skip (eqb j c.0) (ih (rw f at l)))

-- some condition listed under the number holds, in any list
pub first_some : (cs : List (ℕ × Bool)) (k : ℕ) → first cs ≡ suc k → any (λ c. eqb (suc k) c.0 && c.1) cs ≡ true
first_some [] k e = absurd (let z : ◌≡◌ {A = ℕ} 0 (suc k) = e in omega arith)
first_some (c ∷ cs) k e = go (test c.1) (first_some cs k)
  where
    go : (c.1 ≡ true) ⊎ (c.1 ≡ false) → (first cs ≡ suc k → any (λ c. eqb (suc k) c.0 && c.1) cs ≡ true)
        → eqb (suc k) c.0 && c.1 || any (λ c. eqb (suc k) c.0 && c.1) cs ≡ true
    go (inl t) ih = let n : c.0 ≡ suc k = rw t at e in rw (eq-eqb (suc k) c.0 (sym n), t)
    go (inr f) ih = rw (ih (rw f at e)) (or-true (eqb (suc k) c.0 && c.1))

at_most : (i j : ℕ) → i ≡ j → i ≤ j
at_most i j e = omega arith

pub first_holds : (cs : List (ℕ × Bool)) (bound k : ℕ) → rises_from bound cs ≡ true → first cs ≡ suc k → listed (suc k) cs ≡ true
first_holds [] bound k h e = absurd (never e)
  where
    never : ◌≡◌ {A = ℕ} 0 (suc k) → ⊥
    never q = omega arith
first_holds (c ∷ cs) bound k h e = go (test c.1) (test (eqb (suc k) c.0)) (first_holds cs (place c.0) k p.1)
  where
    p : (ltb bound (place c.0) ≡ true) × (rises_from (place c.0) cs ≡ true)
    p = and_both (ltb bound (place c.0)) (rises_from (place c.0) cs) h

    go : (c.1 ≡ true) ⊎ (c.1 ≡ false) → (eqb (suc k) c.0 ≡ true) ⊎ (eqb (suc k) c.0 ≡ false) → (first cs ≡ suc k → listed (suc k) cs ≡ true)
        → cond (eqb (suc k) c.0) c.1 (listed (suc k) cs) ≡ true
    go (inl t) s ih = let n : c.0 ≡ suc k = rw t at e in rw (eq-eqb (suc k) c.0 (sym n)) t
    go (inr f) (inr n) ih = rw n (ih (rw f at e))
    go (inr f) (inl q) ih =
        let n : suc k ≡ c.0 = eqb-true (suc k) c.0 q in
        clash (ih (rw f at e)) (listed_above cs (place c.0) (suc k) p.1 (at_most (place (suc k)) (place c.0) (ap place n)))

-- ---- the same where more checks follow, all of which repeat numbers of the first ones

-- j is the number of one of the checks
abbrev is_number : List (ℕ × Bool) → ℕ → Bool
is_number cs j = any (λ c. eqb j c.0) cs

repeated : (cs ds : List (ℕ × Bool)) (j : ℕ) → all (λ d. is_number cs d.0) ds ≡ true → is_number cs j ≡ false → listed j ds ≡ false
repeated cs [] j h n = refl
repeated cs (d ∷ ds) j h n = go (test (eqb j d.0)) (repeated cs ds j p.1 n)
  where
    p : (is_number cs d.0 ≡ true) × (all (λ d. is_number cs d.0) ds ≡ true)
    p = and_both (is_number cs d.0) (all (λ d. is_number cs d.0) ds) h

    go : (eqb j d.0 ≡ true) ⊎ (eqb j d.0 ≡ false) → listed j ds ≡ false → cond (eqb j d.0) d.1 (listed j ds) ≡ false
    go (inl e) ih = clash p.0 (ap (is_number cs) (sym (eqb-true j d.0 e)) ∙ n)
    go (inr e) ih = rw e ih

listed_append : (cs ds : List (ℕ × Bool)) (j : ℕ) → listed j cs ≡ false → (is_number cs j ≡ false → listed j ds ≡ false) → listed j (cs ++ ds) ≡ false
listed_append [] ds j h f = f refl
listed_append (c ∷ cs) ds j h f = go (test (eqb j c.0)) (listed_append cs ds j)
  where
    go : (eqb j c.0 ≡ true) ⊎ (eqb j c.0 ≡ false) → (listed j cs ≡ false → (is_number cs j ≡ false → listed j ds ≡ false) → listed j (cs ++ ds) ≡ false)
        → cond (eqb j c.0) c.1 (listed j (cs ++ ds)) ≡ false
    go (inl e) ih = rw e (rw e at h)
    go (inr e) ih = rw e (ih (rw e at h) (λ (n : is_number cs j ≡ false). f (rw e n)))

first_append : (cs ds : List (ℕ × Bool)) (k : ℕ) → first cs ≡ suc k → first (cs ++ ds) ≡ first cs
first_append [] ds k e = absurd (let z : ◌≡◌ {A = ℕ} 0 (suc k) = e in omega arith)
first_append (c ∷ cs) ds k e = go (test c.1) (first_append cs ds k)
  where
    go : (c.1 ≡ true) ⊎ (c.1 ≡ false) → (first cs ≡ suc k → first (cs ++ ds) ≡ first cs) → cond c.1 c.0 (first (cs ++ ds)) ≡ cond c.1 c.0 (first cs)
    go (inl t) ih = rw t
    go (inr f) ih = rw f (ih (rw f at e))

pub first_lowest_repeated : (cs ds : List (ℕ × Bool)) (j : ℕ) → rises_from 0 cs ≡ true → all (λ c. ltb 0 c.0) cs ≡ true → all (λ d. is_number cs d.0) ds ≡ true
    → place j < place (first (cs ++ ds)) → listed j (cs ++ ds) ≡ false
first_lowest_repeated cs ds j rises some again l = listed_append cs ds j (go (first cs) refl) (repeated cs ds j again)
  where
    go : (k : ℕ) → first cs ≡ k → listed j cs ≡ false
    go zero e = first_none cs some e j
    go (suc k) e = first_lowest cs 0 j rises (rw (first_append cs ds k e) at l)

-- ---- the refusals of a request

rising : (v : View) (by : Caller) (e : Event) → rises_from 0 (refusals v (Single by e)) ≡ true
unfolding refusals
rising v by (Create w s r) = refl
rising v by (Borrow w u s r) = refl
rising v by (Read u s) = refl
rising v by (Write u s) = refl
rising v by (Drop u) = refl

rising_state : (v : View) (q : Request) → turns_state q ≡ true → rises_from 0 (refusals v q) ≡ true
unfolding refusals
rising_state v (Single by e) t = clash t refl
rising_state v (Group by names) t = clash t refl
rising_state v (Mark by k) t = refl
rising_state v (Back by k) t = refl

-- the checks of the later names of a group repeat the numbers of the first one's
standings_repeat : (cs : List (ℕ × Bool)) (rows : List Cap) (i actor : ℕ) (names : List ℕ) → ((u : Name) → all (λ d. is_number cs d.0) (standing rows i actor u) ≡ true)
    → all (λ d. is_number cs d.0) (standings rows i actor names) ≡ true
unfolding standings
standings_repeat cs rows i actor [] h = refl
standings_repeat cs rows i actor (u ∷ names) h =
    let again : ℕ × Bool → Bool = λ d. is_number cs d.0 in
    all_append again (standing rows i actor (record { 0 = u })) (standings rows i actor names)
    ∙ rw (h (record { 0 = u }), standings_repeat cs rows i actor names h)

-- A refusal's condition holds: of an event, a mark or a back the one that is listed under its number, of a group some one, since 4 and 5 are listed
-- once for each name.
pub given_holds : (v : View) (by : Caller) (e : Event) (k : ℕ) → judge v (Single by e) ≡ suc k → listed (suc k) (refusals v (Single by e)) ≡ true
unfolding judge
given_holds v by e k h = first_holds (refusals v (Single by e)) 0 k (rising v by e) h

pub given_holds_state : (v : View) (q : Request) → turns_state q ≡ true → (k : ℕ) → judge v q ≡ suc k → listed (suc k) (refusals v q) ≡ true
unfolding judge
given_holds_state v q t k h = first_holds (refusals v q) 0 k (rising_state v q t) h

pub given_some : (v : View) (q : Request) (k : ℕ) → judge v q ≡ suc k → any (λ c. eqb (suc k) c.0 && c.1) (refusals v q) ≡ true
unfolding judge
given_some v q k h = first_some (refusals v q) k h

-- No condition that comes before it holds, of 4 and 5 of a group that of the first name; none at all where the request is allowed, since
-- 0 comes after all.
pub given_first : (v : View) (q : Request) (j : ℕ) → place j < place (judge v q) → listed j (refusals v q) ≡ false
unfolding judge refusals standings
given_first v (Single by e) j l = first_lowest (refusals v (Single by e)) 0 j (rising v by e) l
given_first v (Mark by k) j l = first_lowest (refusals v (Mark by k)) 0 j (rising_state v (Mark by k) refl) l
given_first v (Back by k) j l = first_lowest (refusals v (Back by k)) 0 j (rising_state v (Back by k) refl) l
given_first v (Group by []) j l = first_lowest (refusals v (Group by [])) 0 j refl l
given_first v (Group by (u ∷ names)) j l =
    let front : List (ℕ × Bool) = (1, unfit by.limits v) ∷ (13, misgrouped (u ∷ names)) ∷ (2, not_a_domain by.actor) ∷ standing (live_rows v.table) v.issued by.actor (record { 0 = u }) in
    first_lowest_repeated front (standings (live_rows v.table) v.issued by.actor names) j refl refl (standings_repeat front (live_rows v.table) v.issued by.actor names (λ u. refl)) l

-- ---- the order of precedence, worded again

-- "The lowest number that applies is the one given": document 01's eleven numbers stand in rising order.
pub eleven_rise : filter (λ k. leb k 11) precedence ≡ 1 ∷ 2 ∷ 3 ∷ 4 ∷ 5 ∷ 6 ∷ 7 ∷ 8 ∷ 9 ∷ 10 ∷ 11 ∷ []
eleven_rise = refl

-- Card 1: 12 is "between 9 and 10".
pub twelve_between : (place 12 ≡ suc (place 9)) × (place 10 ≡ suc (place 12))
twelve_between = (refl, refl)

-- Card 5: 13 is "after 1".
pub thirteen_after : place 13 ≡ suc (place 1)
thirteen_after = refl

-- Card 7: 14 and 15 are "in that order after 2".
pub fourteen_after : (place 14 ≡ suc (place 2)) × (place 15 ≡ suc (place 14))
fourteen_after = (refl, refl)

-- Card 9: 16 is "after 7".
pub sixteen_after : place 16 ≡ suc (place 7)
sixteen_after = refl

-- Card 10: 17 is "after 5", and 18 "in the place of 10".
pub seventeen_after : place 17 ≡ suc (place 5)
seventeen_after = refl

pub eighteen_after : place 18 ≡ suc (place 10)
eighteen_after = refl

-- Card 11: 19 is "after 2": behind 14 and 15, which no request gets, and before 3.
pub nineteen_after : (place 19 ≡ suc (place 15)) × (place 3 ≡ suc (place 19))
nineteen_after = (refl, refl)

-- There are no more.
pub nineteen_numbers : length precedence ≡ 19
nineteen_numbers = refl
