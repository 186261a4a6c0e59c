-- The theorems about a sheet's rules: where they are not refused the sheet says what each of them says, wherever it stands; and a
-- combination is given as often as its place is among those that the rules list.
-- Assumes nothing.
use mathlib.Core.Path.{◌≡◌, refl, sym, ap, ap₂, ◌∙◌}
use mathlib.Core.Logic.{◌⊎◌, inl, inr}
use mathlib.Core.Bool.{Bool, true, false, cond, not, ◌&&◌}
use mathlib.Core.List.{List, [], ◌∷◌, ◌++◌, map, flat_map}
use Prim.Native.Nat.{ℕ, zero, suc, ◌+◌, ◌*◌, ◌≤◌, ◌<◌}
use native.Mathlib.Nat.{mul_assoc, mul-zero, mul-one, one-mul, zero-mul, add-mul, mul-pos}
use native.Mathlib.Omega.{arith}
use lib.Dec.{eqb, ltb}
use lib.ListN.{length, get_or}
use borrow.Author.Tests.{ltb-true, ltb-false, eq-eqb, ne_eqb, eqb-true, eqb-false}
use Rattle.model.specs.declared.Access.{Access}
use Rattle.model.specs.declared.Access.TheVariants.{Reading, Writing}
use Rattle.model.specs.declared.Origin.{Origin}
use Rattle.model.specs.declared.Origin.TheVariants.{Cell, Kin, Stranger}
use Rattle.model.specs.Lists.{any}
use Rattle.model.specs.Strike.{result_of}
use Rattle.model.proofs.Offered.{All, first_none, or_neither, test}
use Rattle.table.specs.Sheets.{effect_in, sheet_in, access_number, origin_number, holder_number, place_of}
use Rattle.table.proofs.Offered.{result_in_lem}
use Rattle.sheet.specs.Rule.{Rule, is_rule, Below, Spelled}
use Rattle.sheet.specs.Rules.{places, holder_at, access_at, origin_at, times, given_by, given, judge_rules, result_given, bytes_given, combinations}
use Rattle.sheet.proofs.Laws.Adding.{place_at, byte_at}
use Rattle.sheet.proofs.Laws.Reading.{times_first}

-- ---- a sheet says what its rules say

none_at : (f : ℕ → Bool) (l : List ℕ) → any f l ≡ false → (p : ℕ) → p < length l → f (get_or l p 0) ≡ false
none_at f [] h p m = absurd (omega arith)
none_at f (x ∷ l) h zero m = (or_neither (f x) (any f l) h).0
none_at f (x ∷ l) h (suc p) m = none_at f l (or_neither (f x) (any f l) h).1 p (omega arith)

-- rules that are not refused give each combination once
pub given_once : (rules : List Rule) → judge_rules rules ≡ 0 → (p : ℕ) → p < 18 → given rules p ≡ 1
unfolding judge_rules
given_once rules z p l =
    let n = first_none ((2, any (λ r. not (is_rule r)) rules) ∷ (14, any (λ p. ltb 1 (given rules p)) places) ∷ (15, any (λ p. eqb (given rules p) 0) places) ∷ []) refl z in
    let most : ltb 1 (given rules p) ≡ false = rw (place_at p l) at (none_at (λ p. ltb 1 (given rules p)) places (n 14) p l) in
    let some : eqb (given rules p) 0 ≡ false = rw (place_at p l) at (none_at (λ p. eqb (given rules p) 0) places (n 15) p l) in
    once (given rules p) (ltb-false 1 (given rules p) most) (eqb-false (given rules p) 0 some)
  where
    once : (k : ℕ) → k ≤ 1 → (k ≡ 0 → ⊥) → k ≡ 1
    once k l z = omega arith

-- a combination that is given once has the result of the rule that gives it
module _ (r : Rule) (later : List Rule) (p : ℕ) (g : 1 ≤ given_by r p) where
  given_some : (before : List Rule) → 1 ≤ given (before ++ (r ∷ later)) p
  unfolding given
  given_some [] = omega arith
  given_some (b ∷ before) = omega (arith, given_some before)

  result_stands : (before : List Rule) → given (before ++ (r ∷ later)) p ≡ 1 → result_given (before ++ (r ∷ later)) p ≡ r.result
  unfolding given result_given
  result_stands [] e = rw (ne_eqb (given_by r p) 0 (λ (z : given_by r p ≡ 0). omega arith))
  result_stands (b ∷ before) e =
      let rest = given_some before in
      rw (eq-eqb (given_by b p) 0 (omega arith)) (result_stands before (omega arith))

module _ (before : List Rule) (r : Rule) (later : List Rule) (judged : judge_rules (before ++ (r ∷ later)) ≡ 0) where
  -- the byte of each combination that a rule gives
  pub rule_stands : (p d : ℕ) → p < 18 → 1 ≤ given_by r p → get_or (bytes_given (before ++ (r ∷ later))) p d ≡ r.result
  rule_stands p d l g = byte_at (before ++ (r ∷ later)) p d l ∙ result_stands r later p g before (given_once (before ++ (r ∷ later)) judged p l)

  -- what the sheet says of a holder's kind, an access and where it comes from that a rule lists
  pub rule_says : (h : ℕ) (a : Access) (o : Origin) → h < 3 → 0 < times h r.holders → 0 < times (access_number a) r.accesses → 0 < times (origin_number o) r.origins
      → result_of (sheet_in (bytes_given (before ++ (r ∷ later)))) h a o ≡ effect_in r.result
  unfolding given_by
  rule_says h a o l th ta to = result_in_lem (bytes_given (before ++ (r ∷ later))) h a o ∙ ap effect_in (rule_stands (place_of h a o) 0 place_low gives)
    where
      holder_is : (k : ℕ) → k < 3 → holder_number k ≡ k
      holder_is zero m = refl
      holder_is (suc zero) m = refl
      holder_is (suc (suc zero)) m = refl
      holder_is (suc (suc (suc k))) m = absurd (omega arith)

      access_low : (a : Access) → access_number a < 2
      access_low Reading = omega arith
      access_low Writing = omega arith

      origin_low : (o : Origin) → origin_number o < 3
      origin_low Cell = omega arith
      origin_low Kin = omega arith
      origin_low Stranger = omega arith

      place_low : place_of h a o < 18
      place_low = omega (arith, holder_is h l, access_low a, origin_low o)

      gives : 1 ≤ given_by r (place_of h a o)
      gives =
          let at_holder : holder_at (place_of h a o) ≡ h = omega (arith, holder_is h l, access_low a, origin_low o) in
          let at_access : access_at (place_of h a o) ≡ access_number a = omega (arith, holder_is h l, access_low a, origin_low o) in
          let at_origin : origin_at (place_of h a o) ≡ origin_number o = omega (arith, holder_is h l, access_low a, origin_low o) in
          rw (at_holder, at_access, at_origin) (mul-pos (mul-pos th ta) to)

-- ---- how often a combination is given, by the combinations that the rules list

times_none : (n : ℕ) → times n [] ≡ 0
unfolding times
times_none n = refl

times_append : (n : ℕ) (l m : List ℕ) → times n (l ++ m) ≡ times n l + times n m
times_append n [] m = omega (arith, times_none n)
times_append n (x ∷ l) m = omega (arith, times_first n x (l ++ m), times_first n x l, times_append n l m)

-- lists for numbers, of which only the one for n has the place p, v times
module _ (p n v k : ℕ) (f : ℕ → List ℕ) (each : (x : ℕ) → x < k → times p (f x) ≡ cond (eqb n x) v 0) where
  times_flat : (l : List ℕ) → Below k l → times p (flat_map f l) ≡ times n l * v
  unfolding flat_map
  times_flat [] b = times_none p ∙ sym (ap (λ (m : ℕ). m * v) (times_none n) ∙ zero-mul v)
  times_flat (x ∷ l) b =
      times_append p (f x) (flat_map f l) ∙ rw (each x (ltb-true x k b.0), times_flat l b.1, times_first n x l) (go (eqb n x))
    where
      go : (t : Bool) → cond t v 0 + times n l * v ≡ (cond t 1 0 + times n l) * v
      go true = omega (arith, add-mul 1 (times n l) v, one-mul v)
      go false = omega (arith, add-mul 0 (times n l) v, zero-mul v)

map_flat : (f : ℕ → ℕ) (l : List ℕ) → map f l ≡ flat_map (λ x. f x ∷ []) l
unfolding flat_map
map_flat f [] = refl
map_flat f (x ∷ l) = ap (λ (m : List ℕ). f x ∷ m) (map_flat f l)

module _ (p : ℕ) where
  -- a place is that of one holder, one access and one origin
  place_test : (h a o : ℕ) → a < 2 → o < 3 → eqb p (h * 6 + a * 3 + o) ≡ (eqb (holder_at p) h && eqb (access_at p) a) && eqb (origin_at p) o
  place_test h a o la lo = go (test (eqb p (h * 6 + a * 3 + o))) (test (eqb (holder_at p) h)) (test (eqb (access_at p) a)) (test (eqb (origin_at p) o))
    where
      go : (eqb p (h * 6 + a * 3 + o) ≡ true) ⊎ (eqb p (h * 6 + a * 3 + o) ≡ false) → (eqb (holder_at p) h ≡ true) ⊎ (eqb (holder_at p) h ≡ false)
          → (eqb (access_at p) a ≡ true) ⊎ (eqb (access_at p) a ≡ false) → (eqb (origin_at p) o ≡ true) ⊎ (eqb (origin_at p) o ≡ false)
          → eqb p (h * 6 + a * 3 + o) ≡ (eqb (holder_at p) h && eqb (access_at p) a) && eqb (origin_at p) o
      go (inl t) x y z =
          let is = eqb-true p (h * 6 + a * 3 + o) t in
          rw (t, eq-eqb (holder_at p) h (omega arith), eq-eqb (access_at p) a (omega arith), eq-eqb (origin_at p) o (omega arith))
      go (inr f) (inl x) (inl y) (inl z) = absurd (eqb-false p (h * 6 + a * 3 + o) f (omega (arith, eqb-true (holder_at p) h x, eqb-true (access_at p) a y, eqb-true (origin_at p) o z)))
      go (inr f) (inl x) (inl y) (inr z) = rw (f, x, y, z)
      go (inr f) (inl x) (inr y) z = rw (f, x, y)
      go (inr f) (inr x) y z = rw (f, x)

  module _ (r : Rule) (s : Spelled r) where
    by_origin : (h a : ℕ) → a < 2 → times p (map (λ o. h * 6 + a * 3 + o) r.origins) ≡ times (origin_at p) r.origins * cond (eqb (holder_at p) h && eqb (access_at p) a) 1 0
    by_origin h a la =
        ap (times p) (map_flat (λ o. h * 6 + a * 3 + o) r.origins)
        ∙ times_flat p (origin_at p) (cond (eqb (holder_at p) h && eqb (access_at p) a) 1 0) 3 (λ o. (h * 6 + a * 3 + o) ∷ [])
        (λ o lo. times_first p (h * 6 + a * 3 + o) [] ∙ rw (times_none p, place_test h a o la lo) (go (eqb (holder_at p) h && eqb (access_at p) a) (eqb (origin_at p) o))) r.origins s.origins
      where
        go : (x z : Bool) → cond (x && z) 1 0 + 0 ≡ cond z (cond x 1 0) 0
        go true true = refl
        go true false = refl
        go false true = refl
        go false false = refl

    by_access : (h : ℕ) → times p (flat_map (λ a. map (λ o. h * 6 + a * 3 + o) r.origins) r.accesses) ≡ times (access_at p) r.accesses * cond (eqb (holder_at p) h) (times (origin_at p) r.origins) 0
    by_access h =
        times_flat p (access_at p) (cond (eqb (holder_at p) h) (times (origin_at p) r.origins) 0) 2 (λ a. map (λ o. h * 6 + a * 3 + o) r.origins)
        (λ a la. by_origin h a la ∙ go (times (origin_at p) r.origins) (eqb (holder_at p) h) (eqb (access_at p) a)) r.accesses s.accesses
      where
        go : (m : ℕ) (x y : Bool) → m * cond (x && y) 1 0 ≡ cond y (cond x m 0) 0
        go m true true = mul-one m
        go m true false = mul-zero m
        go m false true = mul-zero m
        go m false false = mul-zero m

    -- a rule gives a combination as often as it lists it
    pub rule_lists : given_by r p ≡ times p (combinations r)
    unfolding given_by combinations
    rule_lists =
        mul_assoc (times (holder_at p) r.holders) (times (access_at p) r.accesses) (times (origin_at p) r.origins)
        ∙ sym (times_flat p (holder_at p) (times (access_at p) r.accesses * times (origin_at p) r.origins) 3 (λ h. flat_map (λ a. map (λ o. h * 6 + a * 3 + o) r.origins) r.accesses)
        (λ h lh. by_access h ∙ go (times (access_at p) r.accesses) (times (origin_at p) r.origins) (eqb (holder_at p) h)) r.holders s.holders)
      where
        go : (m k : ℕ) (x : Bool) → m * cond x k 0 ≡ cond x (m * k) 0
        go m k true = refl
        go m k false = mul-zero m

  -- and rules as often as they list it together, whatever the place
  pub given_listed : (rules : List Rule) → All Spelled rules → given rules p ≡ times p (flat_map combinations rules)
  unfolding given flat_map
  given_listed [] s = sym (times_none p)
  given_listed (r ∷ rules) s = ap₂ (λ (m k : ℕ). m + k) (rule_lists r s.0) (given_listed rules s.1) ∙ sym (times_append p (combinations r) (flat_map combinations rules))
