-- Laws of adding up the lines of a sheet: the 18 places, what a line adds, and the sheet that all lines make.
-- Assumes nothing.
use mathlib.Core.Path.{◌≡◌, refl, sym, ap, ◌∙◌}
use mathlib.Core.Logic.{◌⊎◌, inl, inr}
use mathlib.Core.Bool.{Bool, true, false, cond, not, ◌&&◌, ◌||◌}
use mathlib.Core.List.{List, [], ◌∷◌, map}
use Prim.Native.Nat.{ℕ, zero, suc, ◌+◌, ◌*◌, ◌-◌, ◌≤◌, ◌<◌, min}
use native.Mathlib.Nat.{mul-le-mul_right, mul_comm}
use native.Mathlib.Omega.{arith}
use lib.Dec.{eqb, ltb}
use lib.ListN.{length, get_or, set, take, drop, replicate, length-set, get_or-replicate}
use lib.Seq.{ext_get_or, get_or-set_same, get_or-set_other}
use borrow.Author.Tests.{ltb-true, ltb-false, lt-ltb, le-ltb, eq-eqb, ne_eqb, eqb-true, eqb-false}
use Rattle.std.specs.List.{list_any}
use Rattle.model.specs.Lists.{any, all, first}
use Rattle.model.proofs.Offered.{test, clash, and_both}
use Rattle.text.specs.Class.{newline}
use Rattle.text.specs.Line.{next_part}
use Rattle.text.proofs.Offered.{parts_end, part_then}
use Rattle.sheet.specs.declared.rule.Counted.{Counted}
use Rattle.sheet.specs.Rule.{Rule, is_rule, read_rule}
use Rattle.sheet.specs.Rules.{places, holder_at, access_at, origin_at, times, given_by, given, result_given, judge_rules, bytes_given}
use Rattle.sheet.specs.ReadSheet.{rules_in, judge_text, sheet_into}
use Rattle.sheet.specs.Reading.{Counting, counts_at, Ready, Adds, Noted, ReadsLines}

-- ---- the 18 places

-- a test of the numbers below n
abbrev all_below : (ℕ → Bool) → ℕ → Bool
all_below f zero = true
all_below f (suc n) = f zero && all_below (λ k. f (suc k)) n

each_below : (f : ℕ → Bool) (n : ℕ) → all_below f n ≡ true → (p : ℕ) → p < n → f p ≡ true
each_below f zero h p l = absurd (omega arith)
each_below f (suc n) h zero l = (and_both (f zero) (all_below (λ k. f (suc k)) n) h).0
each_below f (suc n) h (suc p) l = each_below (λ k. f (suc k)) n (and_both (f zero) (all_below (λ k. f (suc k)) n) h).1 p (omega arith)

pub place_at : (p : ℕ) → p < 18 → get_or places p 0 ≡ p
place_at p l = eqb-true (get_or places p 0) p (each_below (λ k. eqb (get_or places k 0) k) 18 refl p l)

-- a test of a list's members is one of its places
abbrev some_below : (ℕ → Bool) → ℕ → Bool
some_below f zero = false
some_below f (suc n) = f zero || some_below (λ k. f (suc k)) n

some_member : (f : ℕ → Bool) (s : List ℕ) → list_any f s ≡ some_below (λ p. f (get_or s p 0)) (length s)
some_member f [] = refl
some_member f (x ∷ s) = ap (λ (b : Bool). f x || b) (some_member f s)

pub some_place : (f : ℕ → Bool) (s : List ℕ) → length s ≡ 18 → list_any f s ≡ any (λ p. f (get_or s p 0)) places
some_place f s e = some_member f s ∙ ap (some_below (λ p. f (get_or s p 0))) e

-- ---- a line added

-- up to a place a list has what a function says, and behind it what it had before
pub record Filled (f : ℕ → ℕ) (before now : List ℕ) (p : ℕ) : Type 0 where
  pub long : length now ≡ 18
  pub done : (q : ℕ) → q < p → get_or now q 0 ≡ f q
  pub left : (q : ℕ) → p ≤ q → get_or now q 0 ≡ get_or before q 0

pub filled_none : (f : ℕ → ℕ) (before : List ℕ) → length before ≡ 18 → Filled f before before 0
filled_none f before l = record { long = l; done = λ q h. absurd (omega arith); left = λ q h. refl }

module _ (f : ℕ → ℕ) (before now : List ℕ) (p : ℕ) (l : p < 18) (h : Filled f before now p) where
  pub filled_set : (v : ℕ) → v ≡ f p → Filled f before (set now p v) (p + 1)
  filled_set v e = record {
    long = length-set now p v ∙ h.long;
    done = λ q m. go q m (test (eqb q p));
    left = λ q m. get_or-set_other now p q v 0 (λ i. omega arith) ∙ h.left q (omega arith);
  }
    where
      go : (q : ℕ) → q < p + 1 → (eqb q p ≡ true) ⊎ (eqb q p ≡ false) → get_or (set now p v) q 0 ≡ f q
      go q m (inl t) = rw (eqb-true q p t) (get_or-set_same now p v 0 (omega (arith, h.long)) ∙ e)
      go q m (inr i) = get_or-set_other now p q v 0 (eqb-false q p i) ∙ h.done q (omega (arith, eqb-false q p i))

  pub filled_keep : get_or before p 0 ≡ f p → Filled f before now (p + 1)
  filled_keep e = record { long = h.long; done = λ q m. go q m (test (eqb q p)); left = λ q m. h.left q (omega arith) }
    where
      go : (q : ℕ) → q < p + 1 → (eqb q p ≡ true) ⊎ (eqb q p ≡ false) → get_or now q 0 ≡ f q
      go q m (inl t) = rw (eqb-true q p t) (h.left p (omega arith) ∙ e)
      go q m (inr i) = h.done q (omega (arith, eqb-false q p i))

abbrev pub seen_after : Counted → List ℕ → ℕ → ℕ
seen_after r seen p = min (get_or seen p 0 + counts_at r p) 2

abbrev pub result_after : Counted → List ℕ → List ℕ → ℕ → ℕ
result_after r seen results p = cond (eqb (get_or seen p 0) 0) (cond (eqb (counts_at r p) 0) (get_or results p 0) r.result) (get_or results p 0)

module _ (r : Counted) (seen results : List ℕ) (p : ℕ) where
  pub given_first : get_or seen p 0 ≡ 0 → (counts_at r p ≡ 0 → ⊥) → r.result ≡ result_after r seen results p
  given_first e n = rw (eq-eqb (get_or seen p 0) 0 e, ne_eqb (counts_at r p) 0 n)

  pub given_never : get_or seen p 0 ≡ 0 → counts_at r p ≡ 0 → get_or results p 0 ≡ result_after r seen results p
  given_never e z = rw (eq-eqb (get_or seen p 0) 0 e, eq-eqb (counts_at r p) 0 z)

  pub given_before : (get_or seen p 0 ≡ 0 → ⊥) → get_or results p 0 ≡ result_after r seen results p
  given_before n = rw (ne_eqb (get_or seen p 0) 0 n)

-- ---- lines added up

-- a product up to 2 is that of its factors up to 2
twice : (a b : ℕ) → 2 ≤ a → min (2 * b) 2 ≡ min (a * b) 2
twice a zero h = rw mul_comm (omega arith)
twice a (suc b) h = let more : 2 * suc b ≤ a * suc b = mul-le-mul_right (suc b) h in omega arith

capped : (a b : ℕ) → min (min a 2 * b) 2 ≡ min (a * b) 2
capped a b = go (test (ltb a 2))
  where
    go : (ltb a 2 ≡ true) ⊎ (ltb a 2 ≡ false) → min (min a 2 * b) 2 ≡ min (a * b) 2
    go (inl t) = let same : min a 2 ≡ a = omega (arith, ltb-true a 2 t) in rw same
    go (inr f) = let two : min a 2 ≡ 2 = omega (arith, ltb-false a 2 f) in rw two (twice a b (ltb-false a 2 f))

capped_second : (a b : ℕ) → min (a * min b 2) 2 ≡ min (a * b) 2
capped_second a b = ap (λ (n : ℕ). min n 2) (mul_comm a (min b 2)) ∙ capped b a ∙ ap (λ (n : ℕ). min n 2) (mul_comm b a)

capped_three : (a b c : ℕ) → min (min a 2 * min b 2 * min c 2) 2 ≡ min (a * b * c) 2
capped_three a b c = capped_second (min a 2 * min b 2) c ∙ sym (capped (min a 2 * min b 2) c) ∙ ap (λ (n : ℕ). min (n * c) 2) (capped_second (min a 2) b ∙ capped a b) ∙ capped (a * b) c

capped_again : (a : ℕ) → min (min a 2) 2 ≡ min a 2
capped_again a = omega arith

counts_given : (r : Rule) (k : Counted) → Counting r k → (p : ℕ) → p < 18 → counts_at k p ≡ min (given_by r p) 2
unfolding given_by
counts_given r k h p l =
    rw (
      h.holders.each (holder_at p) (omega arith),
      h.accesses.each (access_at p) (omega arith),
      h.origins.each (origin_at p) (omega arith),
      capped_again (times (holder_at p) r.holders),
      capped_again (times (access_at p) r.accesses),
      capped_again (times (origin_at p) r.origins),
    )
    (capped_three (times (holder_at p) r.holders) (times (access_at p) r.accesses) (times (origin_at p) r.origins))

-- what is noted so far, with the rules that are left, is what all rules give
pub record Adding (whole left : List Rule) (seen results : List ℕ) : Type 0 where
  pub ready : Ready seen results
  pub none : (p : ℕ) → p < 18 → get_or seen p 0 ≡ 0 → get_or results p 0 ≡ 2
  pub seen_each : (p : ℕ) → p < 18 → min (given whole p) 2 ≡ min (get_or seen p 0 + given left p) 2
  pub results_each : (p : ℕ) → p < 18 → result_given whole p ≡ cond (eqb (get_or seen p 0) 0) (result_given left p) (get_or results p 0)

adding_start : (whole : List Rule) (seen results : List ℕ) → Noted [] seen results → Adding whole whole seen results
unfolding given result_given
adding_start whole seen results h = record {
  ready = record { seen_long = h.seen_long; results_long = h.results_long; small = λ p l. omega (arith, h.seen_each p l) };
  none = λ p l e. h.results_each p l;
  seen_each = λ p l. rw (h.seen_each p l) (omega arith);
  results_each = λ p l. rw (h.seen_each p l);
}

adding_end : (whole : List Rule) (seen results : List ℕ) → Adding whole [] seen results → Noted whole seen results
unfolding given result_given
adding_end whole seen results h = record {
  seen_long = h.ready.seen_long;
  results_long = h.ready.results_long;
  seen_each = λ p l. omega (arith, h.seen_each p l, h.ready.small p l);
  results_each = λ p l. go p l (test (eqb (get_or seen p 0) 0));
}
  where
    go : (p : ℕ) → p < 18 → (eqb (get_or seen p 0) 0 ≡ true) ⊎ (eqb (get_or seen p 0) 0 ≡ false) → get_or results p 0 ≡ result_given whole p
    go p l (inl t) = h.none p l (eqb-true (get_or seen p 0) 0 t) ∙ sym (h.results_each p l ∙ rw t)
    go p l (inr f) = sym (h.results_each p l ∙ rw f)

module _ (whole : List Rule) (r : Rule) (left : List Rule) (k : Counted) (counting : Counting r k) (seen results seen' results' : List ℕ) (adds : Adds k seen results seen' results') (h : Adding whole (r ∷ left) seen results) where
  seen_now : (p : ℕ) → p < 18 → get_or seen' p 0 ≡ min (get_or seen p 0 + min (given_by r p) 2) 2
  seen_now p l = adds.seen_each p l ∙ rw (counts_given r k counting p l)

  result_now : (p : ℕ) → p < 18 → get_or results' p 0 ≡ cond (eqb (get_or seen p 0) 0) (cond (eqb (min (given_by r p) 2) 0) (get_or results p 0) r.result) (get_or results p 0)
  result_now p l = adds.results_each p l ∙ rw (counts_given r k counting p l, counting.result)

  result_after_lem : (p : ℕ) → p < 18 → (eqb (get_or seen p 0) 0 ≡ true) ⊎ (eqb (get_or seen p 0) 0 ≡ false) → (eqb (given_by r p) 0 ≡ true) ⊎ (eqb (given_by r p) 0 ≡ false)
      → result_given whole p ≡ cond (eqb (get_or seen' p 0) 0) (result_given left p) (get_or results' p 0)
  unfolding result_given
  result_after_lem p l (inl s) (inl g) =
      let zero_now : get_or seen' p 0 ≡ 0 = omega (arith, seen_now p l, eqb-true (get_or seen p 0) 0 s, eqb-true (given_by r p) 0 g) in
      h.results_each p l ∙ rw (s, g, eq-eqb (get_or seen' p 0) 0 zero_now)
  result_after_lem p l (inl s) (inr g) =
      h.results_each p l ∙ rw (s, g, ne_eqb (get_or seen' p 0) 0 (λ e. eqb-false (given_by r p) 0 g (omega (arith, seen_now p l))), result_now p l, s, ne_eqb (min (given_by r p) 2) 0 (λ e. eqb-false (given_by r p) 0 g (omega arith)))
  result_after_lem p l (inr s) q =
      h.results_each p l ∙ rw (s, ne_eqb (get_or seen' p 0) 0 (λ e. eqb-false (get_or seen p 0) 0 s (omega (arith, seen_now p l))), result_now p l, s)

  none_after : (p : ℕ) → p < 18 → get_or seen' p 0 ≡ 0 → get_or results' p 0 ≡ 2
  none_after p l e =
      let seen_none : get_or seen p 0 ≡ 0 = omega (arith, seen_now p l) in
      let given_none : min (given_by r p) 2 ≡ 0 = omega (arith, seen_now p l) in
      result_now p l ∙ (rw (eq-eqb (get_or seen p 0) 0 seen_none, eq-eqb (min (given_by r p) 2) 0 given_none) (h.none p l seen_none))

  adding_more : Adding whole left seen' results'
  unfolding given
  adding_more = record {
    ready = record { seen_long = adds.seen_long; results_long = adds.results_long; small = λ p l. omega (arith, seen_now p l) };
    none = none_after;
    seen_each = λ p l. omega (arith, h.seen_each p l, seen_now p l);
    results_each = λ p l. result_after_lem p l (test (eqb (get_or seen p 0) 0)) (test (eqb (given_by r p) 0));
  }

-- the lines of a text, read up to a place
module _ (text : List ℕ) (at : ℕ) where
  -- nothing is left
  lines_end : length text ≤ at → rules_in (drop at text) ≡ []
  lines_end e = rw (parts_end newline text at e)

  -- the next line is read
  module _ (more : at < length text) (line : List ℕ) (is : line ≡ next_part newline (take (length text - at) (drop at text))) where
    lines_next : rules_in (drop at text) ≡ read_rule line ∷ rules_in (drop (at + length line) text)
    lines_next = rw (part_then newline text at (omega arith) line is more)

-- the lines up to a place are rules and added up
pub record Reads (text : List ℕ) (at : ℕ) (seen results : List ℕ) : Type 0 where
  pub rules : all is_rule (rules_in (drop at text)) ≡ all is_rule (rules_in text)
  pub adding : Adding (rules_in text) (rules_in (drop at text)) seen results

pub reads_none : (text seen results : List ℕ) → Noted [] seen results → Reads text 0 seen results
reads_none text seen results h = record { rules = refl; adding = adding_start (rules_in text) seen results h }

module _ (text : List ℕ) (at : ℕ) (seen results : List ℕ) (h : Reads text at seen results) where
  pub reads_all : length text ≤ at → ReadsLines text true seen results
  reads_all e = record {
    rules = (rw (lines_end text at e) at h.rules);
    noted = λ t. adding_end (rules_in text) seen results (rw (lines_end text at e) at h.adding);
  }

  module _ (more : at < length text) (line : List ℕ) (is : line ≡ next_part newline (take (length text - at) (drop at text))) (k : Counted) (counting : Counting (read_rule line) k) where
    pub reads_stops : 3 ≤ k.result → ReadsLines text false seen results
    reads_stops e =
        let no_rule : is_rule (read_rule line) ≡ false = le-ltb (read_rule line).result 3 (omega (arith, counting.result)) in
        record { rules = rw no_rule at (rw (lines_next text at more line is) at h.rules); noted = λ t. clash t refl }

    pub reads_more : k.result < 3 → (seen' results' : List ℕ) → Adds k seen results seen' results' → Reads text (at + length line) seen' results'
    reads_more l seen' results' adds =
        let a_rule : is_rule (read_rule line) ≡ true = lt-ltb (read_rule line).result 3 (omega (arith, counting.result)) in
        record {
          rules = rw a_rule at (rw (lines_next text at more line is) at h.rules);
          adding = adding_more (rules_in text) (read_rule line) (rules_in (drop (at + length line) text)) k counting seen results seen' results' adds (rw (lines_next text at more line is) at h.adding);
        }

-- ---- a sheet

pub noted_none : Noted [] (replicate 18 0) (replicate 18 2)
unfolding given result_given
noted_none = record { seen_long = refl; results_long = refl; seen_each = λ p l. get_or-replicate {A = ℕ} 18 p 0 0 l; results_each = λ p l. get_or-replicate {A = ℕ} 18 p 2 0 l }

some_wrong : (rules : List Rule) → any (λ r. not (is_rule r)) rules ≡ not (all is_rule rules)
some_wrong [] = refl
some_wrong (r ∷ rules) = go (is_rule r) (some_wrong rules)
  where
    go : (b : Bool) → any (λ r. not (is_rule r)) rules ≡ not (all is_rule rules) → not b || any (λ r. not (is_rule r)) rules ≡ not (b && all is_rule rules)
    go true e = e
    go false e = refl

-- a test of every place
any_same : (f g : ℕ → Bool) → ((p : ℕ) → p < 18 → f p ≡ g p) → any f places ≡ any g places
any_same f g h =
    rw (
      h 0 (omega arith),
      h 1 (omega arith),
      h 2 (omega arith),
      h 3 (omega arith),
      h 4 (omega arith),
      h 5 (omega arith),
      h 6 (omega arith),
      h 7 (omega arith),
      h 8 (omega arith),
      h 9 (omega arith),
      h 10 (omega arith),
      h 11 (omega arith),
      h 12 (omega arith),
      h 13 (omega arith),
      h 14 (omega arith),
      h 15 (omega arith),
      h 16 (omega arith),
      h 17 (omega arith),
    )

map_within : (f : ℕ → ℕ) (l : List ℕ) (p d : ℕ) → p < length l → get_or (map f l) p d ≡ f (get_or l p 0)
map_within f [] p d h = absurd (omega arith)
map_within f (x ∷ l) zero d h = refl
map_within f (x ∷ l) (suc p) d h = map_within f l p d (omega arith)

-- the byte at a place is the result given there
pub byte_at : (rules : List Rule) (p d : ℕ) → p < 18 → get_or (bytes_given rules) p d ≡ result_given rules p
byte_at rules p d l = map_within (result_given rules) places p d l ∙ ap (result_given rules) (place_at p l)

pub sheet_misspelt : (text lent : List ℕ) → false ≡ all is_rule (rules_in text) → (2 ≡ judge_text text) × (lent ≡ sheet_into text lent)
unfolding judge_rules sheet_into
sheet_misspelt text lent e = (rw (some_wrong (rules_in text), ← e), rw (some_wrong (rules_in text), ← e))

module _ (text lent seen results : List ℕ) (rules : true ≡ all is_rule (rules_in text)) (noted : Noted (rules_in text) seen results) where
  twice_same : any (λ p. ltb 1 (given (rules_in text) p)) places ≡ any (λ p. ltb 1 (get_or seen p 0)) places
  twice_same = any_same (λ p. ltb 1 (given (rules_in text) p)) (λ p. ltb 1 (get_or seen p 0)) (λ p l. go p l (test (ltb 1 (given (rules_in text) p))))
    where
      go : (p : ℕ) → p < 18 → (ltb 1 (given (rules_in text) p) ≡ true) ⊎ (ltb 1 (given (rules_in text) p) ≡ false) → ltb 1 (given (rules_in text) p) ≡ ltb 1 (get_or seen p 0)
      go p l (inl t) = t ∙ sym (lt-ltb 1 (get_or seen p 0) (omega (arith, noted.seen_each p l, ltb-true 1 (given (rules_in text) p) t)))
      go p l (inr f) = f ∙ sym (le-ltb 1 (get_or seen p 0) (omega (arith, noted.seen_each p l, ltb-false 1 (given (rules_in text) p) f)))

  missing_same : any (λ p. eqb (given (rules_in text) p) 0) places ≡ any (λ p. eqb (get_or seen p 0) 0) places
  missing_same = any_same (λ p. eqb (given (rules_in text) p) 0) (λ p. eqb (get_or seen p 0) 0) (λ p l. go p l (test (eqb (given (rules_in text) p) 0)))
    where
      go : (p : ℕ) → p < 18 → (eqb (given (rules_in text) p) 0 ≡ true) ⊎ (eqb (given (rules_in text) p) 0 ≡ false) → eqb (given (rules_in text) p) 0 ≡ eqb (get_or seen p 0) 0
      go p l (inl t) = t ∙ sym (eq-eqb (get_or seen p 0) 0 (omega (arith, noted.seen_each p l, eqb-true (given (rules_in text) p) 0 t)))
      go p l (inr f) = f ∙ sym (ne_eqb (get_or seen p 0) 0 (λ e. eqb-false (given (rules_in text) p) 0 f (omega (arith, noted.seen_each p l))))

  judged : judge_text text ≡ first ((14, any (λ p. ltb 1 (get_or seen p 0)) places) ∷ (15, any (λ p. eqb (get_or seen p 0) 0) places) ∷ [])
  unfolding judge_rules
  judged = rw (some_wrong (rules_in text), ← rules, twice_same, missing_same)

  pub sheet_twice : any (λ p. ltb 1 (get_or seen p 0)) places ≡ true → (14 ≡ judge_text text) × (lent ≡ sheet_into text lent)
  unfolding sheet_into
  sheet_twice t = (rw (judged, t), rw (judged, t))

  module _ (once : any (λ p. ltb 1 (get_or seen p 0)) places ≡ false) where
    pub sheet_missing : any (λ p. eqb (get_or seen p 0) 0) places ≡ true → (15 ≡ judge_text text) × (lent ≡ sheet_into text lent)
    unfolding sheet_into
    sheet_missing t = (rw (judged, once, t), rw (judged, once, t))

    pub sheet_is : any (λ p. eqb (get_or seen p 0) 0) places ≡ false → (0 ≡ judge_text text) × (results ≡ sheet_into text lent)
    unfolding sheet_into
    sheet_is f = (
      rw (judged, once, f),
      rw (judged, once, f) (ext_get_or 0 results (bytes_given (rules_in text)) noted.results_long (λ p l. at p (omega (arith, noted.results_long)))),
    )
      where
        at : (p : ℕ) → p < 18 → get_or results p 0 ≡ get_or (bytes_given (rules_in text)) p 0
        at p l = noted.results_each p l ∙ sym (byte_at (rules_in text) p 0 l)
