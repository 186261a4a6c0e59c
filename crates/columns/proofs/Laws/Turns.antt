-- For the loops: counts so far and what is left, and entries stored so far and what is left.
-- Assumes nothing.
use mathlib.Core.Path.{◌≡◌, refl, sym, ap, ◌∙◌}
use mathlib.Core.Logic.{◌⊎◌, inl, inr}
use mathlib.Core.Bool.{Bool, true, false, cond, ◌&&◌}
use mathlib.Core.List.{List, [], ◌∷◌, ◌++◌}
use Prim.Native.Nat.{ℕ, suc, ◌+◌, ◌≤◌, ◌<◌}
use native.Mathlib.Numerals.{add-one}
use native.Mathlib.Nat.{zero-add, add-zero}
use native.Mathlib.Omega.{arith}
use lib.Dec.{ltb}
use lib.ListN.{length, get_or, drop, set, length-set, drop_of_length-le}
use lib.Seq.{sets, sets-eq, set-set, drop-cons}
use borrow.Author.Tests.{lt-ltb, ltb-true}
use Rattle.model.proofs.Offered.{test}
use Rattle.model.specs.Lists.{cons_if, all}
use Rattle.text.specs.Result.{value, refused}
use Rattle.columns.specs.declared.counts.Counts.{Counts}
use Rattle.columns.specs.Columns.{has_name, has_span, has_right}
use Rattle.columns.specs.Lent.{over}
use Rattle.columns.specs.Walk.{count_if, none, with_kind, counts_of}

-- what is left of a list from an index on
pub next : {A : Type 0} (l : List A) (d : A) (i : ℕ) → i < length l → drop i l ≡ get_or l i d ∷ drop (i + 1) l
next l d i h = rw (add-one, drop-cons l i d)

-- and what a test says of all of it
pub all_next : {A : Type 0} (p : A → Bool) (l : List A) (d : A) (i : ℕ) → i < length l → all p (drop i l) ≡ p (get_or l i d) && all p (drop (i + 1) l)
all_next p l d i h = ap (all p) (next l d i h)

pub all_end : {A : Type 0} (p : A → Bool) (l : List A) (i : ℕ) → length l ≤ i → all p (drop i l) ≡ true
all_end p l i h = rw (drop_of_length-le l h)

-- what it says of those so far, and of the rest
pub all_more : {A : Type 0} (p : A → Bool) (l : List A) (d : A) (i : ℕ) (b : Bool) → i < length l → (b && p (get_or l i d)) && all p (drop (i + 1) l) ≡ b && all p (drop i l)
all_more p l d i true h = sym (all_next p l d i h)
all_more p l d i false h = refl

pub all_found : {A : Type 0} (p : A → Bool) (l : List A) (i : ℕ) (b : Bool) → length l ≤ i → b ≡ b && all p (drop i l)
all_found p l i true h = sym (all_end p l i h)
all_found p l i false h = refl

-- ---- counts

abbrev pub counts : ℕ → ℕ → ℕ → Counts
counts names spans rights = record { names = names; spans = spans; rights = rights }

-- no count is above a number
pub record Small (c : Counts) (i : ℕ) : Type 0 where
  pub names : c.names ≤ i
  pub spans : c.spans ≤ i
  pub rights : c.rights ≤ i

pub count_small : (b : Bool) {n i : ℕ} → n ≤ i → count_if b n ≤ i + 1
count_small true h = omega arith
count_small false h = omega arith

pub small_next : (k : ℕ) {c : Counts} {i : ℕ} → Small c i → Small (with_kind k c) (i + 1)
small_next k s =
    record {
      names = count_small (has_name k) s.names;
      spans = count_small (has_span k) s.spans;
      rights = count_small (has_right k) s.rights;
    }

pub small_with : (k : ℕ) {c d : Counts} {i : ℕ} → Small c i → d ≡ with_kind k c → Small d (i + 1)
small_with k s e = rw e (small_next k s)

counts_small : (kinds : List ℕ) → Small (counts_of kinds) (length kinds)
unfolding counts_of
counts_small [] = record { names = omega arith; spans = omega arith; rights = omega arith }
counts_small (k ∷ kinds) = rw (← add-one (length kinds)) (small_next k (counts_small kinds))

-- kinds have no more entries than they are
pub kinds_small : (kinds : List ℕ) {n : ℕ} {c : Counts} → length kinds ≤ n → c ≡ counts_of kinds → Small c n
kinds_small kinds l e =
    let s = counts_small kinds in
    rw e (record { names = omega (arith, s.names); spans = omega (arith, s.spans); rights = omega (arith, s.rights) })

-- counts of two lists of kinds together
abbrev pub plus : Counts → Counts → Counts
plus a b = record { names = a.names + b.names; spans = a.spans + b.spans; rights = a.rights + b.rights }

pub plus_none : (c : Counts) → plus none c ≡ c
plus_none c = λ j. record { names = zero-add c.names j; spans = zero-add c.spans j; rights = zero-add c.rights j }

pub plus_end : (c : Counts) → plus c none ≡ c
plus_end c = λ j. record { names = add-zero c.names j; spans = add-zero c.spans j; rights = add-zero c.rights j }

-- one kind is counted on either side
pub plus_next : (k : ℕ) (a b : Counts) → plus (with_kind k a) b ≡ plus a (with_kind k b)
plus_next k a b = λ j. record { names = one (has_name k) a.names b.names j; spans = one (has_span k) a.spans b.spans j; rights = one (has_right k) a.rights b.rights j }
  where
    one : (b : Bool) (n m : ℕ) → count_if b n + m ≡ n + count_if b m
    one true n m = omega arith
    one false n m = refl

-- kinds so far, and what is left of them
module _ (kinds : List ℕ) where
  pub kinds_none : plus none (counts_of kinds) ≡ counts_of kinds
  kinds_none = plus_none (counts_of kinds)

  pub kinds_more : (i : ℕ) (c : Counts) → i < length kinds → plus (with_kind (get_or kinds i 0) c) (counts_of (drop (i + 1) kinds)) ≡ plus c (counts_of (drop i kinds))
  unfolding counts_of
  kinds_more i c h = plus_next (get_or kinds i 0) c (counts_of (drop (i + 1) kinds)) ∙ ap (λ (l : List ℕ). plus c (counts_of l)) (sym (next kinds 0 i h))

  pub kinds_all : (i : ℕ) (c : Counts) → length kinds ≤ i → c ≡ plus c (counts_of (drop i kinds))
  unfolding counts_of
  kinds_all i c h = rw (drop_of_length-le kinds h) (sym (plus_end c))

-- what the count of a list says, where a test of the list holds and where it does not
pub counted : {A : Type 0} (b : Bool) {c x : A} → value c ≡ cond b (value x) (refused 2) → (b ≡ true) × (c ≡ x)
counted true h = (refl, cc)
counted false h = absurd (let z : ◌≡◌ {A = ℕ} 0 1 = cc in omega arith)

pub uncounted : {A : Type 0} (b : Bool) (x : A) → refused 2 ≡ cond b (value x) (refused 2) → b ≡ false
uncounted true x h = absurd (let z : ◌≡◌ {A = ℕ} 0 1 = cc in omega arith)
uncounted false x h = refl

-- ---- entries

-- entries of a lent list: from `at` on those that are left are to be stored, so that all of them stand in front
pub record Storing {A : Type 0} (out lent : List A) (at : ℕ) (left whole : List A) : Type 0 where
  pub size : length lent ≡ length out
  pub total : at + length left ≡ length whole
  pub stored : sets lent at left ≡ sets out 0 whole

module _ {A : Type 0} {out : List A} where
  pub begin : (whole : List A) → Storing out out 0 whole whole
  begin whole = record { size = refl; total = zero-add (length whole); stored = refl }

  module _ {lent : List A} {at : ℕ} {whole : List A} where
    -- an entry is stored
    pub store : {x : A} {left : List A} → Storing out lent at (x ∷ left) whole → Storing out (set lent at x) (at + 1) left whole
    store {x} {left} s =
        record {
          size = length-set lent at x ∙ s.size;
          total = omega (arith, s.total);
          stored = ap (λ (k : ℕ). sets (set lent at x) k left) (add-one at) ∙ s.stored;
        }

    -- and there is room for it
    pub inside : {x : A} {left : List A} → Storing out lent at (x ∷ left) whole → length whole ≤ length out → at < length lent
    inside s l = omega (arith, s.total, s.size)

    -- all are stored
    pub finish : Storing out lent at [] whole → length whole ≤ length out → lent ≡ over whole out
    finish s l = s.stored ∙ sets-eq whole out 0 (omega arith) ∙ ap (λ (k : ℕ). whole ++ drop k out) (zero-add (length whole))

  -- A value is put where an entry is left, whether it is the next one or none: the next is put over it.
  module _ (x : A) (left : List A) {lent : List A} {at : ℕ} {whole : List A} where
    put_entry : (used : ℕ) → used ≡ length whole → Storing out lent at (x ∷ left) whole → Storing out (cond (ltb at used) (set lent at x) lent) (at + 1) left whole
    put_entry used u s = rw (lt-ltb at used (omega (arith, s.total))) (store s)

    put_over : Storing out lent at left whole → at < length whole → Storing out (set lent at x) at left whole
    put_over = go left
      where
        go : (left : List A) → Storing out lent at left whole → at < length whole → Storing out (set lent at x) at left whole
        go [] s l = absurd (omega (arith, s.total))
        go (y ∷ left) s l = record { size = length-set lent at x ∙ s.size; total = s.total; stored = ap (λ (m : List A). sets m (suc at) left) (set-set lent at x y) ∙ s.stored }

    put_none : (used : ℕ) → used ≡ length whole → Storing out lent at left whole → Storing out (cond (ltb at used) (set lent at x) lent) at left whole
    put_none used u s = go (test (ltb at used))
      where
        go : (ltb at used ≡ true) ⊎ (ltb at used ≡ false) → Storing out (cond (ltb at used) (set lent at x) lent) at left whole
        go (inl t) = rw t (put_over s (omega (arith, ltb-true at used t)))
        go (inr f) = rw f s

    pub put_next : (b : Bool) {l : List A} (used : ℕ) → used ≡ length whole → l ≡ cons_if b x left → Storing out lent at l whole → Storing out (cond (ltb at used) (set lent at x) lent) (count_if b at) left whole
    put_next true used u e s = put_entry used u (rw e at s)
    put_next false used u e s = put_none used u (rw e at s)
