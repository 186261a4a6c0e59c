-- The first k rows of a table, the newest first.
-- Assumes nothing.
use mathlib.Core.Path.{◌≡◌, refl, sym, ap, ◌∙◌}
use mathlib.Core.Logic.{◌⊎◌, inl, inr}
use mathlib.Core.Bool.{true, false}
use mathlib.Core.List.{List, ◌∷◌}
use Prim.Native.Nat.{ℕ, zero, suc, ◌+◌, ◌≤◌, ◌<◌}
use native.Mathlib.Nat.{not-suc-le-zero}
use native.Mathlib.Numerals.{add-one}
use native.Mathlib.Omega.{arith}
use lib.Dec.{eqb, ltb}
use lib.ListN.{length, get_or}
use borrow.Author.Tests.{ltb-true, ltb-false, ne_eqb, eqb-true, eqb-false}
use Rattle.model.specs.declared.Cap.{Cap}
use Rattle.model.specs.Lists.{any}
use Rattle.model.specs.Table.{empty_row, named}
use Rattle.table.specs.Rows.{name_at, before}
use Rattle.model.proofs.Offered.{All, test, clash, or_neither}

-- one more than those below m
pub last : (i m : ℕ) → i < m + 1 → (i < m) ⊎ (i ≡ m)
last i m h = go (test (ltb i m))
  where
    go : (ltb i m ≡ true) ⊎ (ltb i m ≡ false) → (i < m) ⊎ (i ≡ m)
    go (inl t) = inl (ltb-true i m t)
    go (inr f) = inr (omega (arith, ltb-false i m f))

-- what holds below i and at i holds below i + 1
pub extend : (P : ℕ → Type 0) (i : ℕ) → ((j : ℕ) → j < i → P j) → P i → (j : ℕ) → j < i + 1 → P j
extend P i h p j l = go (last j i l)
  where
    go : (j < i) ⊎ (j ≡ i) → P j
    go (inl s) = h j s
    go (inr e) = rw e p

pub before_suc : (T : List Cap) (k : ℕ) → before T (k + 1) ≡ get_or T k empty_row ∷ before T k
unfolding before
before_suc T k = rw (add-one, before)

pub length_before : (T : List Cap) (k : ℕ) → length (before T k) ≡ k
unfolding before
length_before T zero = refl
length_before T (suc k) = ap suc (length_before T k)

pub before_same : (T U : List Cap) (k : ℕ) → ((j : ℕ) → j < k → get_or T j empty_row ≡ get_or U j empty_row) → before T k ≡ before U k
unfolding before
before_same T U zero h = refl
before_same T U (suc k) h = let e = before_same T U k (λ j l. h j (omega arith)) in let f = h k (omega arith) in rw (e, f)

-- a fact of every row, by places
pub all_before : (P : Cap → Type 0) (T : List Cap) (k : ℕ) → ((i : ℕ) → i < k → P (get_or T i empty_row)) → All P (before T k)
unfolding before
all_before P T zero h = tt
all_before P T (suc k) h = (h k (omega arith), all_before P T k (λ i l. h i (omega arith)))

pub at_before : (P : Cap → Type 0) (T : List Cap) (k : ℕ) → All P (before T k) → (i : ℕ) → i < k → P (get_or T i empty_row)
unfolding before
at_before P T zero h i l = absurd (not-suc-le-zero l)
at_before P T (suc k) h i l = go (last i k (omega arith)) (at_before P T k h.1 i)
  where
    go : (i < k) ⊎ (i ≡ k) → (i < k → P (get_or T i empty_row)) → P (get_or T i empty_row)
    go (inl s) ih = ih s
    go (inr e) ih = rw e h.0

-- no row has the name
pub none_named : (T : List Cap) (k x : ℕ) → ((i : ℕ) → i < k → name_at T i ≡ x → ⊥) → any (named x) (before T k) ≡ false
unfolding before
none_named T zero x h = refl
none_named T (suc k) x h = rw (ne_eqb x (name_at T k) (λ (e : x ≡ name_at T k). h k (omega arith) (sym e))) (none_named T k x (λ i l. h i (omega arith)))

pub named_none : (T : List Cap) (k x : ℕ) → any (named x) (before T k) ≡ false → (i : ℕ) → i < k → name_at T i ≡ x → ⊥
unfolding before
named_none T zero x h i l = absurd (not-suc-le-zero l)
named_none T (suc k) x h i l = let p = or_neither (eqb x (name_at T k)) (any (named x) (before T k)) h in go p.0 (last i k (omega arith)) (named_none T k x p.1 i)
  where
    go : eqb x (name_at T k) ≡ false → (i < k) ⊎ (i ≡ k) → (i < k → name_at T i ≡ x → ⊥) → name_at T i ≡ x → ⊥
    go f (inl s) ih = ih s
    go f (inr e) ih = λ q. eqb-false x (name_at T k) f (sym q ∙ ap (name_at T) e)

-- a name that is there has a place
pub place_of : (T : List Cap) (k x : ℕ) → any (named x) (before T k) ≡ true → (q : ℕ) × ((q < k) × (name_at T q ≡ x))
unfolding before
place_of T zero x h = clash h refl
place_of T (suc k) x h = go (test (eqb x (name_at T k))) (place_of T k x)
  where
    go : (eqb x (name_at T k) ≡ true) ⊎ (eqb x (name_at T k) ≡ false) → (any (named x) (before T k) ≡ true → (q : ℕ) × ((q < k) × (name_at T q ≡ x))) → (q : ℕ) × ((q < suc k) × (name_at T q ≡ x))
    go (inl t) ih = (k, (omega arith, sym (eqb-true x (name_at T k) t)))
    go (inr f) ih = let p = ih (rw f at h) in (p.0, (omega (arith, p.1.0), p.1.1))

pub not_zero : (x : ℕ) → (x ≡ 0 → ⊥) → 0 < x
not_zero zero h = absurd (h refl)
not_zero (suc x) h = omega arith

-- neither equal nor below
pub above : {x y : ℕ} → (y ≡ x → ⊥) → x ≤ y → x < y
above {x} {y} n l = go (test (ltb x y))
  where
    go : (ltb x y ≡ true) ⊎ (ltb x y ≡ false) → x < y
    go (inl t) = ltb-true x y t
    go (inr f) = absurd (n (omega (arith, ltb-false x y f)))
