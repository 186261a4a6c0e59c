-- The first row with name 0, and search by halving among rows whose names rise.
-- Assumes nothing.
use mathlib.Core.Path.{◌≡◌}
use mathlib.Core.Logic.{◌⊎◌, inl, inr}
use mathlib.Core.List.{List, []}
use mathlib.Core.Bool.{Bool, true, false, cond}
use Prim.Native.Nat.{ℕ, ◌+◌, ◌-◌, ◌*◌, ◌/◌, ◌≤◌, ◌<◌}
use native.Mathlib.Omega.{arith}
use lib.Dec.{eqb, ltb}
use lib.ListN.{length}
use borrow.Author.Tests.{eqb-true, eqb-false, ltb-true, ltb-false}
use Rattle.std.specs.List.{position, position_or_len}
use Rattle.std.specs.Option.{unwrap_or}
use Rattle.std.proofs.lemmas.List.Sums.{fails_before_first, passes_at_first}
use Rattle.model.specs.declared.Cap.{Cap}
use Rattle.model.specs.Lists.{any}
use Rattle.model.specs.Table.{named}
use Rattle.table.specs.Words.{cap_of, rows_in}
use Rattle.table.specs.Rows.{name_at, before, Rise, Front, Found}
use Rattle.model.proofs.Offered.{test, clash}
use Rattle.table.proofs.Laws.Prefix.{none_named, not_zero}
use Rattle.table.proofs.Laws.Words.{in_at}

-- ---- the first row with name 0

abbrev pub nameless : List ℕ → Bool
nameless w = eqb (cap_of w).name.0 0

pub front_of : (ws : List (List ℕ)) → Front (rows_in ws) (length ws) (unwrap_or (position nameless ws) (length ws))
front_of ws = go (test (ltb n (length ws)))
  where
    n : ℕ
    n = position_or_len nameless ws

    named_before : (j : ℕ) → j < n → 0 < name_at (rows_in ws) j
    named_before j l = rw (name_at, in_at ws j) (not_zero _ (eqb-false _ 0 (fails_before_first nameless ws j [] l)))

    go : (ltb n (length ws) ≡ true) ⊎ (ltb n (length ws) ≡ false) → Front (rows_in ws) (length ws) (unwrap_or (position nameless ws) (length ws))
    go (inl t) = rw t (record { fits = omega (arith, ltb-true n (length ws) t); filled = named_before; stop = λ l. rw (name_at, in_at ws n) (eqb-true _ 0 (passes_at_first nameless ws [] l)) })
    go (inr f) = rw f (record { fits = omega arith; filled = λ j l. named_before j (omega (arith, ltb-false n (length ws) f)); stop = λ l. absurd (omega arith) })

-- ---- a name among names that rise

-- the name x, if it is there, is at one of `size` places from `base` on
pub record Halving (T : List Cap) (k x base size : ℕ) : Type 0 where
  pub fits : base + size ≤ k
  pub some : 1 ≤ size
  pub low : 0 < base → name_at T base ≤ x
  pub high : (i : ℕ) → base + size ≤ i → i < k → x < name_at T i

-- 1, or 0 where n is above x
pub further : (x n : ℕ) → x < 4294967296 → (4294967296 + x - n) / 4294967296 ≡ cond (ltb x n) 0 1
further x n l = go (test (ltb x n))
  where
    go : (ltb x n ≡ true) ⊎ (ltb x n ≡ false) → (4294967296 + x - n) / 4294967296 ≡ cond (ltb x n) 0 1
    go (inl t) = rw t (omega (arith, ltb-true x n t))
    go (inr f) = rw f (omega (arith, ltb-false x n f))

pub times : (base half : ℕ) (b : Bool) → base + half * cond b 0 1 ≡ cond b base (base + half)
times base half true = omega arith
times base half false = omega arith

pub times_le : (half : ℕ) (b : Bool) → half * cond b 0 1 ≤ half
times_le half true = omega arith
times_le half false = omega arith

module _ (T : List Cap) (k x : ℕ) (r : Rise T k) where
  pub halving_all : 1 ≤ k → Halving T k x 0 k
  halving_all l = record { fits = omega arith; some = l; low = λ b. absurd (omega arith); high = λ i l m. absurd (omega arith) }

  -- names rise from a place on
  from_on : (m i : ℕ) → m ≤ i → i < k → name_at T m ≤ name_at T i
  from_on m i l b = go (test (ltb m i))
    where
      go : (ltb m i ≡ true) ⊎ (ltb m i ≡ false) → name_at T m ≤ name_at T i
      go (inl t) = let q : name_at T m < name_at T i = r.sorted m i (ltb-true m i t) b in omega arith
      go (inr f) = let e : i ≡ m = omega (arith, ltb-false m i f) in rw e (omega arith)

  -- the middle place, unless its name is above x
  pub halving_more : (base size : ℕ) → Halving T k x base size → 1 < size
      → Halving T k x (cond (ltb x (name_at T (base + size / 2))) base (base + size / 2)) (size - size / 2)
  halving_more base size h l = go (test (ltb x (name_at T (base + size / 2))))
    where
      go : (ltb x (name_at T (base + size / 2)) ≡ true) ⊎ (ltb x (name_at T (base + size / 2)) ≡ false)
          → Halving T k x (cond (ltb x (name_at T (base + size / 2))) base (base + size / 2)) (size - size / 2)
      go (inl t) = rw t (record {
        fits = omega (arith, h.fits);
        some = omega arith;
        low = h.low;
        high = λ i b c. let q : name_at T (base + size / 2) ≤ name_at T i = from_on (base + size / 2) i (omega arith) c in omega (arith, ltb-true x (name_at T (base + size / 2)) t);
      })
      go (inr f) = rw f (record {
        fits = omega (arith, h.fits);
        some = omega arith;
        low = λ b. ltb-false x (name_at T (base + size / 2)) f;
        high = λ i b c. h.high i (omega arith) c;
      })

  -- the one place that is left has another name
  pub halving_none : (base size : ℕ) → Halving T k x base size → size ≤ 1 → (name_at T base ≡ x → ⊥) → Found T k x k
  halving_none base size h one other = record { fits = omega arith; here = λ b. absurd (omega arith); gone = λ b. none_named T k x (λ i c e. no i c e (test (ltb i base)) (test (ltb base i))) }
    where
      no : (i : ℕ) → i < k → name_at T i ≡ x → (ltb i base ≡ true) ⊎ (ltb i base ≡ false) → (ltb base i ≡ true) ⊎ (ltb base i ≡ false) → ⊥
      no i c e (inl t) s =
          let l : i < base = ltb-true i base t in
          let q : name_at T i < name_at T base = r.sorted i base l (omega (arith, h.fits, h.some)) in
          omega (arith, h.low (omega arith))
      no i c e (inr f) (inl t) = let q : x < name_at T i = h.high i (omega (arith, ltb-true base i t, h.some)) c in omega arith
      no i c e (inr f) (inr g) = let q : i ≡ base = omega (arith, ltb-false i base f, ltb-false base i g) in other (rw (← q) e)

  pub found_at : (m : ℕ) → m < k → name_at T m ≡ x → Found T k x m
  found_at m l e = record { fits = omega arith; here = λ b. e; gone = λ b. absurd (omega arith) }

-- no name stands among no rows
pub found_empty : (T : List Cap) (x : ℕ) → Found T 0 x 0
found_empty T x = record { fits = omega arith; here = λ b. absurd (omega arith); gone = λ b. none_named T 0 x (λ i c e. omega arith) }

-- no row is named 0
pub found_zero : (T : List Cap) (k : ℕ) → Rise T k → Found T k 0 k
found_zero T k r = record { fits = omega arith; here = λ b. absurd (omega arith); gone = λ b. none_named T k 0 (λ i c e. let q : 0 < name_at T i = r.positive i c in omega arith) }

-- a name that is there has its place below k
pub found_there : (T : List Cap) (k x q : ℕ) → any (named x) (before T k) ≡ true → Found T k x q → q < k
found_there T k x q h f = go (test (ltb q k))
  where
    go : (ltb q k ≡ true) ⊎ (ltb q k ≡ false) → q < k
    go (inl t) = ltb-true q k t
    go (inr e) = clash h (f.gone (ltb-false q k e))
