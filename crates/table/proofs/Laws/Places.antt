-- Where the parents of the first rows stand.
-- Assumes nothing.
use mathlib.Core.Path.{◌≡◌, sym, ◌∙◌}
use mathlib.Core.Logic.{◌⊎◌, inl, inr}
use mathlib.Core.List.{List}
use Prim.Native.Nat.{ℕ, ◌+◌, ◌≤◌, ◌<◌}
use native.Mathlib.Nat.{not-suc-le-zero}
use native.Mathlib.Omega.{arith}
use lib.ListN.{length, get_or, set, length-set}
use lib.Seq.{get_or-set_same, get_or-set_other}
use Rattle.model.specs.declared.Cap.{Cap}
use Rattle.table.specs.Rows.{name_at, parent_at, Found, Places}
use Rattle.table.proofs.Laws.Prefix.{last, none_named, named_none}

-- two tables have the same names and parents in their first k rows
abbrev pub Alike : List Cap → List Cap → ℕ → Type 0
Alike T U k = (j : ℕ) → j < k → (name_at U j ≡ name_at T j) × (parent_at U j ≡ parent_at T j)

pub found_same : (T U : List Cap) (k x r : ℕ) → ((j : ℕ) → j < k → name_at U j ≡ name_at T j) → Found T k x r → Found U k x r
found_same T U k x r s f = record {
  fits = f.fits;
  here = λ l. s r l ∙ f.here l;
  gone = λ l. none_named U k x (λ i b e. named_none T k x (f.gone l) i b (sym (s i b) ∙ e));
}

pub places_same : (T U : List Cap) (k : ℕ) (places : List ℕ) → Alike T U k → Places T k places → Places U k places
places_same T U k places s p = record {
  long = p.long;
  each = λ i l. let e : parent_at U i ≡ parent_at T i = (s i l).1 in rw e (found_same T U i (parent_at T i) (get_or places i 0) (λ j b. (s j (omega arith)).0) (p.each i l));
}

pub places_none : (T : List Cap) (places : List ℕ) → length places ≡ 1024 → Places T 0 places
places_none T places h = record { long = h; each = λ i l. absurd (not-suc-le-zero l) }

-- one row more
pub places_more : (T U : List Cap) (k q : ℕ) (places : List ℕ) → k < 1024 → Alike T U k → Found T k (parent_at U k) q → Places T k places → Places U (k + 1) (set places k q)
places_more T U k q places l s f p = record { long = length-set places k q ∙ p.long; each = λ i m. go i (last i k m) }
  where
    old : Places U k places
    old = places_same T U k places s p

    go : (i : ℕ) → (i < k) ⊎ (i ≡ k) → Found U i (parent_at U i) (get_or (set places k q) i 0)
    go i (inl b) = rw (get_or-set_other places k i q 0 (λ (e : i ≡ k). omega arith)) (old.each i b)
    go i (inr e) = let g : get_or (set places k q) k 0 ≡ q = get_or-set_same places k q 0 (omega (arith, p.long)) in rw (e, g) (found_same T U k (parent_at U k) q (λ j c. (s j c).0) f)

-- what stands behind them is no matter
pub places_past : (T : List Cap) (k j v : ℕ) (places : List ℕ) → k ≤ j → Places T k places → Places T k (set places j v)
places_past T k j v places l p = record {
  long = length-set places j v ∙ p.long;
  each = λ i m. rw (get_or-set_other places j i v 0 (λ (e : i ≡ j). omega arith)) (p.each i m);
}
