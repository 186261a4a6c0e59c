-- The lent table and its live rows; a row that is looked for.
-- Assumes nothing.
use mathlib.Core.Path.{◌≡◌, refl, sym, ap, ◌∙◌}
use mathlib.Core.Logic.{◌⊎◌, inl, inr}
use mathlib.Core.Bool.{Bool, true, false, not, cond}
use mathlib.Core.List.{List, [], ◌∷◌, reverse, reverse-reverse, append-nil}
use Prim.Native.Nat.{ℕ, ◌-◌, ◌≤◌}
use native.Mathlib.Omega.{arith}
use lib.ListN.{length, replicate, length-append, length-reverse, length-replicate}
use borrow.Author.Tests.{eqb-true}
use Rattle.model.specs.declared.Cap.{Cap}
use Rattle.model.specs.Lists.{cons_if, filter, any}
use Rattle.model.specs.Table.{empty_row, named, live_rows, lent_table, lookup}
use Rattle.model.proofs.Lists.{All, All_map, test, clash, or_neither, filter_all, filter_append, filter_none, filter_reverse}

-- rows that are no zero rows
abbrev pub Named : List Cap → Type 0
Named = All (λ c. named 0 c ≡ false)

pub live_lent : (n : ℕ) (rows : List Cap) → Named rows → live_rows (lent_table n rows) ≡ rows
unfolding live_rows lent_table
live_lent n rows h =
    rw (
      filter_append (λ c. not (named 0 c)) (reverse rows) (replicate (n - length rows) empty_row),
      filter_none (λ c. not (named 0 c)) empty_row refl (n - length rows),
      append-nil (filter (λ c. not (named 0 c)) (reverse rows)),
      filter_reverse (λ c. not (named 0 c)) rows,
      filter_all (λ c. not (named 0 c)) rows (All_map _ _ (λ c e. ap not e) rows h),
    )
    (reverse-reverse rows)

-- a table of zeros has no live row
pub no_rows : (n : ℕ) → live_rows (replicate n empty_row) ≡ []
unfolding live_rows
no_rows n = rw (filter_none (λ c. not (named 0 c)) empty_row refl n)

pub length_lent : (n : ℕ) (rows : List Cap) → length rows ≤ n → length (lent_table n rows) ≡ n
unfolding lent_table
length_lent n rows h = simp (length-append, length-reverse, length-replicate) (omega arith)

-- what holds of every row holds of the row that is found
pub lookup_found : (P : Cap → Type 0) (x : ℕ) (rows : List Cap) → any (named x) rows ≡ true → All P rows → P (lookup x rows)
unfolding lookup
lookup_found P x [] h a = clash h refl
lookup_found P x (c ∷ rows) h a = go (test (named x c)) (lookup_found P x rows)
  where
    go : (named x c ≡ true) ⊎ (named x c ≡ false) → (any (named x) rows ≡ true → All P rows → P (lookup x rows)) → P (cond (named x c) c (lookup x rows))
    go (inl t) ih = rw t a.0
    go (inr f) ih = rw f (ih (rw f at h) a.1)

pub lookup_named : (x : ℕ) (rows : List Cap) → any (named x) rows ≡ true → (lookup x rows).name.0 ≡ x
unfolding lookup
lookup_named x [] h = clash h refl
lookup_named x (c ∷ rows) h = go (test (named x c)) (lookup_named x rows)
  where
    go : (named x c ≡ true) ⊎ (named x c ≡ false) → (any (named x) rows ≡ true → (lookup x rows).name.0 ≡ x) → (cond (named x c) c (lookup x rows)).name.0 ≡ x
    go (inl t) ih = rw t (sym (eqb-true x c.name.0 t))
    go (inr f) ih = rw f (ih (rw f at h))

-- a name that passes a test of names is found among the rows that pass it
pub lookup_kept : (k : ℕ → Bool) (x : ℕ) → k x ≡ true → (rows : List Cap) → lookup x (filter (λ c. k c.name.0) rows) ≡ lookup x rows
unfolding lookup
lookup_kept k x h [] = refl
lookup_kept k x h (c ∷ rows) = go (test (named x c)) (test (k c.name.0)) (lookup_kept k x h rows)
  where
    kept : List Cap
    kept = filter (λ c. k c.name.0) rows

    go : (named x c ≡ true) ⊎ (named x c ≡ false) → (k c.name.0 ≡ true) ⊎ (k c.name.0 ≡ false) → lookup x kept ≡ lookup x rows → lookup x (cons_if (k c.name.0) c kept) ≡ cond (named x c) c (lookup x rows)
    go (inl e) (inl t) ih = rw (t, e)
    go (inr e) (inl t) ih = rw (t, e) ih
    go (inl e) (inr f) ih = clash h (ap k (eqb-true x c.name.0 e) ∙ f)
    go (inr e) (inr f) ih = rw (f, e) ih

-- what is not found is no row
pub lookup_none : (x : ℕ) (rows : List Cap) → any (named x) rows ≡ false → lookup x rows ≡ empty_row
unfolding lookup
lookup_none x [] h = refl
lookup_none x (c ∷ rows) h = let p = or_neither (named x c) (any (named x) rows) h in rw p.0 (lookup_none x rows p.1)
