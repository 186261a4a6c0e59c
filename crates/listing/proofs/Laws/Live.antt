-- The live rows of a table in order, by rising name: each row's parent is 0 or an earlier row.
-- Assumes nothing.
use mathlib.Core.Path.{◌≡◌, refl, sym, ap, ◌∙◌}
use mathlib.Core.Logic.{◌⊎◌, inl, inr, ⊎_elim}
use mathlib.Core.Bool.{Bool, true, false, not, ◌||◌}
use mathlib.Core.List.{List, [], ◌∷◌, ◌++◌, reverse, reverse-cons, reverse-reverse}
use Prim.Native.Nat.{ℕ, zero, suc, ◌≤◌, ◌<◌}
use native.Mathlib.Omega.{arith}
use native.Mathlib.Nat.{not-suc-le-zero, le_of_suc-le-suc}
use lib.Dec.{eqb, ltb}
use lib.ListN.{length}
use borrow.Author.Tests.{eqb-true, eqb-false, ltb-true, ltb-false, not-true}
use Rattle.model.specs.declared.Cap.{Cap}
use Rattle.model.specs.Lists.{any, all}
use Rattle.model.specs.Table.{named, rows_in_order}
use Rattle.table.specs.Words.{rows_in}
use Rattle.listing.specs.First.{first_rows}
use Rattle.table.specs.Rows.{name_at, parent_at, Rise}
use Rattle.listing.proofs.Laws.First.{length_first, first_at}
use Rattle.model.proofs.Offered.{All, All_map, All_reverse, test, clash, and_both, rises, place, parent_in_order_row_fits_parent, Rises}
use Rattle.listing.specs.Links.{Live}
use Rattle.listing.proofs.Laws.Sorted.{Above, Member, here, there, Ordered, InOrder}

-- ---- from the rules' order to the table's

any_append : (p : Cap → Bool) (a b : List Cap) → any p (a ++ b) ≡ any p a || any p b
any_append p [] b = refl
any_append p (x ∷ a) b = go (p x) (any_append p a b)
  where
    go : (t : Bool) → any p (a ++ b) ≡ any p a || any p b → (t || any p (a ++ b)) ≡ ((t || any p a) || any p b)
    go true e = refl
    go false e = e

any_reverse : (p : Cap → Bool) (l : List Cap) → any p l ≡ true → any p (reverse l) ≡ true
any_reverse p [] h = h
any_reverse p (x ∷ l) h = rw (reverse-cons x l, any_append p (reverse l) (x ∷ [])) (go (p x) (any p (reverse l)) h (any_reverse p l))
  where
    go : (t u : Bool) → (t || any p l) ≡ true → (any p l ≡ true → u ≡ true) → (u || (t || false)) ≡ true
    go true true h r = refl
    go true false h r = refl
    go false true h r = refl
    go false false h r = r h

above_snoc : (n : ℕ) (xs : List Cap) (c : Cap) → Above n xs → n < c.name.0 → Above n (xs ++ (c ∷ []))
above_snoc n [] c a h = (h, tt)
above_snoc n (x ∷ xs) c a h = (a.0, above_snoc n xs c a.1 h)

ordered_snoc : (os : List ℕ) (xs : List Cap) (c : Cap) → Ordered os xs → All (λ x. x.name.0 < c.name.0) xs
    → Member c.parent.0 os ⊎ (any (named c.parent.0) xs ≡ true) → Ordered os (xs ++ (c ∷ []))
ordered_snoc os [] c h low (inl m) = (m, tt, tt)
ordered_snoc os [] c h low (inr e) = clash e refl
ordered_snoc os (x ∷ xs) c h low p =
    (h.0, above_snoc x.name.0 xs c h.1 low.0, ordered_snoc (x.name.0 ∷ os) xs c h.2 low.1 (⊎_elim (λ m. inl (there m)) (λ e. go (test (named c.parent.0 x)) e) p))
  where
    is : (p n : ℕ) → p ≡ n → Member p (n ∷ os)
    is p n e = rw e here

    go : (named c.parent.0 x ≡ true) ⊎ (named c.parent.0 x ≡ false) → any (named c.parent.0) (x ∷ xs) ≡ true → Member c.parent.0 (x.name.0 ∷ os) ⊎ (any (named c.parent.0) xs ≡ true)
    go (inl t) e = inl (is c.parent.0 x.name.0 (eqb-true c.parent.0 x.name.0 t))
    go (inr f) e = inr (rw f at e)

names_below : (bound : ℕ) (rows : List Cap) → rows_in_order bound rows ≡ true → All (λ x. x.name.0 < bound) rows
names_below bound [] h = tt
names_below bound (c ∷ rows) h =
    let r = rises bound c rows h in
    (r.below_bound, All_map _ _ (λ x l. omega (arith, r.below_bound)) rows (names_below c.name.0 rows r.rest))

ordered_reverse : (bound : ℕ) (rows : List Cap) → rows_in_order bound rows ≡ true → Ordered (0 ∷ []) (reverse rows)
ordered_reverse bound [] h = tt
ordered_reverse bound (c ∷ rows) h =
    let r = rises bound c rows h in
    rw (reverse-cons c rows)
    (ordered_snoc (0 ∷ []) (reverse rows) c (ordered_reverse c.name.0 rows r.rest) (All_reverse _ rows (names_below c.name.0 rows r.rest)) (go (test (eqb c.parent.0 0)) r))
  where
    root : (p : ℕ) → p ≡ 0 → Member p (0 ∷ [])
    root p e = rw e here

    go : (eqb c.parent.0 0 ≡ true) ⊎ (eqb c.parent.0 0 ≡ false) → Rises bound c rows → Member c.parent.0 (0 ∷ []) ⊎ (any (named c.parent.0) (reverse rows) ≡ true)
    go (inl t) r = inl (root c.parent.0 (eqb-true c.parent.0 0 t))
    go (inr f) r = inr (any_reverse (named c.parent.0) rows (parent_in_order_row_fits_parent c rows f (place c rows r.in_place).does_hang).0)

above_zero : (rows : List Cap) → all (λ c. not (named 0 c)) rows ≡ true → Above 0 rows
above_zero [] h = tt
above_zero (c ∷ rows) h =
    let p = and_both (not (named 0 c)) (all (λ c. not (named 0 c)) rows) h in
    (positive c.name.0 (eqb-false 0 c.name.0 (not-true (named 0 c) p.0)), above_zero rows p.1)
  where
    positive : (x : ℕ) → (0 ≡ x → ⊥) → 0 < x
    positive zero n = absurd (n refl)
    positive (suc x) n = omega arith

pub live_order : {rows : List Cap} → Live rows → InOrder rows
live_order {rows} h = (above_zero rows h.names, rw (reverse-reverse rows) at (ordered_reverse 1000001 (reverse rows) h.rises))

-- ---- by place

above_at : (n : ℕ) (rows : List Cap) → Above n rows → (j : ℕ) → j < length rows → n < name_at rows j
above_at n [] h j l = absurd (not-suc-le-zero l)
above_at n (c ∷ rows) h zero l = h.0
above_at n (c ∷ rows) h (suc j) l = above_at n rows h.1 j (le_of_suc-le-suc l)

ordered_rise : (os : List ℕ) (rows : List Cap) → Ordered os rows → (i j : ℕ) → i < j → j < length rows → name_at rows i < name_at rows j
ordered_rise os [] h i j lt l = absurd (not-suc-le-zero l)
ordered_rise os (c ∷ rows) h i zero lt l = absurd (not-suc-le-zero lt)
ordered_rise os (c ∷ rows) h zero (suc j) lt l = above_at c.name.0 rows h.1 j (le_of_suc-le-suc l)
ordered_rise os (c ∷ rows) h (suc i) (suc j) lt l = ordered_rise (c.name.0 ∷ os) rows h.2 i j (le_of_suc-le-suc lt) (le_of_suc-le-suc l)

-- the first rows of a table
pub rise_in : (ws : List (List ℕ)) (n : ℕ) → n ≤ length ws → InOrder (first_rows ws n) → Rise (rows_in ws) n
rise_in ws n inside h =
    let long = length_first ws n inside in
    let name : (i : ℕ) → i < n → name_at (first_rows ws n) i ≡ name_at (rows_in ws) i = λ i l. ap (λ (c : Cap). c.name.0) (first_at ws n i l) in
    record {
      positive = λ i l. omega (arith, name i l, above_at 0 (first_rows ws n) h.0 i (omega arith));
      sorted = λ i j lt l. omega (arith, name i (omega arith), name j l, ordered_rise (0 ∷ []) (first_rows ws n) h.1 i j lt (omega arith));
    }

pub name_above : (rows : List Cap) → InOrder rows → (j : ℕ) → j < length rows → 0 < name_at rows j
name_above rows h = above_at 0 rows h.0

-- the row of a parent
abbrev pub Earlier : List Cap → ℕ → ℕ → Type 0
Earlier rows p i = (j : ℕ) × ((j < i) × (name_at rows j ≡ p))

member_cases : (p n : ℕ) (os : List ℕ) → Member p (n ∷ os) → (p ≡ n) ⊎ Member p os
member_cases p n os here = inl refl
member_cases p n os (there m) = inr m

nobody : {p : ℕ} {os : List ℕ} → Member p os → os ≡ [] → ⊥
nobody here e = let z : ◌≡◌ {A = ℕ} 0 1 = cc in omega arith
nobody (there m) e = let z : ◌≡◌ {A = ℕ} 0 1 = cc in omega arith

parent_known : (os : List ℕ) (rows : List Cap) → Ordered os rows → (i : ℕ) → i < length rows → Member (parent_at rows i) os ⊎ Earlier rows (parent_at rows i) i
parent_known os [] h i l = absurd (not-suc-le-zero l)
parent_known os (c ∷ rows) h zero l = inl h.0
parent_known os (c ∷ rows) h (suc i) l =
    ⊎_elim (λ m. ⊎_elim (λ e. inr (0, (omega arith, sym e))) (λ o. inl o) (member_cases (parent_at rows i) c.name.0 os m)) (λ e. inr (suc e.0, (omega arith, e.1.1)))
    (parent_known (c.name.0 ∷ os) rows h.2 i (le_of_suc-le-suc l))

-- a row whose parent is not 0 has its parent in an earlier row
pub parent_earlier : (rows : List Cap) → InOrder rows → (i : ℕ) → i < length rows → (parent_at rows i ≡ 0 → ⊥) → Earlier rows (parent_at rows i) i
parent_earlier rows h i l some = ⊎_elim (λ m. absurd (none m)) (λ e. e) (parent_known (0 ∷ []) rows h.1 i l)
  where
    none : Member (parent_at rows i) (0 ∷ []) → ⊥
    none m = ⊎_elim some (λ o. nobody o refl) (member_cases (parent_at rows i) 0 [] m)

-- names differ from row to row
pub one_row : (rows : List Cap) → InOrder rows → (i j : ℕ) → i < length rows → j < length rows → name_at rows i ≡ name_at rows j → i ≡ j
one_row rows h i j hi hj e = go (ltb i j) (ltb j i) refl refl
  where
    go : (s t : Bool) → ltb i j ≡ s → ltb j i ≡ t → i ≡ j
    go true t p q = absurd (omega (arith, ordered_rise (0 ∷ []) rows h.1 i j (ltb-true i j p) hj))
    go false true p q = absurd (omega (arith, ordered_rise (0 ∷ []) rows h.1 j i (ltb-true j i q) hi))
    go false false p q = omega (arith, ltb-false i j p, ltb-false j i q)

-- a row stands behind its parent's
pub parent_before : (rows : List Cap) → InOrder rows → (i j : ℕ) → i < length rows → j < length rows → parent_at rows i ≡ name_at rows j → j < i
parent_before rows h i j hi hj e =
    let up = above_at 0 rows h.0 j hj in
    let k = parent_earlier rows h i hi (λ z. omega (arith, up)) in
    omega (arith, one_row rows h k.0 j (omega (arith, k.1.0)) hj (k.1.1 ∙ e))
