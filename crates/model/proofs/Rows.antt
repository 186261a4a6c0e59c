-- The rules in the table's own order, row by row, for the proofs of the code: what an event does to the lent table,
-- and how a strike or a subtree is found by one pass from the first row to the last.
-- Assumes nothing.
use mathlib.Core.Path.{◌≡◌, refl, sym, ap, ap₂, ◌∙◌}
use mathlib.Core.Logic.{◌⊎◌, inl, inr}
use mathlib.Core.Bool.{Bool, true, false, not, or-true, ◌&&◌, ◌||◌}
use mathlib.Core.List.{List, [], ◌∷◌, ◌++◌, map, map-append, reverse, reverse-cons, reverse-reverse, append_assoc}
use Prim.Native.Nat.{ℕ, zero, suc, ◌-◌, ◌<◌, ◌≤◌}
use native.Mathlib.Omega.{arith}
use lib.Dec.{eqb}
use lib.ListN.{length, get_or, set, replicate, length-map, length-reverse}
use lib.Seq.{set_at}
use native.Mathlib.Nat.{suc-sub-suc, sub-zero, not-suc-le-zero, le_of_suc-le-suc}
use borrow.Author.Tests.{eqb-true}
use Rattle.model.specs.declared.Span.{Span}
use Rattle.model.specs.declared.Cap.{Cap}
use Rattle.model.specs.declared.Effect.{Effect}
use Rattle.model.specs.declared.Sheet.{Sheet}
use Rattle.model.specs.Lists.{cons_if, filter, any, all}
use Rattle.model.specs.declared.Access.{Access}
use Rattle.model.specs.Derivation.{ancestry, in_subtree, on_ancestry}
use Rattle.model.specs.Strike.{strike, reached, struck}
use Rattle.model.specs.Table.{empty_row, lookup, derivation, derivations, named, live_rows, lent_table, is_empty_row, live_rows_first, rows_in_order}
use Rattle.model.proofs.Lists.{All, All_map, All_reverse, test, and_both, filter_none, filter_reverse, map_reverse}
use Rattle.model.proofs.Ancestries.{same, below_differs, ancestry_zero, ancestry_above}
use Rattle.model.proofs.Lent.{Named}
use Rattle.model.proofs.Order.{rises, steps, rows_in_order_falling}

-- ---- the lent table

-- a new row takes the first empty place
pub lent_new : (n : ℕ) (c : Cap) (rows : List Cap) → length rows < n → lent_table n (c ∷ rows) ≡ set (lent_table n rows) (length rows) c
unfolding lent_table
lent_new n c rows h =
    let e : n - length rows ≡ suc (n - suc (length rows)) = omega arith in
    rw (reverse-cons c rows, append_assoc (reverse rows) (c ∷ []) (replicate (n - suc (length rows)) empty_row), e)
    (sym (set_at (reverse rows) empty_row (replicate (n - suc (length rows)) empty_row) c (length rows) (length-reverse rows)))

-- the rows that are left close up
pub lent_left : (n : ℕ) (p : Cap → Bool) (rows : List Cap) → lent_table n (filter p rows) ≡ filter p (reverse rows) ++ replicate (n - length (filter p rows)) empty_row
unfolding lent_table
lent_left n p rows = ap (λ l. l ++ replicate (n - length (filter p rows)) empty_row) (sym (filter_reverse p rows))

-- rows that are changed stay in their places
pub lent_changed : (f : Cap → Cap) → f empty_row ≡ empty_row → (n : ℕ) (rows : List Cap) → lent_table n (map f rows) ≡ map f (lent_table n rows)
unfolding lent_table
lent_changed f e n rows =
    rw (length-map, ← map_reverse f rows)
    (ap (λ l. map f (reverse rows) ++ l) (sym (zeros (n - length rows))) ∙ sym (map-append f (reverse rows) (replicate (n - length rows) empty_row)))
  where
    zeros : (n : ℕ) → map f (replicate n empty_row) ≡ replicate n empty_row
    zeros zero = refl
    zeros (suc n) = ap₂ {C = List Cap} (λ x xs. x ∷ xs) e (zeros n)

pub empty_row_empty : (c : Cap) → is_empty_row c ≡ true → c ≡ empty_row
unfolding is_empty_row
empty_row_empty c h =
    let l = and_both (eqb c.name.0 0 && eqb c.parent.0 0 && eqb c.start.0 0 && eqb c.length 0 && eqb c.right 0 && eqb c.depth 0 && eqb c.kind 0 && eqb c.fresh 0 && eqb c.maker 0) (eqb c.holders 0) h in
    let m = and_both (eqb c.name.0 0 && eqb c.parent.0 0 && eqb c.start.0 0 && eqb c.length 0 && eqb c.right 0 && eqb c.depth 0 && eqb c.kind 0 && eqb c.fresh 0) (eqb c.maker 0) l.0 in
    let n = and_both (eqb c.name.0 0 && eqb c.parent.0 0 && eqb c.start.0 0 && eqb c.length 0 && eqb c.right 0 && eqb c.depth 0 && eqb c.kind 0) (eqb c.fresh 0) m.0 in
    let o = and_both (eqb c.name.0 0 && eqb c.parent.0 0 && eqb c.start.0 0 && eqb c.length 0 && eqb c.right 0 && eqb c.depth 0) (eqb c.kind 0) n.0 in
    let p = and_both (eqb c.name.0 0 && eqb c.parent.0 0 && eqb c.start.0 0 && eqb c.length 0 && eqb c.right 0) (eqb c.depth 0) o.0 in
    let q = and_both (eqb c.name.0 0 && eqb c.parent.0 0 && eqb c.start.0 0 && eqb c.length 0) (eqb c.right 0) p.0 in
    let r = and_both (eqb c.name.0 0 && eqb c.parent.0 0 && eqb c.start.0 0) (eqb c.length 0) q.0 in
    let s = and_both (eqb c.name.0 0 && eqb c.parent.0 0) (eqb c.start.0 0) r.0 in
    let t = and_both (eqb c.name.0 0) (eqb c.parent.0 0) s.0 in
    λ k. record {
      name = record { 0 = eqb-true c.name.0 0 t.0 k };
      parent = record { 0 = eqb-true c.parent.0 0 t.1 k };
      start = record { 0 = eqb-true c.start.0 0 s.1 k };
      length = eqb-true c.length 0 r.1 k;
      right = eqb-true c.right 0 q.1 k;
      depth = eqb-true c.depth 0 p.1 k;
      kind = eqb-true c.kind 0 o.1 k;
      fresh = eqb-true c.fresh 0 n.1 k;
      maker = eqb-true c.maker 0 m.1 k;
      holders = eqb-true c.holders 0 l.1 k;
    }

blanks : (t : List Cap) → all is_empty_row t ≡ true → replicate (length t) empty_row ≡ t
blanks [] h = refl
blanks (c ∷ t) h = let p = and_both (is_empty_row c) (all is_empty_row t) h in ap₂ {C = List Cap} (λ x xs. x ∷ xs) (sym (empty_row_empty c p.0)) (blanks t p.1)

-- an arranged table is its live rows, and zeros
front : (t : List Cap) → live_rows_first t ≡ true → filter (λ c. not (named 0 c)) t ++ replicate (length t - length (filter (λ c. not (named 0 c)) t)) empty_row ≡ t
unfolding live_rows_first
front [] h = refl
front (c ∷ t) h = go (test (named 0 c)) (front t)
  where
    full : Cap → Bool
    full c = not (named 0 c)

    go : (named 0 c ≡ true) ⊎ (named 0 c ≡ false) → (live_rows_first t ≡ true → filter full t ++ replicate (length t - length (filter full t)) empty_row ≡ t)
        → cons_if (full c) c (filter full t) ++ replicate (suc (length t) - length (cons_if (full c) c (filter full t))) empty_row ≡ c ∷ t
    go (inl e) ih =
        let b : all is_empty_row (c ∷ t) ≡ true = rw e at h in
        let none : filter full t ≡ [] = ap (filter full) (sym (blanks t (and_both (is_empty_row c) (all is_empty_row t) b).1)) ∙ filter_none full empty_row refl (length t) in
        rw (e, none, sub-zero (suc (length t))) (blanks (c ∷ t) b)
    go (inr f) ih = rw (f, suc-sub-suc) (ap {B = List Cap} (λ l. c ∷ l) (ih (rw f at h)))

pub lent_live : (t : List Cap) → live_rows_first t ≡ true → lent_table (length t) (live_rows t) ≡ t
unfolding lent_table live_rows
lent_live t h = rw (reverse-reverse (filter (λ c. not (named 0 c)) t), length-reverse (filter (λ c. not (named 0 c)) t)) (front t h)

-- ---- what an event does to an arranged table, in its own order

module _ (t : List Cap) (a : live_rows_first t ≡ true) where
  -- a create or a borrow: the new row takes the first empty place
  pub table_new : (c : Cap) → length (live_rows t) < length t → lent_table (length t) (c ∷ live_rows t) ≡ set t (length (live_rows t)) c
  table_new c h = lent_new (length t) c (live_rows t) h ∙ ap (λ l. set l (length (live_rows t)) c) (lent_live t a)

  -- a read: each row is changed in its place
  pub table_changed : (f : Cap → Cap) → f empty_row ≡ empty_row → lent_table (length t) (map f (live_rows t)) ≡ map f t
  table_changed f e = lent_changed f e (length t) (live_rows t) ∙ ap (map f) (lent_live t a)

  -- a write or a drop: the rows that are left close up
  pub table_left : (p : Cap → Bool) → lent_table (length t) (filter p (live_rows t)) ≡ filter p (reverse (live_rows t)) ++ replicate (length t - length (filter p (live_rows t))) empty_row
  table_left p = lent_left (length t) p (live_rows t)

-- ---- a row by its place

-- a fact of every row, at a place of the table
pub All_at : {A : Type 0} (P : A → Type 0) (l : List A) (d : A) → All P l → (k : ℕ) → k < length l → P (get_or (reverse l) k d)
All_at {A} P l d h k lt = at (reverse l) (All_reverse P l h) k (rw length-reverse lt)
  where
    at : (l : List A) → All P l → (k : ℕ) → k < length l → P (get_or l k d)
    at [] h k lt = absurd (not-suc-le-zero lt)
    at (x ∷ l) h zero lt = h.0
    at (x ∷ l) h (suc k) lt = at l h.1 k (le_of_suc-le-suc lt)

-- each row is found by its name
pub lookup_each : (bound : ℕ) (rows : List Cap) → rows_in_order bound rows ≡ true → All (λ c. (c.name.0 < bound) × (lookup c.name.0 rows ≡ c)) rows
unfolding lookup
lookup_each bound [] h = tt
lookup_each bound (c ∷ rows) h =
    let r = rises bound c rows h in
    ((r.below_bound, rw (same c.name.0)), All_map _ _ (λ d q. (omega (arith, r.below_bound, q.0), rw (below_differs q.0) q.1)) rows (lookup_each c.name.0 rows r.rest))

pub found_each : (rows : List Cap) → All (λ c. any (named c.name.0) rows ≡ true) rows
found_each [] = tt
found_each (c ∷ rows) = (rw (same c.name.0), All_map _ _ (λ d e. rw e (or-true (named d.name.0 c))) rows (found_each rows))

-- ---- one pass

module _ (bound : ℕ) (rows : List Cap) (n : Named rows) (h : rows_in_order bound rows ≡ true) where
  -- a row is struck by itself, or its parent is
  pub struck_step : (sheet : Sheet) (is : Effect → Bool) (a : Access) (u : ℕ) (s : Span)
      → All (λ c. struck sheet is a (derivations rows) u s c.name.0 ≡ is (strike sheet a s (ancestry (derivations rows) u) (derivation c ∷ ancestry (derivations rows) c.parent.0)) || struck sheet is a (derivations rows) u s c.parent.0) rows
  unfolding struck reached on_ancestry
  struck_step sheet is a u s = All_map _ _ (λ c e. rw e) rows (steps bound rows n h)

  -- a row is in the subtree of a when it is a, or its parent is
  pub below_step : (a : ℕ) → All (λ c. in_subtree a (ancestry (derivations rows) c.name.0) ≡ eqb a c.name.0 || in_subtree a (ancestry (derivations rows) c.parent.0)) rows
  below_step a = All_map _ _ (λ c e. rw e) rows (steps bound rows n h)

  -- no parent is struck, and in no subtree
  pub no_ancestry : ancestry (derivations rows) 0 ≡ []
  no_ancestry = ancestry_zero bound (derivations rows) (rows_in_order_falling bound rows n h)

  -- a name that is not given out is in no subtree
  pub no_ancestry_above : (x : ℕ) → bound ≤ x → ancestry (derivations rows) x ≡ []
  no_ancestry_above x = ancestry_above bound x (derivations rows) (rows_in_order_falling bound rows n h)
