-- Where an access comes from, for the proofs of the code: the nearest cell above the user decides for all cells.
-- Assumes nothing.
use mathlib.Core.Path.{◌≡◌, refl, sym}
use mathlib.Core.Logic.{◌⊎◌, inl, inr}
use mathlib.Core.Bool.{true, false, not, ◌&&◌, and-false, or-true}
use mathlib.Core.List.{List, [], ◌∷◌}
use Prim.Native.Nat.{ℕ, ◌<◌, ◌≤◌}
use native.Mathlib.Omega.{arith}
use lib.Dec.{eqb, ltb}
use borrow.Author.Tests.{eqb-true, eq-eqb, ne_eqb, ltb-true, ltb-false}
use Rattle.model.specs.Derivation.{Derivation, ancestry, in_subtree}
use Rattle.model.specs.Strike.{is_cell, in_other_cell, nearest_cell}
use Rattle.model.proofs.Lists.{All, All_map, test, clash, any_false}
use Rattle.model.proofs.Ancestries.{Falling, same, not_zero, ancestry_here, ancestry_past, ancestry_above, ancestry_below, ancestry_upto}

-- ---- ancestors of an ancestor are ancestors

-- each derivation of the first list is on the second
abbrev On : List Derivation → List Derivation → Type 0
On l x = All (λ d. in_subtree d.name x ≡ true) l

on_longer : (b : Derivation) (l x : List Derivation) → On l x → On l (b ∷ x)
on_longer b l x = All_map _ _ (λ d e. rw e (or-true (eqb d.name b.name))) l

on_itself : (l : List Derivation) → On l l
on_itself [] = tt
on_itself (b ∷ l) = (rw (same b.name), on_longer b l l (on_itself l))

pub ancestors_on : (n a x : ℕ) (B : List Derivation) → Falling n B → in_subtree a (ancestry B x) ≡ true → On (ancestry B a) (ancestry B x)
unfolding ancestry
ancestors_on n a x [] f h = tt
ancestors_on n a x (b ∷ B) f h = go (λ y. ancestors_on b.name a y B f.2) (test (eqb x b.name)) (test (eqb a b.name))
  where
    go : ((y : ℕ) → in_subtree a (ancestry B y) ≡ true → On (ancestry B a) (ancestry B y)) → (eqb x b.name ≡ true) ⊎ (eqb x b.name ≡ false) → (eqb a b.name ≡ true) ⊎ (eqb a b.name ≡ false)
        → On (ancestry (b ∷ B) a) (ancestry (b ∷ B) x)
    go ih (inl e) (inl t) = rw (ancestry_here b B x e, ancestry_here b B a t) (on_itself (b ∷ ancestry B b.parent))
    go ih (inl e) (inr t) =
        rw (ancestry_here b B x e, ancestry_past b B a t)
        (on_longer b (ancestry B a) (ancestry B b.parent) (ih b.parent (rw (ancestry_here b B x e, t) at h)))
    go ih (inr e) (inl t) = clash (rw (ancestry_past b B x e) at h) (any_false (λ d. eqb a d.name) (ancestry B x) (All_map _ _ apart (ancestry B x) (ancestry_below b.name x B f.2)))
      where
        apart : (d : Derivation) → d.name < b.name → eqb a d.name ≡ false
        apart d l = let q : a ≡ b.name = eqb-true a b.name t in ne_eqb a d.name (λ (e : a ≡ d.name). omega arith)
    go ih (inr e) (inr t) = rw (ancestry_past b B x e, ancestry_past b B a t) (ih x (rw (ancestry_past b B x e) at h))

-- ---- the nearest cell

-- a list of derivations with the ancestors of each
abbrev Upward : List Derivation → List Derivation → Type 0
Upward B x = (a : ℕ) → in_subtree a x ≡ true → On (ancestry B a) x

upward_earlier : (n : ℕ) (b : Derivation) (B x : List Derivation) → Falling n (b ∷ B) → Upward (b ∷ B) x → Upward B x
upward_earlier n b B x f up a h = go (test (eqb a b.name))
  where
    go : (eqb a b.name ≡ true) ⊎ (eqb a b.name ≡ false) → On (ancestry B a) x
    go (inl t) = let q : a ≡ b.name = eqb-true a b.name t in rw (ancestry_above b.name a B f.2 (omega arith)) tt
    go (inr t) = rw (ancestry_past b B a t) at (up a h)

-- The user is in the subtree of a cell that the holder is not under exactly when the nearest one is such: the others are above it.
abbrev Decides : List Derivation → List Derivation → Type 0
Decides x user = in_other_cell user x ≡ not (eqb (nearest_cell user) 0) && not (in_subtree (nearest_cell user) x)

nearest_decides : (n u : ℕ) (B x : List Derivation) → Falling n B → Upward B x → Decides x (ancestry B u)
unfolding ancestry
nearest_decides n u [] x f up = refl
nearest_decides n u (b ∷ B) x f up = go (λ y. nearest_decides b.name y B x f.2 (upward_earlier n b B x f up)) (test (eqb u b.name)) (test (is_cell b)) (test (in_subtree b.name x))
  where
    go : ((y : ℕ) → Decides x (ancestry B y)) → (eqb u b.name ≡ true) ⊎ (eqb u b.name ≡ false) → (is_cell b ≡ true) ⊎ (is_cell b ≡ false)
        → (in_subtree b.name x ≡ true) ⊎ (in_subtree b.name x ≡ false) → Decides x (ancestry (b ∷ B) u)
    go ih (inr e) c h = rw (ancestry_past b B u e) (ih u)
    go ih (inl e) (inr c) h = rw (ancestry_here b B u e, c) (ih b.parent)
    go ih (inl e) (inl c) (inr h) = rw (ancestry_here b B u e, c, h, not_zero f.1)
    go ih (inl e) (inl c) (inl h) =
        let above : On (b ∷ ancestry B b.parent) x = rw (ancestry_here b B b.name (same b.name)) at (up b.name h) in
        rw (ancestry_here b B u e, c, h, not_zero f.1)
        (any_false (λ d. is_cell d && not (in_subtree d.name x)) (ancestry B b.parent) (All_map _ _ (λ d t. rw t (and-false (is_cell d))) (ancestry B b.parent) above.1))

pub nearest_cell_lem : (n u x : ℕ) (B : List Derivation) → Falling n B
    → in_other_cell (ancestry B u) (ancestry B x) ≡ not (eqb (nearest_cell (ancestry B u)) 0) && not (in_subtree (nearest_cell (ancestry B u)) (ancestry B x))
nearest_cell_lem n u x B f = nearest_decides n u B (ancestry B x) f (λ a h. ancestors_on n a x B f h)

-- the nearest cell is on the ancestry
pub nearest_on : (l : List Derivation) (x : ℕ) → nearest_cell l ≡ x → 0 < x → in_subtree x l ≡ true
nearest_on [] x e p = absurd (omega (arith, e))
nearest_on (d ∷ l) x e p = go (test (is_cell d)) (nearest_on l x)
  where
    go : (is_cell d ≡ true) ⊎ (is_cell d ≡ false) → (nearest_cell l ≡ x → 0 < x → in_subtree x l ≡ true) → in_subtree x (d ∷ l) ≡ true
    go (inl c) ih = let q : d.name ≡ x = rw c at e in rw (eq-eqb x d.name (sym q))
    go (inr c) ih = rw (ih (rw c at e) p) (or-true (eqb x d.name))

-- ---- an ancestry is one line

-- no name is on an ancestry of earlier ones
above_all : (n a y : ℕ) (B : List Derivation) → Falling n B → n ≤ a → in_subtree a (ancestry B y) ≡ false
above_all n a y B f h = any_false (λ d. eqb a d.name) (ancestry B y) (All_map _ _ (λ d (l : d.name < n). ne_eqb a d.name (λ (e : a ≡ d.name). omega arith)) (ancestry B y) (ancestry_below n y B f))

-- nor is a later name on the ancestry of an earlier one
pub later_off : (n a x : ℕ) (B : List Derivation) → Falling n B → x < a → in_subtree a (ancestry B x) ≡ false
later_off n a x B f h = any_false (λ d. eqb a d.name) (ancestry B x) (All_map _ _ (λ d (l : d.name ≤ x). ne_eqb a d.name (λ (e : a ≡ d.name). omega arith)) (ancestry B x) (ancestry_upto n x B f))

-- a name that is on one is earlier
below_bound : (n a y : ℕ) (B : List Derivation) → Falling n B → in_subtree a (ancestry B y) ≡ true → a < n
below_bound n a y B f t = go (test (ltb a n))
  where
    go : (ltb a n ≡ true) ⊎ (ltb a n ≡ false) → a < n
    go (inl l) = ltb-true a n l
    go (inr g) = clash t (above_all n a y B f (ltb-false a n g))

-- of two names on it, the earlier is on the ancestry of the later
pub on_line_lem : (n u a c : ℕ) (B : List Derivation) → Falling n B → in_subtree a (ancestry B u) ≡ true → in_subtree c (ancestry B u) ≡ true → c ≤ a → in_subtree c (ancestry B a) ≡ true
unfolding ancestry
on_line_lem n u a c [] f h k l = h
on_line_lem n u a c (b ∷ B) f h k l = go (λ y. on_line_lem b.name y a c B f.2) (test (eqb u b.name)) (test (eqb a b.name))
  where
    lower : (y : ℕ) → in_subtree a (ancestry B y) ≡ true → a < b.name
    lower y t = below_bound b.name a y B f.2 t

    rest : eqb a b.name ≡ false → in_subtree a (b ∷ ancestry B b.parent) ≡ true → in_subtree a (ancestry B b.parent) ≡ true
    rest t s = rw t at s

    not_here : a < b.name → eqb c b.name ≡ false
    not_here m = ne_eqb c b.name (λ (e : c ≡ b.name). omega arith)

    go : ((y : ℕ) → in_subtree a (ancestry B y) ≡ true → in_subtree c (ancestry B y) ≡ true → c ≤ a → in_subtree c (ancestry B a) ≡ true) → (eqb u b.name ≡ true) ⊎ (eqb u b.name ≡ false) → (eqb a b.name ≡ true) ⊎ (eqb a b.name ≡ false)
        → in_subtree c (ancestry (b ∷ B) a) ≡ true
    go ih (inl e) (inl t) = rw (ancestry_here b B a t) (rw (ancestry_here b B u e) at k)
    go ih (inl e) (inr t) =
        let p : in_subtree a (ancestry B b.parent) ≡ true = rest t (rw (ancestry_here b B u e) at h) in
        let q : in_subtree c (ancestry B b.parent) ≡ true = rw (ancestry_here b B u e, not_here (lower b.parent p)) at k in
        rw (ancestry_past b B a t) (ih b.parent p q l)
    go ih (inr e) (inl t) =
        let p : in_subtree a (ancestry B u) ≡ true = rw (ancestry_past b B u e) at h in
        absurd (omega (arith, lower u p, eqb-true a b.name t))
    go ih (inr e) (inr t) = rw (ancestry_past b B a t) (ih u (rw (ancestry_past b B u e) at h) (rw (ancestry_past b B u e) at k) l)
