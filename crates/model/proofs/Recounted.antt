-- Names by another count: a count that tells the names apart leaves ancestries, strikes and rows found as they are.
-- Assumes nothing.
use mathlib.Core.Path.{◌≡◌, refl, sym, ap, ap₂, ◌∙◌, subst}
use mathlib.Core.Logic.{◌⊎◌, inl, inr}
use mathlib.Core.Bool.{Bool, true, false, not, cond, ◌&&◌, ◌||◌, or-true}
use mathlib.Core.List.{List, [], ◌∷◌, map}
use Prim.Native.Nat.{ℕ, suc, ◌<◌, ◌≤◌}
use native.Mathlib.Omega.{arith}
use lib.Dec.{eqb, ltb}
use lib.ListN.{length}
use borrow.Author.Tests.{eqb-true, eq-eqb, ne_eqb, lt-ltb, le-ltb}
use Rattle.model.specs.declared.Span.{Span}
use Rattle.model.specs.declared.Access.{Access}
use Rattle.model.specs.Derivation.{Derivation, ancestry, in_subtree, on_ancestry}
use Rattle.model.specs.declared.Effect.{Effect}
use Rattle.model.specs.declared.Sheet.{Sheet}
use Rattle.model.specs.Strike.{is_cell, in_other_cell, origin, strike, reached}
use Rattle.model.specs.Independence.{ordinal, is_given}
use Rattle.model.proofs.Lists.{All, test, clash, or_neither}
use Rattle.model.proofs.Ancestries.{same, ancestry_here, ancestry_past}

-- ---- ordinals

pub ordinal_upto : (given : List ℕ) (x : ℕ) → ordinal given x ≤ length given
unfolding ordinal
ordinal_upto [] x = omega arith
ordinal_upto (y ∷ given) x = go (eqb x y) (ordinal_upto given x)
  where
    go : (b : Bool) → ordinal given x ≤ length given → cond b (suc (length given)) (ordinal given x) ≤ suc (length given)
    go true h = omega arith
    go false h = omega arith

pub ordinal_above : (given : List ℕ) (x : ℕ) → is_given given x ≡ true → 0 < ordinal given x
unfolding ordinal
ordinal_above [] x h = clash h refl
ordinal_above (y ∷ given) x h = go (test (eqb x y)) (ordinal_above given x)
  where
    go : (eqb x y ≡ true) ⊎ (eqb x y ≡ false) → (is_given given x ≡ true → 0 < ordinal given x) → 0 < cond (eqb x y) (suc (length given)) (ordinal given x)
    go (inl e) ih = rw e (omega arith)
    go (inr e) ih = rw e (ih (rw e at h))

pub ordinal_none : (given : List ℕ) (x : ℕ) → is_given given x ≡ false → ordinal given x ≡ 0
unfolding ordinal
ordinal_none [] x h = refl
ordinal_none (y ∷ given) x h = let p = or_neither (eqb x y) (is_given given x) h in rw p.0 (ordinal_none given x p.1)

-- ordinals tell names apart
pub ordinal_same : (given : List ℕ) (x y : ℕ) → is_given given x ≡ true → is_given given y ≡ true → eqb (ordinal given x) (ordinal given y) ≡ eqb x y
unfolding ordinal
ordinal_same [] x y h k = clash h refl
ordinal_same (z ∷ given) x y h k = go (test (eqb x z)) (test (eqb y z)) (ordinal_same given x y)
  where
    go : (eqb x z ≡ true) ⊎ (eqb x z ≡ false) → (eqb y z ≡ true) ⊎ (eqb y z ≡ false) → (is_given given x ≡ true → is_given given y ≡ true → eqb (ordinal given x) (ordinal given y) ≡ eqb x y)
        → eqb (cond (eqb x z) (suc (length given)) (ordinal given x)) (cond (eqb y z) (suc (length given)) (ordinal given y)) ≡ eqb x y
    go (inl e) (inl f) ih = rw (e, f) (same (suc (length given)) ∙ sym (eq-eqb x y (eqb-true x z e ∙ sym (eqb-true y z f))))
    go (inl e) (inr f) ih =
        rw (e, f)
        (ne_eqb (suc (length given)) (ordinal given y) (λ (q : suc (length given) ≡ ordinal given y). omega (arith, ordinal_upto given y))
        ∙ sym (ap (λ (v : ℕ). eqb v y) (eqb-true x z e) ∙ differs z y f))
      where
        differs : (z y : ℕ) → eqb y z ≡ false → eqb z y ≡ false
        differs z y f = ne_eqb z y (λ (q : z ≡ y). clash (eq-eqb y z (sym q)) f)
    go (inr e) (inl f) ih =
        rw (e, f)
        (ne_eqb (ordinal given x) (suc (length given)) (λ (q : ordinal given x ≡ suc (length given)). omega (arith, ordinal_upto given x))
        ∙ sym (ap (λ (v : ℕ). eqb x v) (eqb-true y z f) ∙ e))
    go (inr e) (inr f) ih = rw (e, f) (ih (rw e at h) (rw f at k))

-- each name was given after those behind it
abbrev pub Strictly : List ℕ → Type 0
Strictly [] = Unit {0}
Strictly (y ∷ given) = All (λ x. x < y) given × Strictly given

given_all : (P : ℕ → Type 0) (given : List ℕ) (x : ℕ) → All P given → is_given given x ≡ true → P x
given_all P [] x a h = clash h refl
given_all P (y ∷ given) x a h = go (test (eqb x y)) (given_all P given x a.1)
  where
    go : (eqb x y ≡ true) ⊎ (eqb x y ≡ false) → (is_given given x ≡ true → P x) → P x
    go (inl e) ih = subst P (sym (eqb-true x y e)) a.0
    go (inr e) ih = ih (rw e at h)

-- so ordinals stand in the order of the names
pub ordinal_order : (given : List ℕ) (x y : ℕ) → Strictly given → is_given given x ≡ true → is_given given y ≡ true → ltb (ordinal given x) (ordinal given y) ≡ ltb x y
unfolding ordinal
ordinal_order [] x y f h k = clash h refl
ordinal_order (z ∷ given) x y f h k = go (test (eqb x z)) (test (eqb y z)) (ordinal_order given x y f.1)
  where
    go : (eqb x z ≡ true) ⊎ (eqb x z ≡ false) → (eqb y z ≡ true) ⊎ (eqb y z ≡ false) → (is_given given x ≡ true → is_given given y ≡ true → ltb (ordinal given x) (ordinal given y) ≡ ltb x y)
        → ltb (cond (eqb x z) (suc (length given)) (ordinal given x)) (cond (eqb y z) (suc (length given)) (ordinal given y)) ≡ ltb x y
    go (inl e) (inl g) ih =
        let q : x ≡ z = eqb-true x z e in
        let r : y ≡ z = eqb-true y z g in
        rw (e, g) (le-ltb (suc (length given)) (suc (length given)) (omega arith) ∙ sym (le-ltb x y (omega arith)))
    go (inl e) (inr g) ih =
        let q : x ≡ z = eqb-true x z e in
        let l = given_all (λ v. v < z) given y f.0 (rw g at k) in
        rw (e, g) (le-ltb (suc (length given)) (ordinal given y) (omega (arith, ordinal_upto given y)) ∙ sym (le-ltb x y (omega arith)))
    go (inr e) (inl g) ih =
        let q : y ≡ z = eqb-true y z g in
        let l = given_all (λ v. v < z) given x f.0 (rw e at h) in
        rw (e, g) (lt-ltb (ordinal given x) (suc (length given)) (omega (arith, ordinal_upto given x)) ∙ sym (lt-ltb x y (omega arith)))
    go (inr e) (inr g) ih = rw (e, g) (ih (rw e at h) (rw g at k))

-- a name that was not given before is counted next, and leaves the others' ordinals
pub ordinal_older : (given : List ℕ) (x y : ℕ) → eqb x y ≡ false → ordinal (y ∷ given) x ≡ ordinal given x
unfolding ordinal
ordinal_older given x y e = rw e

pub ordinal_newest : (given : List ℕ) (x : ℕ) → ordinal (x ∷ given) x ≡ suc (length given)
unfolding ordinal
ordinal_newest given x = rw (same x)

-- ---- derivations by that count

abbrev pub recounted_derivation : List ℕ → Derivation → Derivation
recounted_derivation given b = record { name = ordinal given b.name; parent = ordinal given b.parent; span = b.span; kind = b.kind; fresh = b.fresh; maker = b.maker; holders = b.holders }

-- no name, or one that was given
abbrev pub Known : List ℕ → ℕ → Type 0
Known given x = eqb x 0 || is_given given x ≡ true

module _ (given : List ℕ) (z : is_given given 0 ≡ false) where
  given_known : (x : ℕ) → is_given given x ≡ true → Known given x
  given_known x h = rw h (or-true (eqb x 0))

  -- a given name and one that may be none
  known_same : (x y : ℕ) → Known given x → is_given given y ≡ true → eqb (ordinal given x) (ordinal given y) ≡ eqb x y
  known_same x y h k = go (test (eqb x 0))
    where
      no : 0 < ordinal given y → 0 ≡ ordinal given y → ⊥
      no l e = omega arith

      go : (eqb x 0 ≡ true) ⊎ (eqb x 0 ≡ false) → eqb (ordinal given x) (ordinal given y) ≡ eqb x y
      go (inl e) =
          let q : x ≡ 0 = eqb-true x 0 e in
          rw (q, ordinal_none given 0 z) (ne_eqb 0 (ordinal given y) (no (ordinal_above given y k)) ∙ sym (ne_eqb 0 y (λ (r : 0 ≡ y). clash k (ap (is_given given) (sym r) ∙ z))))
      go (inr e) = ordinal_same given x y (rw e at h) k

  pub ancestry_recounted : (B : List Derivation) → All (λ b. (is_given given b.name ≡ true) × Known given b.parent) B → (x : ℕ) → Known given x
      → ancestry (map (recounted_derivation given) B) (ordinal given x) ≡ map (recounted_derivation given) (ancestry B x)
  unfolding ancestry
  ancestry_recounted [] a x h = refl
  ancestry_recounted (b ∷ B) a x h = go (test (eqb x b.name)) (ancestry_recounted B a.1)
    where
      M : List Derivation
      M = map (recounted_derivation given) B

      told : eqb (ordinal given x) (ordinal given b.name) ≡ eqb x b.name
      told = known_same x b.name h a.0.0

      go : (eqb x b.name ≡ true) ⊎ (eqb x b.name ≡ false) → ((y : ℕ) → Known given y → ancestry M (ordinal given y) ≡ map (recounted_derivation given) (ancestry B y))
          → ancestry (recounted_derivation given b ∷ M) (ordinal given x) ≡ map (recounted_derivation given) (ancestry (b ∷ B) x)
      go (inl e) ih =
          rw (ancestry_here (recounted_derivation given b) M (ordinal given x) (told ∙ e), ancestry_here b B x e)
          (ap {B = List Derivation} (λ r. recounted_derivation given b ∷ r) (ih b.parent a.0.1))
      go (inr e) ih = rw (ancestry_past (recounted_derivation given b) M (ordinal given x) (told ∙ e), ancestry_past b B x e) (ih x h)

-- derivations of given names, whose parents, unless none, are given too
abbrev pub Given : List ℕ → List Derivation → Type 0
Given given = All (λ b. (is_given given b.name ≡ true) × Known given b.parent)

-- ---- what an access takes

module _ (given : List ℕ) (z : is_given given 0 ≡ false) where
  pub in_subtree_recounted : (u : ℕ) (B : List Derivation) → Known given u → Given given B → in_subtree (ordinal given u) (map (recounted_derivation given) B) ≡ in_subtree u B
  in_subtree_recounted u [] h a = refl
  in_subtree_recounted u (b ∷ B) h a = ap₂ ◌||◌ (known_same given z u b.name h a.0.0) (in_subtree_recounted u B h a.1)

  cell_recounted : (user holder : List Derivation) → Given given user → Given given holder → in_other_cell (map (recounted_derivation given) user) (map (recounted_derivation given) holder) ≡ in_other_cell user holder
  cell_recounted [] holder u h = refl
  cell_recounted (d ∷ user) holder u h = ap₂ ◌||◌ (ap (λ (t : Bool). is_cell d && not t) (in_subtree_recounted d.name holder (given_known given z d.name u.0.0) h)) (cell_recounted user holder u.1 h)

  -- The law of a strike, by every sheet, that it goes by names alone as they tell apart.
  strike_recounted : (sheet : Sheet) (a : Access) (s : Span) (user holder : List Derivation) → Given given user → Given given holder
      → strike sheet a s (map (recounted_derivation given) user) (map (recounted_derivation given) holder) ≡ strike sheet a s user holder
  unfolding strike origin
  strike_recounted sheet a s user [] u h = refl
  strike_recounted sheet a s user (b ∷ above) u h =
      rw (in_subtree_recounted b.name user (given_known given z b.name h.0.0) u, cell_recounted user (b ∷ above) u h, in_subtree_recounted b.parent user h.0.1 u)

  pub reached_recounted : (sheet : Sheet) (is : Effect → Bool) (a : Access) (s : Span) (user x : List Derivation) → Given given user → Given given x
      → reached sheet is a s (map (recounted_derivation given) user) (map (recounted_derivation given) x) ≡ reached sheet is a s user x
  unfolding reached on_ancestry
  reached_recounted sheet is a s user [] u h = refl
  reached_recounted sheet is a s user (b ∷ above) u h = ap₂ ◌||◌ (ap is (strike_recounted sheet a s user (b ∷ above) u h)) (reached_recounted sheet is a s user above u h.1)
