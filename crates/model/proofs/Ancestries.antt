-- Laws of ancestries: past a derivation of another name, and among the derivations that are left when closed ones are taken away.
-- Assumes nothing.
use mathlib.Core.Path.{◌≡◌, refl, sym, ap, ◌∙◌}
use mathlib.Core.Logic.{◌⊎◌, inl, inr}
use mathlib.Core.Bool.{Bool, true, false, ◌||◌}
use mathlib.Core.List.{List, [], ◌∷◌}
use Prim.Native.Nat.{ℕ, ◌<◌, ◌≤◌}
use native.Mathlib.Omega.{arith}
use lib.Dec.{eqb}
use borrow.Author.Tests.{eqb-true, eq-eqb, ne_eqb}
use Rattle.model.specs.Lists.{cons_if, filter}
use Rattle.model.specs.Derivation.{Derivation, ancestry}
use Rattle.model.proofs.Lists.{All, All_map, All_filter, test, clash}

pub ancestry_here : (b : Derivation) (B : List Derivation) (x : ℕ) → eqb x b.name ≡ true → ancestry (b ∷ B) x ≡ b ∷ ancestry B b.parent
unfolding ancestry
ancestry_here b B x e = rw (e, ancestry)

pub ancestry_past : (b : Derivation) (B : List Derivation) (x : ℕ) → eqb x b.name ≡ false → ancestry (b ∷ B) x ≡ ancestry B x
unfolding ancestry
ancestry_past b B x e = rw (e, ancestry)

pub same : (x : ℕ) → eqb x x ≡ true
same x = eq-eqb x x refl

pub below_differs : {x y : ℕ} → x < y → eqb x y ≡ false
below_differs {x} {y} h = ne_eqb x y (λ (e : x ≡ y). omega arith)

pub not_zero : {x y : ℕ} → x < y → eqb y 0 ≡ false
not_zero {x} {y} h = ne_eqb y 0 (λ (e : y ≡ 0). omega arith)

-- derivations with falling names below a bound, each parent's name below its child's
abbrev pub Falling : ℕ → List Derivation → Type 0
Falling n [] = Unit {0}
Falling n (b ∷ B) = (b.name < n) × (b.parent < b.name) × Falling b.name B

-- an ancestry goes on with the parent's ancestry
abbrev pub Step : ℕ → List Derivation → Derivation → Type 0
Step n B b = (b.name < n) × (b.parent < b.name) × (ancestry B b.name ≡ b ∷ ancestry B b.parent)

pub ancestry_step : (n : ℕ) (B : List Derivation) → Falling n B → All (Step n B) B
ancestry_step n [] f = tt
ancestry_step n (c ∷ B) f = (
  (f.0, f.1, ancestry_here c B c.name (same c.name) ∙ ap {B = List Derivation} (λ r. c ∷ r) (sym (past c.parent f.1))),
  All_map (Step c.name B) (Step n (c ∷ B)) up B (ancestry_step c.name B f.2),
)
  where
    past : (x : ℕ) → x < c.name → ancestry (c ∷ B) x ≡ ancestry B x
    past x h = ancestry_past c B x (below_differs h)

    up : (b : Derivation) → Step c.name B b → Step n (c ∷ B) b
    up b h = (omega arith, h.1, past b.name h.0 ∙ h.2 ∙ ap {B = List Derivation} (λ r. b ∷ r) (sym (past b.parent (omega arith))))

-- a test that passes at the parent, unless 0, of each derivation that it passes at
abbrev pub Closed : (ℕ → Bool) → List Derivation → Type 0
Closed k B = All (λ b. k b.name ≡ true → eqb b.parent 0 || k b.parent ≡ true) B

-- where ancestors are kept with their descendants, ancestries stay
pub ancestry_kept : (k : ℕ → Bool) (n : ℕ) (B : List Derivation) → Falling n B → Closed k B → (x : ℕ) → eqb x 0 || k x ≡ true → ancestry (filter (λ b. k b.name) B) x ≡ ancestry B x
ancestry_kept k n [] f c x h = refl
ancestry_kept k n (b ∷ B) f c x h = go (ancestry_kept k b.name B f.2 c.1) (test (eqb x b.name)) (test (k b.name))
  where
    F : List Derivation
    F = filter (λ b. k b.name) B

    go : ((y : ℕ) → eqb y 0 || k y ≡ true → ancestry F y ≡ ancestry B y) → (eqb x b.name ≡ true) ⊎ (eqb x b.name ≡ false)
        → (k b.name ≡ true) ⊎ (k b.name ≡ false) → ancestry (cons_if (k b.name) b F) x ≡ ancestry (b ∷ B) x
    go ih (inl e) (inl t) = rw (t, ancestry_here b F x e, ancestry_here b B x e) (ap {B = List Derivation} (λ r. b ∷ r) (ih b.parent (c.0 t)))
    go ih (inl e) (inr t) = let q : x ≡ b.name = eqb-true x b.name e in clash h (cc (not_zero f.1))
    go ih (inr e) (inl t) = rw (t, ancestry_past b F x e, ancestry_past b B x e) (ih x h)
    go ih (inr e) (inr t) = rw (t, ancestry_past b B x e) (ih x h)

-- derivations that are left still fall
falling_wider : (m n : ℕ) (B : List Derivation) → m ≤ n → Falling m B → Falling n B
falling_wider m n [] l f = tt
falling_wider m n (b ∷ B) l f = (omega arith, f.1, f.2)

pub falling_kept : (p : Derivation → Bool) (n : ℕ) (B : List Derivation) → Falling n B → Falling n (filter p B)
falling_kept p n [] f = tt
falling_kept p n (b ∷ B) f = go (p b) (falling_kept p b.name B f.2)
  where
    go : (k : Bool) → Falling b.name (filter p B) → Falling n (cons_if k b (filter p B))
    go true r = (f.0, f.1, r)
    go false r = falling_wider b.name n (filter p B) (omega arith) r

-- a name that is not given out has no ancestry, and is on none
pub ancestry_above : (n x : ℕ) (B : List Derivation) → Falling n B → n ≤ x → ancestry B x ≡ []
unfolding ancestry
ancestry_above n x [] f l = refl
ancestry_above n x (b ∷ B) f l = ancestry_past b B x (ne_eqb x b.name (λ (e : x ≡ b.name). omega arith)) ∙ ancestry_above b.name x B f.2 (omega arith)

pub ancestry_below : (n x : ℕ) (B : List Derivation) → Falling n B → All (λ b. b.name < n) (ancestry B x)
unfolding ancestry
ancestry_below n x [] f = tt
ancestry_below n x (b ∷ B) f = go (λ y. ancestry_below b.name y B f.2) (test (eqb x b.name))
  where
    wider : (y : ℕ) → All (λ c. c.name < b.name) (ancestry B y) → All (λ c. c.name < n) (ancestry B y)
    wider y = All_map _ _ (λ c l. omega arith) (ancestry B y)

    go : ((y : ℕ) → All (λ c. c.name < b.name) (ancestry B y)) → (eqb x b.name ≡ true) ⊎ (eqb x b.name ≡ false) → All (λ c. c.name < n) (ancestry (b ∷ B) x)
    go ih (inl e) = rw (ancestry_here b B x e) (f.0, wider b.parent (ih b.parent))
    go ih (inr e) = rw (ancestry_past b B x e) (wider x (ih x))

-- on an ancestry too each parent's name is below its child's
pub ancestry_falls : (n x : ℕ) (B : List Derivation) → Falling n B → All (λ b. b.parent < b.name) (ancestry B x)
unfolding ancestry
ancestry_falls n x [] f = tt
ancestry_falls n x (b ∷ B) f = go (λ y. ancestry_falls b.name y B f.2) (test (eqb x b.name))
  where
    go : ((y : ℕ) → All (λ c. c.parent < c.name) (ancestry B y)) → (eqb x b.name ≡ true) ⊎ (eqb x b.name ≡ false) → All (λ c. c.parent < c.name) (ancestry (b ∷ B) x)
    go ih (inl e) = rw (ancestry_here b B x e) (f.1, ih b.parent)
    go ih (inr e) = rw (ancestry_past b B x e) (ih x)

-- what holds of every derivation holds of those on an ancestry
pub ancestry_all : (P : Derivation → Type 0) (x : ℕ) (B : List Derivation) → All P B → All P (ancestry B x)
unfolding ancestry
ancestry_all P x [] a = tt
ancestry_all P x (b ∷ B) a = go (λ y. ancestry_all P y B a.1) (test (eqb x b.name))
  where
    go : ((y : ℕ) → All P (ancestry B y)) → (eqb x b.name ≡ true) ⊎ (eqb x b.name ≡ false) → All P (ancestry (b ∷ B) x)
    go ih (inl e) = rw (ancestry_here b B x e) (a.0, ih b.parent)
    go ih (inr e) = rw (ancestry_past b B x e) (ih x)

-- what holds of the kept derivations holds of those on the ancestry of a kept name
pub ancestry_among : (k : ℕ → Bool) (P : Derivation → Type 0) (n : ℕ) (B : List Derivation) → Falling n B → Closed k B → All (λ b. k b.name ≡ true → P b) B → (x : ℕ) → eqb x 0 || k x ≡ true → All P (ancestry B x)
ancestry_among k P n B f c a x h = rw (← ancestry_kept k n B f c x h) (ancestry_all P x (filter (λ b. k b.name) B) (All_filter (λ b. k b.name) P B a))

-- 0 has no ancestry
pub ancestry_zero : (n : ℕ) (B : List Derivation) → Falling n B → ancestry B 0 ≡ []
unfolding ancestry
ancestry_zero n [] f = refl
ancestry_zero n (b ∷ B) f = ancestry_past b B 0 (ne_eqb 0 b.name (λ (e : 0 ≡ b.name). omega arith)) ∙ ancestry_zero b.name B f.2

-- the names on an ancestry are at most the name whose it is
pub ancestry_upto : (n x : ℕ) (B : List Derivation) → Falling n B → All (λ b. b.name ≤ x) (ancestry B x)
unfolding ancestry
ancestry_upto n x [] f = tt
ancestry_upto n x (b ∷ B) f = go (ancestry_upto b.name x B f.2) (test (eqb x b.name))
  where
    go : All (λ c. c.name ≤ x) (ancestry B x) → (eqb x b.name ≡ true) ⊎ (eqb x b.name ≡ false) → All (λ c. c.name ≤ x) (ancestry (b ∷ B) x)
    go ih (inl e) =
        let q : x ≡ b.name = eqb-true x b.name e in
        rw (ancestry_here b B x e) (omega arith, All_map _ _ (λ c l. omega arith) (ancestry B b.parent) (ancestry_below b.name b.parent B f.2))
    go ih (inr e) = rw (ancestry_past b B x e) ih
