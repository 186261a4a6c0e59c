-- Laws of tests, and of `filter`, `any` and `map` on lists.
-- Assumes nothing.
use mathlib.Core.Path.{◌≡◌, refl, sym, ap, ◌∙◌}
use mathlib.Core.Logic.{◌⊎◌, inl, inr}
use mathlib.Core.Bool.{Bool, true, false, not, cond, ◌&&◌, ◌||◌, false≢true, or-true, and_assoc}
use mathlib.Core.List.{List, [], ◌∷◌, ◌++◌, map, map-append, reverse, reverse-cons, append-nil}
use Prim.Native.Nat.{ℕ, zero, suc, ◌≤◌, ◌<◌}
use native.Mathlib.Omega.{arith}
use lib.Dec.{eqb, ltb}
use lib.ListN.{length, get_or, set, replicate}
use borrow.Author.Tests.{ltb-true, eqb-true, ne_eqb}
use Rattle.model.specs.Lists.{cons_if, filter, any, all, first, final, answers}

-- ---- tests

-- a test either passes or fails
pub test : (b : Bool) → (b ≡ true) ⊎ (b ≡ false)
test true = inl refl
test false = inr refl

pub clash {ℓ} : {A : Type ℓ} {b : Bool} → b ≡ true → b ≡ false → A
clash t f = absurd (false≢true (sym f ∙ t))

-- a test that cannot pass
pub unless : (b : Bool) → (b ≡ true → ⊥) → b ≡ false
unless true f = absurd (f refl)
unless false f = refl

pub and_both : (a b : Bool) → a && b ≡ true → (a ≡ true) × (b ≡ true)
and_both true b e = (refl, e)
and_both false b e = absurd (false≢true e)

pub or_neither : (a b : Bool) → a || b ≡ false → (a ≡ false) × (b ≡ false)
or_neither true b e = clash refl e
or_neither false b e = (refl, e)

pub cond_same : {A : Type 0} (b : Bool) (x : A) → cond b x x ≡ x
cond_same true x = refl
cond_same false x = refl

-- a test, and none of two more
pub and_neither : (a e l : Bool) → a && not (e || l) ≡ a && not l && not e
and_neither true true true = refl
and_neither true true false = refl
and_neither true false true = refl
and_neither true false false = refl
and_neither false e l = refl

-- ---- a fact of every member

module _ {A : Type 0} where
  abbrev pub All : (A → Type 0) → List A → Type 0
  All P [] = Unit {0}
  All P (x ∷ xs) = P x × All P xs

  pub All_map : (P Q : A → Type 0) → ((x : A) → P x → Q x) → (l : List A) → All P l → All Q l
  All_map P Q f [] h = tt
  All_map P Q f (x ∷ l) h = (f x h.0, All_map P Q f l h.1)

  pub All_of : (P : A → Type 0) → ((x : A) → P x) → (l : List A) → All P l
  All_of P f [] = tt
  All_of P f (x ∷ l) = (f x, All_of P f l)

  pub All_zip : (P Q : A → Type 0) (l : List A) → All P l → All Q l → All (λ x. P x × Q x) l
  All_zip P Q [] h k = tt
  All_zip P Q (x ∷ l) h k = ((h.0, k.0), All_zip P Q l h.1 k.1)

  pub All_append : (P : A → Type 0) (l m : List A) → All P l → All P m → All P (l ++ m)
  All_append P [] m h k = k
  All_append P (x ∷ l) m h k = (h.0, All_append P l m h.1 k)

  pub All_last : (P : A → Type 0) (l m : List A) → All P (l ++ m) → All P m
  All_last P [] m h = h
  All_last P (x ∷ l) m h = All_last P l m h.1

  -- a fact of every member is a fact of each, and of the list with another such member
  pub All_get_d : (P : A → Type 0) (l : List A) (d : A) → P d → All P l → (k : ℕ) → P (get_or l k d)
  All_get_d P [] d p a k = p
  All_get_d P (x ∷ l) d p a zero = a.0
  All_get_d P (x ∷ l) d p a (suc k) = All_get_d P l d p a.1 k

  pub All_replicate : (P : A → Type 0) (x : A) → P x → (n : ℕ) → All P (replicate n x)
  All_replicate P x p zero = tt
  All_replicate P x p (suc n) = (p, All_replicate P x p n)

  pub All_set : (P : A → Type 0) (l : List A) (k : ℕ) (x : A) → P x → All P l → All P (set l k x)
  All_set P [] k x p a = tt
  All_set P (y ∷ l) zero x p a = (p, a.1)
  All_set P (y ∷ l) (suc k) x p a = (a.0, All_set P l k x p a.1)

  pub All_reverse : (P : A → Type 0) (l : List A) → All P l → All P (reverse l)
  All_reverse P [] h = tt
  All_reverse P (x ∷ l) h = rw (reverse-cons x l) (All_append P (reverse l) (x ∷ []) (All_reverse P l h.1) (h.0, tt))

  -- a fact of the members that pass a test
  pub All_filter : (p : A → Bool) (P : A → Type 0) (l : List A) → All (λ x. p x ≡ true → P x) l → All P (filter p l)
  All_filter p P [] h = tt
  All_filter p P (x ∷ l) h = go (p x) h.0 (All_filter p P l h.1)
    where
      go : (b : Bool) → (b ≡ true → P x) → All P (filter p l) → All P (cons_if b x (filter p l))
      go true f r = (f refl, r)
      go false f r = r

  pub All_unfilter : (p : A → Bool) (P : A → Type 0) (l : List A) → All P (filter p l) → All (λ x. p x ≡ true → P x) l
  All_unfilter p P [] h = tt
  All_unfilter p P (x ∷ l) h = go (p x) (All_unfilter p P l) h
    where
      go : (b : Bool) → (All P (filter p l) → All (λ x. p x ≡ true → P x) l) → All P (cons_if b x (filter p l)) → (b ≡ true → P x) × All (λ x. p x ≡ true → P x) l
      go true ih h = (λ e. h.0, ih h.1)
      go false ih h = (λ e. clash e refl, ih h)

  pub All_sub : (p : A → Bool) (P : A → Type 0) (l : List A) → All P l → All P (filter p l)
  All_sub p P l h = All_filter p P l (All_map P (λ x. p x ≡ true → P x) (λ x q e. q) l h)

  pub filter_cong : (p q : A → Bool) (l : List A) → All (λ x. p x ≡ q x) l → filter p l ≡ filter q l
  filter_cong p q [] h = refl
  filter_cong p q (x ∷ l) h = cc (filter_cong p q l h.1)

  pub filter_filter : (p q : A → Bool) (l : List A) → filter q (filter p l) ≡ filter (λ x. p x && q x) l
  filter_filter p q [] = refl
  filter_filter p q (x ∷ l) = go (p x) (filter_filter p q l)
    where
      go : (b : Bool) → filter q (filter p l) ≡ filter (λ x. p x && q x) l → filter q (cons_if b x (filter p l)) ≡ cons_if (b && q x) x (filter (λ x. p x && q x) l)
      go true e = ap (cons_if (q x) x) e
      go false e = e

  pub filter_all : (p : A → Bool) (l : List A) → All (λ x. p x ≡ true) l → filter p l ≡ l
  filter_all p [] h = refl
  filter_all p (x ∷ l) h = rw (h.0, filter_all p l h.1)

  pub filter_nothing : (p : A → Bool) (l : List A) → All (λ x. p x ≡ false) l → filter p l ≡ []
  filter_nothing p [] h = refl
  filter_nothing p (x ∷ l) h = rw h.0 (filter_nothing p l h.1)

  pub filter_append : (p : A → Bool) (l m : List A) → filter p (l ++ m) ≡ filter p l ++ filter p m
  filter_append p [] m = refl
  filter_append p (x ∷ l) m = go (p x) (filter_append p l m)
    where
      go : (b : Bool) → filter p (l ++ m) ≡ filter p l ++ filter p m → cons_if b x (filter p (l ++ m)) ≡ cons_if b x (filter p l) ++ filter p m
      go true e = ap {B = List A} (λ r. x ∷ r) e
      go false e = e

  pub filter_none : (p : A → Bool) (x : A) → p x ≡ false → (n : ℕ) → filter p (replicate n x) ≡ []
  filter_none p x e zero = refl
  filter_none p x e (suc n) = rw (e, filter_none p x e n)

  pub filter_reverse : (p : A → Bool) (l : List A) → filter p (reverse l) ≡ reverse (filter p l)
  filter_reverse p [] = refl
  filter_reverse p (x ∷ l) = rw (reverse-cons x l, filter_append p (reverse l) (x ∷ []), filter_reverse p l) (go (p x))
    where
      go : (b : Bool) → reverse (filter p l) ++ cons_if b x [] ≡ reverse (cons_if b x (filter p l))
      go true = sym (reverse-cons x (filter p l))
      go false = append-nil (reverse (filter p l))

  pub length_filter : (p : A → Bool) (l : List A) → length (filter p l) ≤ length l
  length_filter p [] = omega arith
  length_filter p (x ∷ l) = go (p x) (length_filter p l)
    where
      go : (b : Bool) → length (filter p l) ≤ length l → length (cons_if b x (filter p l)) ≤ suc (length l)
      go true h = omega arith
      go false h = omega arith

  pub any_false : (p : A → Bool) (l : List A) → All (λ x. p x ≡ false) l → any p l ≡ false
  any_false p [] h = refl
  any_false p (x ∷ l) h = rw h.0 (any_false p l h.1)

  pub any_none : (p : A → Bool) (l : List A) → any p l ≡ false → All (λ x. p x ≡ false) l
  any_none p [] h = tt
  any_none p (x ∷ l) h = let q = or_neither (p x) (any p l) h in (q.0, any_none p l q.1)

  -- what follows from each member that passes follows where one does
  pub any_found : (p : A → Bool) (Q : Type 0) (l : List A) → All (λ x. p x ≡ true → Q) l → any p l ≡ true → Q
  any_found p Q [] a h = clash h refl
  any_found p Q (x ∷ l) a h = go (test (p x)) (any_found p Q l a.1)
    where
      go : (p x ≡ true) ⊎ (p x ≡ false) → (any p l ≡ true → Q) → Q
      go (inl t) ih = a.0 t
      go (inr f) ih = ih (rw f at h)

  pub any_or : (p q : A → Bool) (l : List A) → any (λ x. p x || q x) l ≡ any p l || any q l
  any_or p q [] = refl
  any_or p q (x ∷ l) = rw (any_or p q l) (regroup (p x) (q x) (any p l) (any q l))
    where
      regroup : (a b c d : Bool) → (a || b) || (c || d) ≡ (a || c) || (b || d)
      regroup true b c d = refl
      regroup false true c d = sym (or-true c)
      regroup false false c d = refl

  -- what every member passes
  pub of_all : (p : A → Bool) (l : List A) → all p l ≡ true → All (λ x. p x ≡ true) l
  of_all p [] h = tt
  of_all p (x ∷ l) h = let b = and_both (p x) (all p l) h in (b.0, of_all p l b.1)

  pub all_of : (p : A → Bool) (l : List A) → All (λ x. p x ≡ true) l → all p l ≡ true
  all_of p [] h = refl
  all_of p (x ∷ l) h = rw h.0 (all_of p l h.1)

  pub all_append : (p : A → Bool) (l m : List A) → all p (l ++ m) ≡ all p l && all p m
  all_append p [] m = refl
  all_append p (x ∷ l) m = rw (all_append p l m) (sym (and_assoc (p x) (all p l) (all p m)))

  pub passes : (p : A → Bool) (l : List A) → All (λ x. p x ≡ true) (filter p l)
  passes p l = All_filter p (λ x. p x ≡ true) l (All_of (λ x. p x ≡ true → p x ≡ true) (λ x e. e) l)

module _ {A B : Type 0} where
  pub All_mapped : (f : A → B) (P : B → Type 0) (l : List A) → All (λ x. P (f x)) l → All P (map f l)
  All_mapped f P [] h = tt
  All_mapped f P (x ∷ l) h = (h.0, All_mapped f P l h.1)

  pub All_unmap : (f : A → B) (P : B → Type 0) (l : List A) → All P (map f l) → All (λ x. P (f x)) l
  All_unmap f P [] h = tt
  All_unmap f P (x ∷ l) h = (h.0, All_unmap f P l h.1)

  pub map_cong : (f g : A → B) (l : List A) → All (λ x. f x ≡ g x) l → map f l ≡ map g l
  map_cong f g [] h = refl
  map_cong f g (x ∷ l) h = cc (map_cong f g l h.1)

  pub filter_map : (f : A → B) (p : B → Bool) (l : List A) → filter p (map f l) ≡ map f (filter (λ x. p (f x)) l)
  filter_map f p [] = refl
  filter_map f p (x ∷ l) = go (p (f x)) (filter_map f p l)
    where
      go : (b : Bool) → filter p (map f l) ≡ map f (filter (λ x. p (f x)) l) → cons_if b (f x) (filter p (map f l)) ≡ map f (cons_if b x (filter (λ x. p (f x)) l))
      go true e = ap {B = List B} (λ r. f x ∷ r) e
      go false e = e

  pub any_map : (f : A → B) (p : B → Bool) (l : List A) → any p (map f l) ≡ any (λ x. p (f x)) l
  any_map f p [] = refl
  any_map f p (x ∷ l) = ap (λ r. p (f x) || r) (any_map f p l)

pub map_reverse : {A B : Type 0} (f : A → B) (l : List A) → map f (reverse l) ≡ reverse (map f l)
map_reverse f [] = refl
map_reverse f (x ∷ l) = rw (reverse-cons x l, map-append f (reverse l) (x ∷ []), map_reverse f l) (sym (reverse-cons (f x) (map f l)))

pub map_id : {A : Type 0} (l : List A) → map (λ (x : A). x) l ≡ l
map_id [] = refl
map_id (x ∷ l) = cc (map_id l)

-- a name is found among the members that a test of names keeps, if the test passes at it
module _ {A : Type 0} (name : A → ℕ) (k : ℕ → Bool) (x : ℕ) (h : k x ≡ true) where
  pub any_kept : (l : List A) → any (λ a. eqb x (name a)) (filter (λ a. k (name a)) l) ≡ any (λ a. eqb x (name a)) l
  any_kept [] = refl
  any_kept (a ∷ l) = go (test (eqb x (name a))) (test (k (name a))) (any_kept l)
    where
      kept : List A
      kept = filter (λ a. k (name a)) l

      go : (eqb x (name a) ≡ true) ⊎ (eqb x (name a) ≡ false) → (k (name a) ≡ true) ⊎ (k (name a) ≡ false) → any (λ a. eqb x (name a)) kept ≡ any (λ a. eqb x (name a)) l
          → any (λ a. eqb x (name a)) (cons_if (k (name a)) a kept) ≡ eqb x (name a) || any (λ a. eqb x (name a)) l
      go (inl e) (inl t) ih = rw (t, e)
      go (inr e) (inl t) ih = rw (t, e) ih
      go (inl e) (inr f) ih = clash h (ap k (eqb-true x (name a) e) ∙ f)
      go (inr e) (inr f) ih = rw (f, e) ih

-- the condition listed under a number
abbrev pub listed : ℕ → List (ℕ × Bool) → Bool
listed k [] = false
listed k (c ∷ cs) = cond (eqb k c.0) c.1 (listed k cs)

-- no condition holds where the first number is 0
pub first_none : (cs : List (ℕ × Bool)) → all (λ c. ltb 0 c.0) cs ≡ true → first cs ≡ 0 → (k : ℕ) → listed k cs ≡ false
first_none [] h e k = refl
first_none (c ∷ cs) h e k = go (test c.1) (first_none cs (and_both (ltb 0 c.0) (all (λ c. ltb 0 c.0) cs) h).1)
  where
    pick : (b : Bool) → listed k cs ≡ false → cond b false (listed k cs) ≡ false
    pick true r = refl
    pick false r = r

    go : (c.1 ≡ true) ⊎ (c.1 ≡ false) → (first cs ≡ 0 → (k : ℕ) → listed k cs ≡ false) → cond (eqb k c.0) c.1 (listed k cs) ≡ false
    go (inl t) ih = absurd (impossible (ltb-true 0 c.0 (and_both (ltb 0 c.0) (all (λ c. ltb 0 c.0) cs) h).0) (rw t at e))
      where
        impossible : 0 < c.0 → c.0 ≡ 0 → ⊥
        impossible l z = omega arith
    go (inr f) ih = rw f (pick (eqb k c.0) (ih (rw f at e) k))

-- the first number is 0 exactly where no condition holds
pub first_zero : (cs : List (ℕ × Bool)) → all (λ c. ltb 0 c.0) cs ≡ true → eqb (first cs) 0 ≡ all (λ c. not c.1) cs
first_zero [] h = refl
first_zero (c ∷ cs) h = go (test c.1) (first_zero cs p.1)
  where
    p : (ltb 0 c.0 ≡ true) × (all (λ c. ltb 0 c.0) cs ≡ true)
    p = and_both (ltb 0 c.0) (all (λ c. ltb 0 c.0) cs) h

    positive : (k : ℕ) → 0 < k → k ≡ 0 → ⊥
    positive k l z = omega arith

    go : (c.1 ≡ true) ⊎ (c.1 ≡ false) → eqb (first cs) 0 ≡ all (λ c. not c.1) cs → eqb (cond c.1 c.0 (first cs)) 0 ≡ not c.1 && all (λ c. not c.1) cs
    go (inl t) ih = rw t (ne_eqb c.0 0 (positive c.0 (ltb-true 0 c.0 p.0)))
    go (inr f) ih = rw f ih

pub final_append : {S E : Type 0} (after : S → E → S) (s : S) (es fs : List E) → final after s (es ++ fs) ≡ final after (final after s es) fs
final_append after s [] fs = refl
final_append after s (e ∷ es) fs = final_append after (after s e) es fs

pub answers_append : {S E A : Type 0} (after : S → E → S) (answer : S → E → A) (s : S) (es fs : List E) → answers after answer s (es ++ fs) ≡ answers after answer s es ++ answers after answer (final after s es) fs
answers_append after answer s [] fs = refl
answers_append after answer s (e ∷ es) fs = cc (answers_append after answer (after s e) es fs)
