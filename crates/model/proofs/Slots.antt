-- What is stored, slot by slot: a fact of each, and two lists of slots that agree.
-- Assumes nothing.
use mathlib.Core.Path.{◌≡◌, refl, ap}
use mathlib.Core.List.{List, [], ◌∷◌}
use Prim.Native.Nat.{ℕ, zero, suc}
use lib.ListN.{length, get_or, set, replicate}
use Rattle.model.specs.Slots.{Slot, Nothing, Stored, stored_or}

-- a fact of what is stored in a slot, if anything is
module _ {A : Type 0} (P : A → Type 0) where
  abbrev pub InSlot : Slot A → Type 0
  InSlot Nothing = Unit {0}
  InSlot (Stored a) = P a

  -- it is one of what a back brings
  pub in_stored : (a : A) → P a → (s : Slot A) → InSlot s → P (stored_or a s)
  in_stored a p Nothing h = p
  in_stored a p (Stored b) h = h

-- two lists of slots with the same ones empty, and in each other what agrees
module _ {A B : Type 0} (R : A → B → Type 0) where
  abbrev pub SlotBoth : Slot A → Slot B → Type 0
  SlotBoth Nothing Nothing = Unit {0}
  SlotBoth Nothing (Stored b) = ⊥
  SlotBoth (Stored a) Nothing = ⊥
  SlotBoth (Stored a) (Stored b) = R a b

  abbrev pub SlotsBoth : List (Slot A) → List (Slot B) → Type 0
  SlotsBoth [] [] = Unit {0}
  SlotsBoth [] (t ∷ ts) = ⊥
  SlotsBoth (s ∷ ss) [] = ⊥
  SlotsBoth (s ∷ ss) (t ∷ ts) = SlotBoth s t × SlotsBoth ss ts

  -- it is so of nothing stored, and after a mark in both
  pub both_first : (n : ℕ) → SlotsBoth (replicate n Nothing) (replicate n Nothing)
  both_first zero = tt
  both_first (suc n) = (tt, both_first n)

  pub both_set : (ss : List (Slot A)) (ts : List (Slot B)) → SlotsBoth ss ts → (a : A) (b : B) → R a b → (k : ℕ) → SlotsBoth (set ss k (Stored a)) (set ts k (Stored b))
  both_set [] [] m a b r k = tt
  both_set [] (t ∷ ts) m a b r k = absurd m
  both_set (s ∷ ss) [] m a b r k = absurd m
  both_set (s ∷ ss) (t ∷ ts) m a b r zero = (r, m.1)
  both_set (s ∷ ss) (t ∷ ts) m a b r (suc k) = (m.0, both_set ss ts m.1 a b r k)

  pub both_at : (ss : List (Slot A)) (ts : List (Slot B)) → SlotsBoth ss ts → (k : ℕ) → SlotBoth (get_or ss k Nothing) (get_or ts k Nothing)
  both_at [] [] m k = tt
  both_at [] (t ∷ ts) m k = absurd m
  both_at (s ∷ ss) [] m k = absurd m
  both_at (s ∷ ss) (t ∷ ts) m zero = m.0
  both_at (s ∷ ss) (t ∷ ts) m (suc k) = both_at ss ts m.1 k

  pub both_stored : (a : A) (b : B) → R a b → (s : Slot A) (t : Slot B) → SlotBoth s t → R (stored_or a s) (stored_or b t)
  both_stored a b r Nothing Nothing m = r
  both_stored a b r Nothing (Stored b') m = absurd m
  both_stored a b r (Stored a') Nothing m = absurd m
  both_stored a b r (Stored a') (Stored b') m = m

  pub both_length : (ss : List (Slot A)) (ts : List (Slot B)) → SlotsBoth ss ts → length ss ≡ length ts
  both_length [] [] m = refl
  both_length [] (t ∷ ts) m = absurd m
  both_length (s ∷ ss) [] m = absurd m
  both_length (s ∷ ss) (t ∷ ts) m = ap suc (both_length ss ts m.1)

module _ {A B : Type 0} (R S : A → B → Type 0) (f : (a : A) (b : B) → R a b → S a b) where
  one_map : (s : Slot A) (t : Slot B) → SlotBoth R s t → SlotBoth S s t
  one_map Nothing Nothing m = tt
  one_map Nothing (Stored b) m = absurd m
  one_map (Stored a) Nothing m = absurd m
  one_map (Stored a) (Stored b) m = f a b m

  pub both_map : (ss : List (Slot A)) (ts : List (Slot B)) → SlotsBoth R ss ts → SlotsBoth S ss ts
  both_map [] [] m = tt
  both_map [] (t ∷ ts) m = absurd m
  both_map (s ∷ ss) [] m = absurd m
  both_map (s ∷ ss) (t ∷ ts) m = (one_map s t m.0, both_map ss ts m.1)
