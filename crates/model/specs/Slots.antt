-- Card 11, "states to come back to": what is stored, and where.
-- Assumes nothing.
use Rattle.std.specs.Prelude.{ℕ, Bool, true, false, List, replicate}
use Rattle.model.specs.declared.Cap.{Cap}

-- the table, and by card 9 the written bits: a mark "stores the table and written bits"
pub record Memory : Type 0 where
  pub table : List Cap
  pub bits : List ℕ

-- one of the places in which a mark stores: nothing is stored there, or this
pub data Slot (A : Type 0) : Type 0 where
  Nothing : Slot A
  Stored : A → Slot A

abbrev pub is_nothing : {A : Type 0} → Slot A → Bool
is_nothing Nothing = true
is_nothing (Stored a) = false

-- what is stored there, or this where nothing is
abbrev pub stored_or : {A : Type 0} → A → Slot A → A
stored_or a Nothing = a
stored_or a (Stored b) = b

-- "memory the caller lends for eight states"; "nothing is stored there at first"
abbrev pub unstored : {A : Type 0} → List (Slot A)
unstored = replicate 8 Nothing

-- what can be told of it
abbrev pub slot_map : {A B : Type 0} → (A → B) → Slot A → Slot B
slot_map f Nothing = Nothing
slot_map f (Stored a) = Stored (f a)
