-- Card 8: "The final tables differ only in rights." This is said of two listings, which is how a table is seen.
-- Assumes nothing.
use Rattle.std.specs.Prelude.{ℕ, List, [], ◌∷◌, ◌++◌}
use Rattle.text.specs.Event.{bytes}

-- two texts that are the same but for some words `ro` of the first that are `rw` in the second
pub data SameButRights : List ℕ → List ℕ → Type 0 where
  done : SameButRights [] []
  byte : (b : ℕ) {s t : List ℕ} → SameButRights s t → SameButRights (b ∷ s) (b ∷ t)
  right : {s t : List ℕ} → SameButRights s t → SameButRights (bytes " ro" ++ s) (bytes " rw" ++ t)
