-- Tests over lists, and a list without one member; the first of a list of checks that holds; and machines that take events in turn.
-- Assumes nothing.
use Rattle.std.specs.Prelude.{ℕ, zero, suc, Bool, true, false, cond, ◌&&◌, ◌||◌, List, [], ◌∷◌}

module _ {A : Type 0} where
  abbrev pub cons_if : Bool → A → List A → List A
  cons_if true x xs = x ∷ xs
  cons_if false x xs = xs

  -- the members that pass the test
  abbrev pub filter : (A → Bool) → List A → List A
  filter p [] = []
  filter p (x ∷ xs) = cons_if (p x) x (filter p xs)

  -- some member passes the test
  abbrev pub any : (A → Bool) → List A → Bool
  any p [] = false
  any p (x ∷ xs) = p x || any p xs

  -- every member passes the test
  abbrev pub all : (A → Bool) → List A → Bool
  all p [] = true
  all p (x ∷ xs) = p x && all p xs

  -- the list without its member at k
  abbrev pub without : ℕ → List A → List A
  without k [] = []
  without zero (x ∷ xs) = xs
  without (suc k) (x ∷ xs) = x ∷ without k xs

-- of checks, each a number and a condition: the first number whose condition holds, or 0
abbrev pub first : List (ℕ × Bool) → ℕ
first [] = 0
first (c ∷ cs) = cond c.1 c.0 (first cs)

-- a machine that takes events in turn: the state that it is left in, and its answers
module _ {S E : Type 0} (after : S → E → S) where
  abbrev pub final : S → List E → S
  final s [] = s
  final s (e ∷ es) = final (after s e) es

  module _ {A : Type 0} (answer : S → E → A) where
    abbrev pub answers : S → List E → List A
    answers s [] = []
    answers s (e ∷ es) = answer s e ∷ answers (after s e) es
