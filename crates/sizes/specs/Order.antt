-- Card 13, "lines are taken singly in turn from client 1, finished clients are passed over", worded a second time: not how the lines are
-- taken, but which stand in the list, and in which order. `turns` is such a list (`in_turn_lem` of proofs/Laws/Order).
-- Assumes nothing.
use Rattle.std.specs.Prelude.{ℕ, suc, ◌<◌, ◌≡◌, ◌⊎◌, List, [], ◌∷◌, eqb, get_or}
use Rattle.model.specs.Lists.{filter}
use Rattle.text.specs.Line.{lines_of}
use Rattle.sizes.specs.Turns.{Turn, turn, texts}

-- a client's lines, with their numbers from this one on
abbrev pub numbered : ℕ → ℕ → List (List ℕ) → List Turn
numbered client number [] = []
numbered client number (line ∷ lines) = turn client number line ∷ numbered client (suc number) lines

-- those of a list that are a client's
abbrev pub of_client : ℕ → List Turn → List Turn
of_client client = filter (λ t. eqb t.client client)

-- one line is taken before another: it has a lower number, or the same and an earlier client
abbrev pub Earlier : Turn → Turn → Type 0
Earlier t u = (t.number < u.number) ⊎ ((t.number ≡ u.number) × (t.client < u.client))

abbrev pub BeforeAll : Turn → List Turn → Type 0
BeforeAll t [] = Unit {0}
BeforeAll t (u ∷ us) = Earlier t u × BeforeAll t us

abbrev pub Rises : List Turn → Type 0
Rises [] = Unit {0}
Rises (t ∷ ts) = BeforeAll t ts × Rises ts

-- each client's lines are all in the list, in their order, from number 1; and each line of the list stands before the later ones
pub record InTurn (text lengths : List ℕ) (ts : List Turn) : Type 0 where
  pub each : (k : ℕ) → of_client (suc k) ts ≡ numbered (suc k) 1 (lines_of (get_or (texts text lengths) k []))
  pub none : of_client 0 ts ≡ []
  pub rises : Rises ts
