-- Card 13, "trying table sizes": the clients' texts, and the order in which their lines are taken.
-- Assumes nothing.
use Rattle.std.specs.Prelude.{ℕ, zero, suc, max, List, [], ◌∷◌, ◌++◌, map, length, take, drop}
use Rattle.text.specs.Line.{lines_of}

-- "their texts lent end to end with a list of lengths"
unfoldable pub texts : List ℕ → List ℕ → List (List ℕ)
texts text [] = []
texts text (n ∷ lengths) = take n text ∷ texts (drop n text) lengths

-- a line that is taken: its client, its number within that client's trace, both from 1, and its bytes
pub record Turn : Type 0 where
  pub client : ℕ
  pub number : ℕ
  pub line : List ℕ

abbrev pub turn : ℕ → ℕ → List ℕ → Turn
turn client number line = record { client = client; number = number; line = line }

-- "singly in turn": a round has one line of each client that has one left, from this client on; "finished clients are passed over"
unfoldable pub one_round : ℕ → ℕ → List (List (List ℕ)) → List Turn
one_round client number [] = []
one_round client number ([] ∷ others) = one_round (suc client) number others
one_round client number ((line ∷ lines) ∷ others) = turn client number line ∷ one_round (suc client) number others

-- a client's lines after a round
abbrev pub behind : List (List ℕ) → List (List ℕ)
behind [] = []
behind (line ∷ lines) = lines

-- so many rounds, where the lines that come next have this number
unfoldable pub rounds : ℕ → ℕ → List (List (List ℕ)) → List Turn
rounds zero number left = []
rounds (suc more) number left = one_round 1 number left ++ rounds more (suc number) (map behind left)

-- as many as the longest trace has lines
unfoldable pub longest : List (List (List ℕ)) → ℕ
longest [] = 0
longest (lines ∷ others) = max (length lines) (longest others)

-- "lines are taken singly in turn from client 1": in which order does not depend on what they say. Each line is taken once, and the numbers
-- and clients of the lines that are taken rise (proofs/Laws/Order).
abbrev pub turns : List ℕ → List ℕ → List Turn
turns text lengths = let left = map lines_of (texts text lengths) in rounds (longest left) 1 left
