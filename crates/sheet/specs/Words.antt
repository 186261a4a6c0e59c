-- Card 7: the words of a sheet's lines, and the number of each: its place in its list, from 0.
-- Assumes nothing.
use Rattle.std.specs.Prelude.{ℕ, suc, cond, List, [], ◌∷◌, ◌++◌, map}
use Rattle.text.specs.Event.{bytes}
use Rattle.text.specs.Read.{same}

-- "Holders are `reference`, `raw`, `cell`": by card 6 the numbers of their kinds
abbrev pub holder_words : List (List ℕ)
holder_words = bytes "reference" ∷ bytes "raw" ∷ bytes "cell" ∷ []

-- "accesses `read`, `write`"
abbrev pub access_words : List (List ℕ)
access_words = bytes "read" ∷ bytes "write" ∷ []

-- "from is `cell` [..] else `kin` [..] else `stranger`"
abbrev pub origin_words : List (List ℕ)
origin_words = bytes "cell" ∷ bytes "kin" ∷ bytes "stranger" ∷ []

-- "Results are `keep`, `lower`, `end`."
abbrev pub result_words : List (List ℕ)
result_words = bytes "keep" ∷ bytes "lower" ∷ bytes "end" ∷ []

-- words with what ends them in a line: a word of a bracket that is not its last, its last, and the last of a line
abbrev pub inside : List (List ℕ) → List (List ℕ)
inside words = map (λ (w : List ℕ). w ++ bytes " ") words

abbrev pub closing : List (List ℕ) → List (List ℕ)
closing words = map (λ (w : List ℕ). w ++ bytes ") ") words

abbrev pub ending : List (List ℕ) → List (List ℕ)
ending words = map (λ (w : List ℕ). w ++ bytes ")\n") words

-- the place of a word among others, from 0; behind them all where it is none of them
unfoldable pub number_among : List (List ℕ) → List ℕ → ℕ
number_among [] w = 0
number_among (v ∷ words) w = cond (same w v) 0 (suc (number_among words w))
