-- Card 7: "All 18 combinations must be given once." The rules of a sheet, when they make one, and which.
-- Assumes nothing.
use Rattle.std.specs.Prelude.{ℕ, ◌+◌, ◌*◌, ◌/◌, ◌%◌, not, cond, eqb, ltb, length}
use mathlib.Core.List.{List, [], ◌∷◌, map, flat_map}
use Rattle.model.specs.Lists.{filter, any, first}
use Rattle.sheet.specs.Rule.{Rule, is_rule}

-- the 18 combinations by their places: a holder's kind, then the access, then where it comes from
abbrev pub places : List ℕ
places = 0 ∷ 1 ∷ 2 ∷ 3 ∷ 4 ∷ 5 ∷ 6 ∷ 7 ∷ 8 ∷ 9 ∷ 10 ∷ 11 ∷ 12 ∷ 13 ∷ 14 ∷ 15 ∷ 16 ∷ 17 ∷ []

abbrev pub holder_at : ℕ → ℕ
holder_at place = place / 6

abbrev pub access_at : ℕ → ℕ
access_at place = place / 3 % 2

abbrev pub origin_at : ℕ → ℕ
origin_at place = place % 3

-- how often a number is listed
unfoldable pub times : ℕ → List ℕ → ℕ
times n numbers = length (filter (eqb n) numbers)

-- how often a rule gives a combination: a word that is repeated gives it again
unfoldable pub given_by : Rule → ℕ → ℕ
given_by r place = times (holder_at place) r.holders * times (access_at place) r.accesses * times (origin_at place) r.origins

unfoldable pub given : List Rule → ℕ → ℕ
given [] place = 0
given (r ∷ rules) place = given_by r place + given rules place

-- "14, a combination given twice; 15, one missing; in that order after 2", and 2 where a line is no rule: the first that holds, 0 for none
unfoldable pub judge_rules : List Rule → ℕ
judge_rules rules =
    first ((2, any (λ r. not (is_rule r)) rules) ∷ (14, any (λ p. ltb 1 (given rules p)) places) ∷ (15, any (λ p. eqb (given rules p) 0) places) ∷ [])

-- the result of the first rule that gives a combination, `end` where none does; where each is given once, of the rule that gives it
unfoldable pub result_given : List Rule → ℕ → ℕ
result_given [] place = 2
result_given (r ∷ rules) place = cond (eqb (given_by r place) 0) (result_given rules place) r.result

-- the sheet as 18 bytes
abbrev pub bytes_given : List Rule → List ℕ
bytes_given rules = map (result_given rules) places

-- ---- the same worded again, with no product: the places of all combinations that a rule gives, one for each holder, each access and each
-- origin that it lists. A combination is given as often as its place is among those of all rules (proofs/Laws/Rules).

unfoldable pub combinations : Rule → List ℕ
combinations r = flat_map (λ h. flat_map (λ a. map (λ o. h * 6 + a * 3 + o) r.origins) r.accesses) r.holders
