-- Document 01, "Values": "Name: 1 to 1,000,000, given out in order, never twice."
-- Assumes nothing.
use Rattle.std.specs.Prelude.{ℕ, zero, suc, ◌+◌, ◌≡◌, true, ◌&&◌, List, [], ◌∷◌, map, leb, ltb, length}
use Rattle.model.specs.declared.Sheet.{Sheet}
use Rattle.model.specs.Lists.{filter, all, answers, final}
use Rattle.model.specs.Requests.{Request, rises_above}
use Rattle.model.specs.Step.{Verdict, State, answer, after}

-- the names among answers: those that are not 0, which "stands for no parent" and is the name of every answer without one
abbrev pub names_in : List Verdict → List ℕ
names_in answers = filter (λ x. ltb 0 x) (map (λ v. v.name) answers)

-- the names given out by a list of requests
unfoldable pub given : Sheet → State → List Request → List ℕ
given sheet h qs = names_in (answers (after sheet) answer h qs)

-- x and the numbers after it, n in all
unfoldable pub count_from : ℕ → ℕ → List ℕ
count_from x zero = []
count_from x (suc n) = x ∷ count_from (suc x) n

-- Whatever is lent, and whatever is asked for:
pub record GivenInOrder (sheet : Sheet) (h : State) (qs : List Request) : Type 0 where
  -- "given out in order": from the one after the issued number on, none left out, and the issued number counts them
  pub in_turn_lem : given sheet h qs ≡ count_from (suc h.tally.issued) (length (given sheet h qs))
  pub issued_counts : (final (after sheet) h qs).tally.issued ≡ h.tally.issued + length (given sheet h qs)
  -- "never twice": each is above the one before it, and above all that were issued before
  pub rising : rises_above h.tally.issued (given sheet h qs) ≡ true
  -- "1 to 1,000,000"
  pub bounded : all (λ x. leb 1 x && leb x 1000000) (given sheet h qs) ≡ true
