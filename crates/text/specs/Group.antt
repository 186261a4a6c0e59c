-- Card 5, "frames dropped together", and card 10: the one spelling of names that are dropped together by a domain, what a line reads as, and what
-- the writer leaves. The line of a single name is that of a drop too.
-- Assumes nothing.
use Rattle.std.specs.Prelude.{◌≡◌, ℕ, zero, suc, ◌≤◌, Bool, cond, ◌&&◌, List, [], ◌∷◌, ◌++◌, leb, length, take, Err, Ok, Result as Returned}
use Rattle.model.specs.declared.Refusal.{Refusal}
use Rattle.std.proofs.lemmas.List.Edits.{sets}
use Rattle.model.specs.Answers.{number}
use Rattle.model.specs.Requests.{is_group}
use Rattle.model.specs.Table.{is_domain}
use Rattle.model.specs.Refusals.{misgrouped, not_a_domain}
use Rattle.text.specs.Result.{Result, value, refused}
use Rattle.text.specs.Line.{after_space}
use Rattle.text.specs.Decimal.{number_of}
use Rattle.text.specs.Event.{line, front, back}
use Rattle.text.specs.Write.{written, stored, Outcome, too_long}
use Rattle.text.specs.Read.{same, actor_of, form_of}

-- "`(drop 2 5 9)`", by the domain that acts, ended by byte 10
unfoldable pub spell_group : ℕ → List ℕ → List ℕ
spell_group actor names = front actor ++ line "(drop" names (back actor)

-- up to k numbers, each at the front of a word, until no word is left
unfoldable pub names_from : ℕ → List ℕ → List ℕ
names_from zero s = []
names_from (suc k) s = cond (leb 1 (length s)) (number_of s ∷ names_from k (after_space s)) []

-- The one list of up to 64 names whose form this can be. Nothing is refused here. That it misses no spelling is proved in proofs/Laws/GroupLine.
unfoldable pub guess_names : List ℕ → List ℕ
guess_names s = names_from 64 (after_space s)

-- a line is the spelling of a group by a domain
abbrev pub is_group_spelling : List ℕ → ℕ → List ℕ → Bool
is_group_spelling s actor names = is_group names && (is_domain actor && same s (spell_group actor names))

-- the domain and the names whose spelling a line is: "a line whose names don't rise strictly, or number above 64, is refusal 2"
unfoldable pub read_group : List ℕ → Result (ℕ × List ℕ)
read_group s =
    let actor = actor_of s in
    let names = guess_names (form_of s) in
    cond (is_group_spelling s actor names) (value (actor, names)) (refused 2)

-- The answer that each case of the code's answer stands for, the domain and how many names were read, and the lent names afterwards: those that were
-- read first, and the later ones as they were. That these are `names ++ drop (length names) before` is `names_after_lem` of proofs/Laws/Group.
abbrev pub group_answer : Returned (ℕ × ℕ) Refusal → Result (ℕ × ℕ)
group_answer (Ok (actor, n)) = value (actor, n)
group_answer (Err f) = refused (number f)

abbrev pub count_of : Result (ℕ × List ℕ) → Result (ℕ × ℕ)
count_of (value g) = value (g.0, length g.1)
count_of (refused n) = refused n

abbrev pub names_after : Result (ℕ × List ℕ) → List ℕ → List ℕ
names_after (value g) before = sets before 0 g.1
names_after (refused n) before = before

-- a group by a domain written into the buffer out: "13, a call whose lent list of names is empty, longer than 64 or not strictly rising", which
-- "leaves its buffer untouched", and else the line, or refusal 2 where there is no such domain, or 11
unfoldable pub write_group : ℕ → List ℕ → List ℕ → Outcome
write_group actor names out =
    let s = spell_group actor names in
    let line : Outcome = record { answer = written (is_domain actor) s out; buffer = stored (is_domain actor) s out } in
    let misgrouped : Outcome = record { answer = refused 13; buffer = out } in
    cond (is_group names) line misgrouped

-- What a group's writer refuses, in order of precedence: 13 is "after 1", and so before 2 and 11. That it is the number that `write_group` gives
-- is proved in proofs/Laws/Precedence.
unfoldable pub write_group_refusals : ℕ → List ℕ → List ℕ → List (ℕ × Bool)
write_group_refusals actor names out = (13, misgrouped names) ∷ (2, not_a_domain actor) ∷ (11, too_long (spell_group actor names) out) ∷ []

-- The rest is for the functions below the public calls.

-- the first r of the names are those that are guessed of a form
pub record Guessed (s names : List ℕ) (r : ℕ) : Type 0 where
  pub few : r ≤ 64
  pub full : length names ≡ 64
  pub first : take r names ≡ guess_names s
