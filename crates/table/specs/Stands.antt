-- The place that the engine finds for a name to be used, or the refusal.
-- Assumes nothing.
use Rattle.std.specs.Prelude.{ℕ, ◌<◌, ◌≡◌, Bool, List, [], ◌∷◌, ◌++◌, Err, Ok, Option, Result}
use Rattle.model.specs.declared.Refusal.{Refusal}
use Rattle.model.specs.declared.Name.{Name}
use Rattle.model.specs.declared.Span.{Span}
use Rattle.model.specs.declared.Cap.{Cap}
use Rattle.model.specs.Lists.{first}
use Rattle.model.specs.Step.{Verdict}
use Rattle.model.specs.Refusals.{not_a_domain, misgrouped, unissued, ended, too_deep, not_written, standing, standings, within, usable, room}
use Rattle.model.specs.Limits.{no_row, limit_reached}
use Rattle.model.specs.Requests.{Limits, caller}
use Rattle.model.specs.Answers.{number}
use Rattle.table.specs.Rows.{name_at, before}

-- no check of the list holds, and q is the name's place; or x is the first that holds
abbrev pub Passes : List Cap → ℕ → ℕ → List (ℕ × Bool) → Result ℕ Refusal → Type 0
Passes T k x checks (Ok q) = (first checks ≡ 0) × (q < k) × (name_at T q ≡ x)
Passes T k x checks (Err r) = first checks ≡ number r

-- 4 and 5: whether a capability of the name lives
abbrev pub living : List Cap → ℕ → Name → List (ℕ × Bool)
living rows issued u = (4, unissued rows issued u) ∷ (5, ended rows issued u) ∷ []

abbrev pub Lives : List Cap → ℕ → ℕ → Name → Result ℕ Refusal → Type 0
Lives T k issued u = Passes T k u.0 (living (before T k) issued u)

abbrev pub Stands : List Cap → ℕ → ℕ → ℕ → Name → Result ℕ Refusal → Type 0
Stands T k issued actor u = Passes T k u.0 (standing (before T k) issued actor u)

abbrev pub Serves : List Cap → ℕ → ℕ → ℕ → Name → Span → ℕ → Result ℕ Refusal → Type 0
Serves T k issued actor u s r = Passes T k u.0 (usable (before T k) issued actor u s r)

-- the checks of a read
abbrev pub read_checks : List Cap → ℕ → (ℕ → Bool) → ℕ → Name → Span → List (ℕ × Bool)
read_checks rows issued is_written actor u s = within rows issued actor u s ++ ((16, not_written rows issued is_written u s) ∷ [])

-- the checks of names dropped together
abbrev pub group_checks : List Cap → ℕ → ℕ → List ℕ → List (ℕ × Bool)
group_checks rows issued actor names = (13, misgrouped names) ∷ (2, not_a_domain actor) ∷ standings rows issued actor names

-- its answer, with name 0
abbrev pub said_of : Result ℕ Refusal → Verdict
said_of (Ok q) = record { refusal = 0; name = 0 }
said_of (Err r) = record { refusal = number r; name = 0 }

-- the checks of `room`, where k rows of n live
abbrev pub row_checks : List Cap → ℕ → ℕ → Limits → ℕ → List (ℕ × Bool)
row_checks T k n limits actor = (10, no_row limits (before T k) n) ∷ (18, limit_reached limits (before T k) actor) ∷ []

abbrev pub room_for : List Cap → ℕ → ℕ → ℕ → Limits → ℕ → Option Name → List (ℕ × Bool)
room_for T k n issued limits actor w = room (before T k) issued (caller actor limits) n w

-- the checks of a borrow behind 2
abbrev pub child_checks : List Cap → ℕ → ℕ → ℕ → Limits → ℕ → Option Name → Name → Span → ℕ → List (ℕ × Bool)
child_checks T k n issued limits actor w u s right = usable (before T k) issued actor u s right ++ ((8, too_deep (before T k) issued u) ∷ room_for T k n issued limits actor w)
