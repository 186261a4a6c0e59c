-- Card 13, "trying table sizes": what the clients' lines do, one after the other, on one table.
-- Assumes nothing.
use Rattle.std.specs.Prelude.{ℕ, zero, suc, cond, List, [], ◌∷◌, ◌++◌, eqb, get_or}
use Rattle.model.specs.declared.Name.{Name}
use Rattle.model.specs.declared.Event.{Event}
use Rattle.model.specs.declared.Event.TheVariants.{Create, Borrow, Read, Write, Drop}
use Rattle.model.specs.Requests.{Unlimited, Request, Single, caller}
use Rattle.model.specs.Counts.{tally}
use Rattle.model.specs.Sheet6.{sheet6}
use Rattle.model.specs.Step.{State, initial}
use Rattle.model.specs.Step
use Rattle.text.specs.Result.{Result, value, refused}
use Rattle.text.specs.Form.{read_form}
use Rattle.sizes.specs.Turns.{Turn}

-- ---- names

-- "names counted inside that client": of the names that the table gave to a client, the oldest first, the one that it calls by this number,
-- from 1. "one not yet given to that client is 4": it is translated to 0, which is refusal 4 in its place among the refusals.
abbrev pub known : List ℕ → ℕ → ℕ
known names zero = 0
known names (suc k) = get_or names k 0

abbrev pub known_name : List ℕ → Name → Name
known_name names u = record { 0 = known names u.0 }

-- "names are translated"
unfoldable pub translated : List ℕ → Event → Event
translated names (Create w s r) = Create w s r
translated names (Borrow w u s r) = Borrow w (known_name names u) s r
translated names (Read u s) = Read (known_name names u) s
translated names (Write u s) = Write (known_name names u) s
translated names (Drop u) = Drop (known_name names u)

-- ---- what all clients share

-- what is lent, and the names that each client was given, the oldest first
pub record Shared : Type 0 where
  pub state : State
  pub given : ℕ → List ℕ

-- a client gets a new name; 0 is none
abbrev pub give : ℕ → ℕ → (ℕ → List ℕ) → ℕ → List ℕ
give client zero given = given
give client (suc x) given = λ k. cond (eqb k client) (given k ++ (suc x ∷ [])) (given k)

-- "one table", of n rows: all zeros, with nothing written, nothing counted and no name given
abbrev pub fresh : ℕ → Shared
fresh n = record { state = initial n (tally 0 0 0 0 0 0 0); given = λ k. [] }

-- ---- lines

-- what a client's event asks for: "without limits", and, as document 01 knows no other, by domain 0
abbrev pub asked : Shared → ℕ → Event → Request
asked h client e = Single (caller 0 Unlimited) (translated (h.given client) e)

abbrev pub refusal_of : Shared → ℕ → Result Event → ℕ
refusal_of h client (value e) = (Step.answer h.state (asked h client e)).refusal
refusal_of h client (refused r) = r

-- "by card 6's sheet"
abbrev pub shared_after : Shared → ℕ → Result Event → Shared
shared_after h client (value e) =
    record { state = Step.after sheet6 h.state (asked h client e); given = give client (Step.answer h.state (asked h client e)).name h.given }
shared_after h client (refused r) = h

-- "each follow a trace in document 01's form": the refusal of a line, 0 where it is allowed, and what all share after it
unfoldable pub refusal : Shared → Turn → ℕ
refusal h t = refusal_of h t.client (read_form t.line)

unfoldable pub after : Shared → Turn → Shared
after h t = shared_after h t.client (read_form t.line)

-- where a run stops: the number of the refusal, its client, and the line within that client's trace; all 0 where every line is allowed
pub record Stop : Type 0 where
  pub refusal : ℕ
  pub client : ℕ
  pub line : ℕ

abbrev pub stop : ℕ → ℕ → ℕ → Stop
stop refusal client line = record { refusal = refusal; client = client; line = line }

unfoldable pub outcome : Shared → List Turn → Stop
outcome h [] = stop 0 0 0
outcome h (t ∷ ts) = cond (eqb (refusal h t) 0) (outcome (after h t) ts) (stop (refusal h t) t.client t.number)
