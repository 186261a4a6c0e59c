-- Card 13, "trying table sizes": what the code knows of the clients' texts, and what some lines come to.
-- Assumes nothing.
use Rattle.std.specs.Prelude.{ℕ, zero, suc, ◌-◌, ◌<◌, ◌≤◌, ◌≡◌, Bool, true, false, List, [], ◌∷◌, ◌++◌, length, get_or, take, drop, Err, Ok, Result}
use Rattle.model.specs.declared.Name.{Name}
use Rattle.model.specs.declared.Refusal.{Refusal}
use Rattle.model.specs.Answers.{number}
use Rattle.model.specs.Limits.{sum}
use Rattle.text.specs.Line.{lines_of}
use Rattle.sizes.specs.declared.turn.Standing.{Standing}
use Rattle.sizes.specs.Turns.{Turn, one_round, behind}
use Rattle.sizes.specs.Clients.{Shared, stop}
use Rattle.sizes.specs.Report as report
use Rattle.sizes.specs.Peak.{sized}
use Rattle.sizes.specs.Taken.{Memory, HoldsAt}

-- ---- what is left of the texts

-- of the client counted k from 0, whose next line begins at a place, and whose text ends at another
abbrev pub left_at : List ℕ → List ℕ → List ℕ → ℕ → List ℕ
left_at text at ends k = take (get_or ends k 0 - get_or at k 0) (drop (get_or at k 0) text)

-- the lines of n clients from that one on
unfoldable pub lines_from : List ℕ → List ℕ → List ℕ → ℕ → ℕ → List (List (List ℕ))
lines_from text at ends k zero = []
lines_from text at ends k (suc n) = lines_of (left_at text at ends k) ∷ lines_from text at ends (suc k) n

-- where each client's text begins and ends in a text of all, by its length
pub record Laid (lengths at ends : List ℕ) : Type 0 where
  pub long : length at ≡ 8
  pub begins : (k : ℕ) → k < length lengths → get_or at k 0 ≡ sum (take k lengths)
  pub stops : (k : ℕ) → k < length lengths → get_or ends k 0 ≡ sum (take (suc k) lengths)

-- of the first clients, places in a text
pub record Places (text at ends : List ℕ) (clients : ℕ) : Type 0 where
  pub long : length at ≡ 8
  pub rising : (k : ℕ) → k < clients → get_or at k 0 ≤ get_or ends k 0
  pub inside : (k : ℕ) → k < clients → get_or ends k 0 ≤ length text

-- a client's line is taken, if it had one left, and the other clients have what they had
pub record Advanced (text at ends at' : List ℕ) (client : ℕ) : Type 0 where
  pub long : length at' ≡ 8
  pub fits : get_or at' client 0 ≤ get_or ends client 0
  pub taken : lines_of (left_at text at' ends client) ≡ behind (lines_of (left_at text at ends client))
  pub others : (k : ℕ) → (k ≡ client → ⊥) → get_or at' k 0 ≡ get_or at k 0

-- each of the first clients' lines is
pub record AllAdvanced (text at ends at' : List ℕ) (clients : ℕ) : Type 0 where
  pub places : Places text at' ends clients
  pub taken : (k : ℕ) → k < clients → lines_of (left_at text at' ends k) ≡ behind (lines_of (left_at text at ends k))

-- whether one of them has a line left
pub record Left (at ends : List ℕ) (clients : ℕ) (some : Bool) : Type 0 where
  pub yes : some ≡ true → (k : ℕ) × ((k < clients) × (get_or at k 0 < get_or ends k 0))
  pub no : some ≡ false → (k : ℕ) → k < clients → get_or ends k 0 ≤ get_or at k 0

-- ---- what lines come to

-- after these lines the memory is that of what the clients share, and with any more lines the report is the same
pub record Reached (h : Shared) (ts more : List Turn) (most : ℕ) (m' : Memory) (s' : Standing) : Type 0 where
  pub shared : Shared
  pub holds : HoldsAt shared m' s'
  pub same : sized h most (ts ++ more) ≡ sized shared s'.most more

-- lines whose number is so, from whatever the clients share: all are allowed, or one of a client is the first that is refused
pub record Runs (m : Memory) (s : Standing) (ts : ℕ → List Turn) (m' : Memory) (answer : Result Name Refusal) (client : ℕ) (s' : Standing) : Type 0 where
  pub on : (h : Shared) (line : ℕ) (more : List Turn) → HoldsAt h m s → (x : Name) → answer ≡ Ok x → Reached h (ts line) more s.most m' s'
  pub stops : (h : Shared) (line : ℕ) (more : List Turn) → HoldsAt h m s → (x : Refusal) → answer ≡ Err x
      → sized h s.most (ts line ++ more) ≡ report.refused (stop (number x) client line)

-- the next line of one client, and of each
abbrev pub turn_of : List ℕ → List ℕ → List ℕ → ℕ → ℕ → List Turn
turn_of text at ends client line = one_round (suc client) line (lines_of (left_at text at ends client) ∷ [])

abbrev pub round_of : List ℕ → List ℕ → List ℕ → ℕ → ℕ → List Turn
round_of text at ends clients line = one_round 1 line (lines_from text at ends 0 clients)
