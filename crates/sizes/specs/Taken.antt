-- Card 13, "trying table sizes": the code's memory, and what all clients share.
-- Assumes nothing.
use Rattle.std.specs.Prelude.{ℕ, max, ◌≡◌, List, []}
use Rattle.model.specs.declared.Tally.{Tally}
use Rattle.model.specs.declared.Event.{Event}
use Rattle.model.specs.Slots.{unstored}
use Rattle.model.specs.Sheet6.{sheet6}
use Rattle.model.specs.Step
use Rattle.model.specs.Answers.{verdict_of}
use Rattle.table.specs.Words.{rows_in}
use Rattle.table.specs.Known.{Fit}
use Rattle.rules.specs.declared.Outcome.{Outcome}
use Rattle.rules.specs.Steps.{lends}
use Rattle.text.specs.Result.{Result}
use Rattle.sizes.specs.declared.turn.Standing.{Standing}
use Rattle.sizes.specs.declared.turn.Turned.{Turned}
use Rattle.sizes.specs.Clients.{Shared, asked, refusal_of, shared_after}
use Rattle.sizes.specs.Names.{Given, Counted, Listed, Keys}
use Rattle.sizes.specs.Peak.{needs_of}

-- the words of a table, its bits and where each row's parent stands; the list of names with their keys, and how many each client was given
pub record Memory : Type 0 where
  pub table : List (List ℕ)
  pub bits : List ℕ
  pub places : List ℕ
  pub names : List ℕ
  pub keys : List ℕ
  pub counts : List ℕ

abbrev pub memory : List (List ℕ) → List ℕ → List ℕ → List ℕ → List ℕ → List ℕ → Memory
memory table bits places names keys counts = record { table = table; bits = bits; places = places; names = names; keys = keys; counts = counts }

-- the memory, of whose rows and names so many are used, is that of what all clients share
pub record Holds (h : Shared) (m : Memory) (live used : ℕ) (t : Tally) : Type 0 where
  pub fit : Fit m.table m.bits live t.issued [] m.places
  pub state : h.state ≡ lends (rows_in m.table) m.bits unstored t
  pub listed : Listed (rows_in m.table) live m.names used
  pub keyed : Keys h.given m.names m.keys used
  pub given : Given h.given t.issued
  pub counted : Counted h.given m.counts

-- it is that of something
pub record Sound (m : Memory) (live used : ℕ) (t : Tally) : Type 0 where
  pub shared : Shared
  pub holds : Holds shared m live used t

-- by a standing: the tally, the rows that live and the names that are used
abbrev pub HoldsAt : Shared → Memory → Standing → Type 0
HoldsAt h m s = Holds h m s.live s.used s.tally

abbrev pub SoundAt : Memory → Standing → Type 0
SoundAt m s = Sound m s.live s.used s.tally

-- ---- an event

-- a client's event got the answer that the definition gives; where it is allowed, the new name and what is lent are those of the definition too
pub record Went (h : Shared) (client : ℕ) (e : Event) (table : List (List ℕ)) (bits : List ℕ) (r : Outcome) : Type 0 where
  pub state : Step.after sheet6 h.state (asked h client e) ≡ lends (rows_in table) bits unstored r.tally
  pub name : (verdict_of r.answer).name ≡ (Step.answer h.state (asked h client e)).name

pub record Answered (h : Shared) (client : ℕ) (e : Event) (table : List (List ℕ)) (bits : List ℕ) (r : Outcome) : Type 0 where
  pub refusal : (verdict_of r.answer).refusal ≡ (Step.answer h.state (asked h client e)).refusal
  pub went : (verdict_of r.answer).refusal ≡ 0 → Went h client e table bits r

-- whatever it is that the clients share
pub record Asks (m : Memory) (live used : ℕ) (t : Tally) (client : ℕ) (e : Event) (table : List (List ℕ)) (bits : List ℕ) (r : Outcome) : Type 0 where
  pub each : (h : Shared) → Holds h m live used t → Answered h client e table bits r

-- ---- a line

-- what a line reads as leaves this memory and this standing
pub record Taken (h : Shared) (client : ℕ) (read : Result Event) (most : ℕ) (m' : Memory) (r : Turned) : Type 0 where
  pub refusal : (verdict_of r.answer).refusal ≡ refusal_of h client read
  pub most_needed : r.standing.most ≡ max most (needs_of h read)
  pub goes : (verdict_of r.answer).refusal ≡ 0 → HoldsAt (shared_after h client read) m' r.standing

pub record Takes (m : Memory) (s : Standing) (client : ℕ) (read : Result Event) (m' : Memory) (r : Turned) : Type 0 where
  pub each : (h : Shared) → HoldsAt h m s → Taken h client read s.most m' r
