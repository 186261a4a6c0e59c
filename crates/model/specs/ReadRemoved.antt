-- Card 8, "how far one read reaches": what may change when one read is removed from a trace whose every event is allowed.
-- Assumes nothing.
use Rattle.std.specs.Prelude.{ℕ, suc, ◌≤◌, ◌<◌, ◌≡◌, ◌⊎◌, Bool, true, false, not, List, ◌∷◌, ◌++◌, map, length, get_or}
use Rattle.model.specs.declared.Name.{Name}
use Rattle.model.specs.declared.Span.{Span}
use Rattle.model.specs.declared.Cap.{Cap}
use Rattle.model.specs.declared.Event.TheVariants.{Read}
use Rattle.model.specs.declared.Access.TheVariants.{Reading}
use Rattle.model.specs.declared.Effect.{Effect}
use Rattle.model.specs.declared.Effect.TheVariants.{Keep, Lower, End}
use Rattle.model.specs.declared.Origin.{Origin}
use Rattle.model.specs.declared.Sheet.{Sheet}
use Rattle.model.specs.Lists.{any, all, without, answers, final}
use Rattle.model.specs.Requests.{Caller, Request, Single, turns_state}
use Rattle.model.specs.Strike.{is_end, result_of, struck}
use Rattle.model.specs.Table.{row, empty_row, derivation, derivations, named, live_rows}
use Rattle.model.specs.Effects.{lowered}
use Rattle.model.specs.Counts.{count_read}
use Rattle.model.specs.Step.{State, is_allowed, answer, after}
use Rattle.model.specs.Given.{given}

-- "a sheet in which no read ends anything"
abbrev pub NoReadEnds : Sheet → Type 0
NoReadEnds sheet = (kind : ℕ) (from : Origin) → is_end (result_of sheet kind Reading from) ≡ false

-- "struck": the sheet does not say `keep`
abbrev pub is_strike : Effect → Bool
is_strike Keep = false
is_strike Lower = true
is_strike End = true

-- "a capability alive"
abbrev pub lives_in : State → ℕ → Bool
lives_in h x = any (named x) (live_rows h.memory.table)

-- "which the read struck, or which has a struck ancestor": the read of s through u, of the capability x
abbrev pub read_strikes : Sheet → State → Name → Span → ℕ → Bool
read_strikes sheet h u s x = struck sheet is_strike Reading (derivations (live_rows h.memory.table)) u.0 s x

-- a row but for its right
abbrev pub rightless : Cap → Cap
rightless c = row (derivation c) 0 c.depth

-- What is lent at a read of s through u, at the end of a list of requests with that read, and at the end of the same list without it.
module _ (sheet : Sheet) (at_read : State) (u : Name) (s : Span) (with_read without_read : State) where
  -- the row at k of each table
  abbrev with : ℕ → Cap
  with k = get_or with_read.memory.table k empty_row

  abbrev left : ℕ → Cap
  left k = get_or without_read.memory.table k empty_row

  pub record OnlyRights : Type 0 where
    -- "The final tables differ only in rights."
    pub only_rights : map rightless with_read.memory.table ≡ map rightless without_read.memory.table
    -- "A right differs only for a capability alive at that read which the read struck, or which has a struck ancestor, and there it is `rw`
    -- in place of `ro`."
    pub rights_differ : (k : ℕ) → ((left k).right ≡ (with k).right)
        ⊎ ((lives_in at_read (left k).name.0 ≡ true) × (read_strikes sheet at_read u s (left k).name.0 ≡ true) × ((left k).right ≡ 2) × ((with k).right ≡ 1))
    -- So it is exactly: with the read, every capability that it struck, or that has a struck ancestor, is `ro`, and the others are as without it.
    pub exactly : with_read.memory.table ≡ map (λ c. lowered (read_strikes sheet at_read u s c.name.0) c) without_read.memory.table
    -- A read writes and stores nothing.
    pub same_bits : with_read.memory.bits ≡ without_read.memory.bits
    -- With the read its tally has one read more, and all else of it is the same.
    pub same_slots : with_read.slots ≡ without_read.slots
    pub one_read_more : with_read.tally ≡ count_read without_read.tally
    pub unless_full : with_read.tally.reads < 4294967295 → with_read.tally.reads ≡ suc without_read.tally.reads

-- Card 11: "card 8" supposes "that the trace never does" mark or go back: here, that it does not after the read.
abbrev pub NoStates : List Request → Type 0
NoStates qs = all (λ q. not (turns_state q)) qs ≡ true

-- What is lent at first may be anything: a trace begins with `initial`. The requests before the read, the read, and those after it.
module _ (sheet : Sheet) (lent : State) (before : List Request) (by : Caller) (u : Name) (s : Span) (later : List Request) where
  abbrev pub all_of : List Request
  all_of = before ++ (Single by (Read u s) ∷ later)

  abbrev pub at_read : State
  at_read = final (after sheet) lent before

  pub record ReadRemoved : Type 0 where
    -- "the remaining events are all allowed"
    pub all_allowed_lem : all is_allowed (answers (after sheet) answer lent (before ++ later)) ≡ true
    -- "with the same names": they have the answers that they had
    pub same_answers_lem : answers (after sheet) answer lent (before ++ later) ≡ without (length before) (answers (after sheet) answer lent all_of)
    -- "The final tables differ only in rights", and how
    pub rights : OnlyRights sheet at_read u s (final (after sheet) lent all_of) (final (after sheet) lent (before ++ later))

-- ---- several reads

-- The second list is the first without some of its reads. What is left without one is again a trace whose every event is allowed: so they
-- may go one after the other.
pub data Thinner : List Request → List Request → Type 0 where
  whole : (qs : List Request) → Thinner qs qs
  one_fewer : {qs : List Request} (before : List Request) (by : Caller) (u : Name) (s : Span) (later : List Request) → NoStates later → Thinner qs (before ++ (Single by (Read u s) ∷ later)) → Thinner qs (before ++ later)

pub record ReadsRemoved (sheet : Sheet) (lent : State) (qs thinner : List Request) : Type 0 where
  pub all_allowed_lem : all is_allowed (answers (after sheet) answer lent thinner) ≡ true
  pub same_names : given sheet lent thinner ≡ given sheet lent qs
  pub only_rights : map rightless (final (after sheet) lent qs).memory.table ≡ map rightless (final (after sheet) lent thinner).memory.table
  -- no right is lower without them
  pub none_lower : (k : ℕ) → (get_or (final (after sheet) lent qs).memory.table k empty_row).right ≤ (get_or (final (after sheet) lent thinner).memory.table k empty_row).right
