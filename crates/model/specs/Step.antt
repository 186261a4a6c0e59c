-- Document 01, "What each event does" and "Eleven ways to be turned down": one request on what the caller lends.
-- Assumes nothing.
use Rattle.std.specs.Prelude.{ℕ, zero, suc, Bool, cond, List, eqb, length, get_or, set, replicate}
use Rattle.model.specs.declared.Tally.{Tally}
use Rattle.model.specs.declared.Sheet.{Sheet}
use Rattle.model.specs.Lists.{final}
use Rattle.model.specs.Table.{empty_row, live_rows, lent_table}
use Rattle.model.specs.Requests.{Request, Single, Group, Mark, Back}
use Rattle.model.specs.Slots.{Memory, Slot, Nothing, Stored, stored_or, unstored}
use Rattle.model.specs.Refusals.{View, view_of, judge}
use Rattle.model.specs.Bits.{bits_after}
use Rattle.model.specs.Effects.{rows_after, new_name}
use Rattle.model.specs.Counts.{count_allowed, count_refused}

-- an answer in this paper's numbers: the refusal, 0 for allowed, and the name
pub record Verdict : Type 0 where
  pub refusal : ℕ
  pub name : ℕ

-- "A refusal carries name 0."
abbrev pub verdict : ℕ → ℕ → Verdict
verdict refusal name = record { refusal = refusal; name = cond (eqb refusal 0) name 0 }

abbrev pub is_allowed : Verdict → Bool
is_allowed v = eqb v.refusal 0

-- what the caller lends; by card 11 also slots in which states are stored
pub record State : Type 0 where
  pub memory : Memory
  pub tally : Tally
  pub slots : List (Slot Memory)

-- what of it a request is judged on
abbrev pub view : State → View
view h = view_of h.memory.table h.memory.bits h.slots h.tally.issued

-- the answer to a request
unfoldable pub answer : State → Request → Verdict
answer h q = verdict (judge (view h) q) (new_name h.tally.issued q)

-- by this conflict sheet, the table and the bits after an allowed event, or after names are dropped together
abbrev pub worked : Sheet → ℕ → Memory → Request → Memory
worked sheet issued m q = record { table = lent_table (length m.table) (rows_after sheet issued (live_rows m.table) q); bits = bits_after m.bits q }

-- and after every allowed request: `(mark K)` "stores the table and written bits", and `(back K)` "brings them back"
abbrev pub memory_after : Sheet → State → Request → Memory
memory_after sheet h (Single by e) = worked sheet h.tally.issued h.memory (Single by e)
memory_after sheet h (Group by names) = worked sheet h.tally.issued h.memory (Group by names)
memory_after sheet h (Mark by k) = h.memory
memory_after sheet h (Back by k) = stored_or h.memory (get_or h.slots k Nothing)

-- "only marks change it": the slots after an allowed request, where this is what a mark stores
abbrev pub slots_after : {A : Type 0} → A → List (Slot A) → Request → List (Slot A)
slots_after present slots (Single by e) = slots
slots_after present slots (Group by names) = slots
slots_after present slots (Mark by k) = set slots k (Stored present)
slots_after present slots (Back by k) = slots

-- what is lent after a request that gets this number: allowed, refusal 1, which changes nothing, or another refusal
abbrev pub outcome : Sheet → ℕ → State → Request → State
outcome sheet zero h q = record { memory = memory_after sheet h q; tally = count_allowed q h.tally; slots = slots_after h.memory h.slots q }
outcome sheet (suc zero) h q = h
outcome sheet (suc (suc k)) h q = record { memory = h.memory; tally = count_refused h.tally; slots = h.slots }

unfoldable pub after : Sheet → State → Request → State
after sheet h q = outcome sheet (judge (view h) q) h q

-- "The list begins with any number of rows, all zeros"; card 9: the bytes are "all zero at first"; card 11: "nothing is stored there at
-- first"
abbrev pub initial : ℕ → Tally → State
initial n t = record { memory = record { table = replicate n empty_row; bits = replicate 8192 0 }; tally = t; slots = unstored }

-- what the caller has after a list of requests, with one sheet kept throughout
abbrev pub state_after : Sheet → ℕ → Tally → List Request → State
state_after sheet n t = final (after sheet) (initial n t)
