-- Document 01, "What each event does", its last paragraph: "A run takes lines until one is refused, and answers with the number of lines
-- allowed, or with the refusal and its line number from 1 (0 for refusal 1). The table is then as after the last allowed line." Card 11: a
-- stored table that is unfit "is 1 on going back to it; in a run this 1 carries its own line number, and the lines before it stand".
-- Assumes nothing.
use Rattle.std.specs.Prelude.{ℕ, suc, pred, ◌≤◌, ◌≡◌, Bool, true, false, cond, ◌&&◌, eqb, length, get_or, take}
use mathlib.Core.List.{List, [], flat_map}
use Rattle.model.specs.Lists.{all}
use Rattle.model.specs.Requests.{Limits, Caller, Back}
use Rattle.model.specs.Refusals.{unfit, unfit_stored}
use Rattle.model.specs.Counts.{count_refused}
use Rattle.model.specs.declared.Sheet.{Sheet}
use Rattle.model.specs.Slots.{Memory, Slot, Nothing, Stored, unstored}
use Rattle.model.specs.Step.{State, view}
use Rattle.text.specs.Line.{lines_of}
use Rattle.text.specs.Result.{value}
use Rattle.text.specs.Request.{read_request}
use Rattle.text.specs.declared.spelling.Spelling.{Spelling}
use Rattle.trace.specs.Run.{Ran, run}

-- lines put together to a text
abbrev pub joined : List (List ℕ) → List ℕ
joined = flat_map (λ (line : List ℕ). line)

-- the first k lines of a text, all of it where it has fewer
unfoldable pub first_lines : ℕ → List ℕ → List ℕ
first_lines k text = joined (take k (lines_of text))

-- Card 9: "The caller lends 8,192 bytes": what is stored has as many. So it is in every memory that can be lent (`lent_sized` of
-- proofs/Laws/Stops).
abbrev pub is_sized_slot : Slot Memory → Bool
is_sized_slot Nothing = true
is_sized_slot (Stored m) = eqb (length m.bits) 8192

-- In both spellings a line reads as a back, and where this is lent the table stored there "is out of order, over a lent limit, or has another
-- number of rows".
pub record UnfitBack (limits : Limits) (h : State) (line : List ℕ) : Type 0 where
  pub by : Caller
  pub slot : ℕ
  pub reads : (k : Spelling) → read_request limits k line ≡ value (Back by slot)
  pub unfit_stored_lem : unfit_stored (view h) (Back by slot) ≡ true

module _ (sheet : Sheet) (limits : Limits) where
  -- the run of the lines before the one of the number answered
  abbrev pub run_before : State → List ℕ → Ran State
  run_before h text = run sheet limits h (first_lines (pred (run sheet limits h text).number) text)

  -- "(0 for refusal 1)": of refusals, 1 and no other has line 0; and 1 with line 0 is given exactly where what is lent is unfit for any event,
  -- before any line
  pub record LineZero (h : State) (text : List ℕ) : Type 0 where
    pub given_1 : (eqb (run sheet limits h text).refusal 1 && eqb (run sheet limits h text).number 0) ≡ unfit limits (view h)
    -- Card 11: where "nothing is stored there at first", every 1 has line 0: all that the run itself stores stays fit to go back to.
    pub line_0 : h.slots ≡ unstored → (run sheet limits h text).refusal ≡ 1 → (run sheet limits h text).number ≡ 0
    pub only_1 : (k : ℕ) → (run sheet limits h text).refusal ≡ suc k → (run sheet limits h text).number ≡ 0 → k ≡ 0

  -- Any other refusal is of the line of its number: all lines before that one are allowed, and table, bits and what is stored are as after
  -- them. The tally has besides one refused event, but for a 1: "the lines before it stand", and it changes nothing.
  pub record RefusedLine (h : State) (text : List ℕ) : Type 0 where
    pub from_1 : 1 ≤ (run sheet limits h text).number
    pub a_line : (run sheet limits h text).number ≤ length (lines_of text)
    pub before_allowed : (run_before h text).refusal ≡ 0
    pub before_number : (run_before h text).number ≡ pred (run sheet limits h text).number
    pub same_memory : (run sheet limits h text).state.memory ≡ (run_before h text).state.memory
    pub same_stored : (run sheet limits h text).state.slots ≡ (run_before h text).state.slots
    pub counted : (run sheet limits h text).state.tally ≡ cond (eqb (run sheet limits h text).refusal 1) (run_before h text).state.tally (count_refused (run_before h text).state.tally)
    -- such a 1 is of a line that goes back to what is unfit
    pub back_1 : all is_sized_slot h.slots ≡ true → (run sheet limits h text).refusal ≡ 1 → UnfitBack limits (run_before h text).state (get_or (lines_of text) (pred (run sheet limits h text).number) [])

  -- a run of a text on whatever is lent
  pub record Stops (h : State) (text : List ℕ) : Type 0 where
    -- "takes lines until one is refused": what stands behind the line of its number changes nothing
    pub until : run sheet limits h (first_lines (run sheet limits h text).number text) ≡ run sheet limits h text
    -- "the number of lines allowed"
    pub allowed : (run sheet limits h text).refusal ≡ 0 → (run sheet limits h text).number ≡ length (lines_of text)
    pub line_zero : LineZero h text
    pub refused : unfit limits (view h) ≡ false → (k : ℕ) → (run sheet limits h text).refusal ≡ suc k → RefusedLine h text
