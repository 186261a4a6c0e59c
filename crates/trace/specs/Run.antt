-- Document 01, "What each event does", its last paragraph: a run; card 1: a trace whose first line is `(trace 2)`; card 5: lines that drop
-- names together; and card 11: marks and backs. "in a run this 1 carries its own line number, and the lines before it stand": like any refusal.
-- Assumes nothing.
use Rattle.std.specs.Prelude.{ℕ, ◌+◌, ◌≡◌, Bool, not, cond, List, [], ◌∷◌, eqb, Ok, Err, Result as Returned}
use Rattle.model.specs.declared.Sheet.{Sheet}
use Rattle.model.specs.Requests.{Limits, Request}
use Rattle.model.specs.declared.Tally.{Tally}
use Rattle.model.specs.Refusals.{unfit}
use Rattle.model.specs.Counts.{count_refused}
use Rattle.model.specs.Slots.{Memory, Slot}
use Rattle.model.specs.Step.{Verdict, State, view}
use Rattle.model.specs.Step
use Rattle.model.specs.Answers.{number, verdict_of}
use Rattle.rules.specs.declared.Outcome.{Outcome}
use Rattle.table.specs.Words.{rows_in}
use Rattle.rules.specs.Steps.{lends}
use Rattle.text.specs.Result.{Result, value, refused}
use Rattle.text.specs.Line.{lines_of}
use Rattle.text.specs.Event.{bytes}
use Rattle.text.specs.Read.{same}
use Rattle.text.specs.Group.{read_group}
use Rattle.text.specs.State.{read_state}
use Rattle.text.specs.Request.{or_state, state_of, read_request}
use Rattle.text.specs.declared.spelling.Spelling.{Spelling}
use Rattle.text.specs.declared.spelling.Spelling.TheVariants.{Plain, Named}
use Rattle.trace.specs.declared.run.RefusedAt.{RefusedAt}
use Rattle.trace.specs.declared.run.RunOutcome.{RunOutcome}

-- card 1: the first line of a trace whose creates and borrows write their new names
abbrev pub header : List ℕ
header = bytes "(trace 2)\n"

-- What takes the events of a run, over its own states: the sheet of limits that is lent with the run, or none; whether what it is lent is fit;
-- its answer to an event; and the state after an event and after a line that is refused for its spelling.
pub record Checker (S : Type 0) : Type 0 where
  pub limits : Limits
  pub ordered : S → Bool
  pub answer : S → Request → Verdict
  pub after : S → Request → S
  pub misspelt : S → S

-- what a line does: its refusal, 0 where it is allowed, and the state after it
pub record Taken (S : Type 0) : Type 0 where
  pub refusal : ℕ
  pub state : S

-- "answers with the number of lines allowed, or with the refusal and its line number from 1 (0 for refusal 1)": the refusal, 0 where
-- every line is allowed; the number of lines allowed, or of the line refused; and the state at the end
pub record Ran (S : Type 0) : Type 0 where
  pub refusal : ℕ
  pub number : ℕ
  pub state : S

module _ {S : Type 0} (c : Checker S) where
  -- a line that reads as an event or a group goes by its step; one that is not in the one spelling is refused
  abbrev pub take_read : S → Result Request → Taken S
  take_read s (value e) = record { refusal = (c.answer s e).refusal; state = c.after s e }
  take_read s (refused r) = record { refusal = r; state = c.misspelt s }

  abbrev pub take_line : Spelling → S → List ℕ → Taken S
  take_line k s line = take_read s (read_request c.limits k line)

  -- "takes lines until one is refused": the lines of a run, where so many were taken before them
  unfoldable pub run_lines : Spelling → ℕ → S → List (List ℕ) → Ran S
  run_lines k before s [] = record { refusal = 0; number = before; state = s }
  run_lines k before s (line ∷ lines) =
      let taken = take_line k s line in
      let rest = run_lines k (before + 1) taken.state lines in
      cond (eqb taken.refusal 0) rest (record { refusal = taken.refusal; number = before + 1; state = taken.state })

  -- "The first line is counted as a line but is no event. Old traces are still read"
  unfoldable pub run_trace : S → List (List ℕ) → Ran S
  run_trace s [] = run_lines Plain 0 s []
  run_trace s (line ∷ lines) = cond (same line header) (run_lines Named 1 s lines) (run_lines Plain 0 s (line ∷ lines))

  -- refusal 1, with any text and before its first line, changes nothing
  unfoldable pub run_from : S → List ℕ → Ran S
  run_from s text = cond (c.ordered s) (run_trace s (lines_of text)) (record { refusal = 1; number = 0; state = s })

-- the answer that each case of the code's answer stands for, with the state at the end
abbrev pub ran_of : Returned ℕ RefusedAt → State → Ran State
ran_of (Ok lines) h = record { refusal = 0; number = lines; state = h }
ran_of (Err at) h = record { refusal = number at.refusal; number = at.line; state = h }

-- Card 7: one sheet is "kept throughout"; and so is the sheet of limits of card 10, which is judged once, before the first line.
module _ (sheet : Sheet) (limits : Limits) where
  -- what the caller lends, by a conflict sheet: "Refusals 2 to 10 of .. a line in a run add one to the refused count and change no more"
  abbrev pub lent : Checker State
  lent = record {
    limits = limits;
    ordered = λ h. not (unfit limits (view h));
    answer = Step.answer;
    after = Step.after sheet;
    misspelt = λ h. record { memory = h.memory; tally = count_refused h.tally; slots = h.slots };
  }

  -- a run of a text on what the caller lends
  abbrev pub run : State → List ℕ → Ran State
  run = run_from lent

  -- a run on the words ws of a table, the bits bs and what is stored leaves the words ws', the bits bs' and what is stored then
  pub record Runs (ws : List (List ℕ)) (bs : List ℕ) (slots : List (Slot Memory)) (t : Tally) (text : List ℕ) (ws' : List (List ℕ)) (bs' : List ℕ) (slots' : List (Slot Memory)) (r : RunOutcome) : Type 0 where
    pub ran : ran_of r.answer (lends (rows_in ws') bs' slots' r.tally) ≡ run (lends (rows_in ws) bs slots t) text

  -- the lines of a text on them, in one spelling, where so many lines were taken before
  pub record RunsLines (k : Spelling) (before : ℕ) (ws : List (List ℕ)) (bs : List ℕ) (slots : List (Slot Memory)) (t : Tally) (text : List ℕ) (ws' : List (List ℕ)) (bs' : List ℕ) (slots' : List (Slot Memory)) (r : RunOutcome) : Type 0 where
    pub ran : ran_of r.answer (lends (rows_in ws') bs' slots' r.tally) ≡ run_lines lent k before (lends (rows_in ws) bs slots t) (lines_of text)

  -- what a line reads as, on them: its refusal, and the state after it
  pub record TakesRead (read : Result Request) (ws : List (List ℕ)) (bs : List ℕ) (slots : List (Slot Memory)) (t : Tally) (ws' : List (List ℕ)) (bs' : List ℕ) (slots' : List (Slot Memory)) (r : Outcome) : Type 0 where
    pub refusal : (verdict_of r.answer).refusal ≡ (take_read lent (lends (rows_in ws) bs slots t) read).refusal
    pub state : lends (rows_in ws') bs' slots' r.tally ≡ (take_read lent (lends (rows_in ws) bs slots t) read).state

  -- a line that is neither an event nor a group, one that is no event, and any line
  abbrev pub TakesState : List ℕ → List (List ℕ) → List ℕ → List (Slot Memory) → Tally → List (List ℕ) → List ℕ → List (Slot Memory) → Outcome → Type 0
  TakesState line = TakesRead (state_of limits (read_state line))

  abbrev pub TakesGroup : List ℕ → List (List ℕ) → List ℕ → List (Slot Memory) → Tally → List (List ℕ) → List ℕ → List (Slot Memory) → Outcome → Type 0
  TakesGroup line = TakesRead (or_state limits line (read_group line))

  abbrev pub Takes : Spelling → List ℕ → List (List ℕ) → List ℕ → List (Slot Memory) → Tally → List (List ℕ) → List ℕ → List (Slot Memory) → Outcome → Type 0
  Takes k line = TakesRead (read_request limits k line)
