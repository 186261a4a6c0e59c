-- Document 01, "The history": a run judged by the history.
-- Assumes nothing.
use Rattle.std.specs.Prelude.{ℕ, ◌<◌, ◌≡◌, not, List}
use Rattle.model.specs.Requests.{Limits}
use Rattle.model.specs.declared.Tally.{Tally}
use Rattle.model.specs.Refusals.{unfit}
use Rattle.model.specs.declared.Sheet.{Sheet}
use Rattle.model.specs.Step.{initial}
use Rattle.model.specs.Bits.{bit_at}
use Rattle.model.specs.History.{History, empty_history, table, view, written}
use Rattle.model.specs.History
use Rattle.trace.specs.Run.{Checker, Ran, run_from, run}

module _ (sheet : Sheet) (limits : Limits) where
  -- the history over n rows, by a sheet, takes lines as the rules do; "A refused event changes nothing.", and so a misspelt line
  abbrev pub noted : ℕ → Checker History
  noted n = record {
    limits = limits;
    ordered = λ h. not (unfit limits (view sheet n h.kept h.notes h.count));
    answer = History.answer sheet n;
    after = History.after sheet n;
    misspelt = λ h. h;
  }

  abbrev pub history_run : ℕ → List ℕ → Ran History
  history_run n = run_from (noted n) empty_history

  -- A run of a text on n rows and 8,192 bytes of bits, all zeros, with a tally t whose issued number is 0, has the history's answer, table,
  -- issued number and written addresses.
  pub record SameRun (n : ℕ) (t : Tally) (text : List ℕ) : Type 0 where
    pub same_refusal : (run sheet limits (initial n t) text).refusal ≡ (history_run n text).refusal
    pub same_number : (run sheet limits (initial n t) text).number ≡ (history_run n text).number
    pub same_table : (run sheet limits (initial n t) text).state.memory.table ≡ table sheet n (history_run n text).state.notes
    pub same_bits : (a : ℕ) → a < 65536 → bit_at (run sheet limits (initial n t) text).state.memory.bits a ≡ written (history_run n text).state.notes a
    pub same_issued : (run sheet limits (initial n t) text).state.tally.issued ≡ (history_run n text).state.count
