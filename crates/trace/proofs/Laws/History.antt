-- A run of a trace from an empty table has the history's verdicts: by the theorem about lists of events, line by line.
-- Assumes nothing.
use mathlib.Core.Path.{◌≡◌, refl, ap}
use mathlib.Core.Bool.{Bool, true, false, not, cond}
use mathlib.Core.List.{List, [], ◌∷◌}
use Prim.Native.Nat.{ℕ, ◌+◌}
use native.Mathlib.Omega.{arith}
use lib.Dec.{eqb}
use Rattle.model.specs.Requests.{Limits, caller, Request, Mark}
use Rattle.model.specs.declared.Tally.{Tally}
use Rattle.model.specs.Refusals.{unfit, refusals, judge}
use Rattle.model.specs.declared.Sheet.{Sheet}
use Rattle.model.specs.Step.{Verdict, State, view, initial}
use Rattle.model.specs.Step
use Rattle.model.specs.History.{History, empty_history}
use Rattle.model.specs.History
use Rattle.model.proofs.Offered.{Match, at_first, match_answer, match_after}
use Rattle.text.specs.Result.{Result, value, refused}
use Rattle.text.specs.Line.{lines_of}
use Rattle.text.specs.Read.{same}
use Rattle.text.specs.declared.spelling.Spelling.{Spelling}
use Rattle.text.specs.declared.spelling.Spelling.TheVariants.{Plain, Named}
use Rattle.text.specs.Request.{read_request}
use Rattle.trace.specs.Run.{header, Taken, Ran, take_read, take_line, run_lines, run_trace, run_from, lent}
use Rattle.trace.specs.HistoryRun.{noted, SameRun}

module _ (sheet : Sheet) (limits : Limits) (n : ℕ) where
  -- a line, and a run, of the lent table and of the history
  record SameLine (r : Taken State) (q : Taken History) : Type 0 where
    refusals : r.refusal ≡ q.refusal
    match : Match sheet n r.state q.state

  record Same (r : Ran State) (q : Ran History) : Type 0 where
    refusals : r.refusal ≡ q.refusal
    numbers : r.number ≡ q.number
    match : Match sheet n r.state q.state

  same_line : (k : Spelling) (h : State) (H : History) → Match sheet n h H → (l : List ℕ) → SameLine (take_line (lent sheet limits) k h l) (take_line (noted sheet limits n) k H l)
  same_line k h H m l = go (read_request limits k l)
    where
      go : (r : Result Request) → SameLine (take_read (lent sheet limits) h r) (take_read (noted sheet limits n) H r)
      go (value q) =
          record { refusals = ap (λ (v : Verdict). v.refusal) (match_answer sheet n h H m q); match = match_after sheet n h H m q }
      go (refused x) = record { refusals = refl; match = record { memory = m.memory; same_issued = m.same_issued; slots = m.slots } }

  same_lines : (k : Spelling) (before : ℕ) (h : State) (H : History) → Match sheet n h H → (ls : List (List ℕ)) → Same (run_lines (lent sheet limits) k before h ls) (run_lines (noted sheet limits n) k before H ls)
  unfolding run_lines
  same_lines k before h H m [] = record { refusals = refl; numbers = refl; match = m }
  same_lines k before h H m (l ∷ ls) = rw s.refusals (go (eqb t.refusal 0) (same_lines k (before + 1) (take_line (lent sheet limits) k h l).state t.state s.match ls))
    where
      s : SameLine (take_line (lent sheet limits) k h l) (take_line (noted sheet limits n) k H l)
      s = same_line k h H m l

      t : Taken History
      t = take_line (noted sheet limits n) k H l

      go : (b : Bool) → Same (run_lines (lent sheet limits) k (before + 1) (take_line (lent sheet limits) k h l).state ls) (run_lines (noted sheet limits n) k (before + 1) (take_line (noted sheet limits n) k H l).state ls)
          → Same (cond b (run_lines (lent sheet limits) k (before + 1) (take_line (lent sheet limits) k h l).state ls) (record { refusal = (take_line (noted sheet limits n) k H l).refusal; number = before + 1; state = (take_line (lent sheet limits) k h l).state }))
          (cond b (run_lines (noted sheet limits n) k (before + 1) (take_line (noted sheet limits n) k H l).state ls) (record { refusal = (take_line (noted sheet limits n) k H l).refusal; number = before + 1; state = (take_line (noted sheet limits n) k H l).state }))
      go true rest = rest
      go false rest = record { refusals = refl; numbers = refl; match = s.match }

  same_trace : (h : State) (H : History) → Match sheet n h H → (ls : List (List ℕ)) → Same (run_trace (lent sheet limits) h ls) (run_trace (noted sheet limits n) H ls)
  unfolding run_trace
  same_trace h H m [] = same_lines Plain 0 h H m []
  same_trace h H m (l ∷ ls) = go (same l header)
    where
      go : (b : Bool) → Same (cond b (run_lines (lent sheet limits) Named 1 h ls) (run_lines (lent sheet limits) Plain 0 h (l ∷ ls))) (cond b (run_lines (noted sheet limits n) Named 1 H ls) (run_lines (noted sheet limits n) Plain 0 H (l ∷ ls)))
      go true = same_lines Named 1 h H m ls
      go false = same_lines Plain 0 h H m (l ∷ ls)

  -- both are fit, or neither: a mark in a slot by a domain is refused for nothing else
  same_unfit : (h : State) (H : History) → Match sheet n h H → unfit limits (view h) ≡ unfit limits (History.view sheet n H.kept H.notes H.count)
  unfolding Step.answer History.answer judge refusals
  same_unfit h H m = go (unfit limits (view h)) (unfit limits (History.view sheet n H.kept H.notes H.count)) (ap (λ (v : Verdict). v.refusal) (match_answer sheet n h H m (Mark (caller 0 limits) 0)))
    where
      go : (a b : Bool) → ◌≡◌ {A = ℕ} (cond a 1 0) (cond b 1 0) → a ≡ b
      go true true e = refl
      go true false e = absurd (let z : ◌≡◌ {A = ℕ} 1 0 = e in omega arith)
      go false true e = absurd (let z : ◌≡◌ {A = ℕ} 0 1 = e in omega arith)
      go false false e = refl

  same_from : (h : State) (H : History) → Match sheet n h H → (text : List ℕ) → Same (run_from (lent sheet limits) h text) (run_from (noted sheet limits n) H text)
  unfolding run_from
  same_from h H m text = rw (same_unfit h H m) (go (not (unfit limits (History.view sheet n H.kept H.notes H.count))))
    where
      go : (b : Bool) → Same (cond b (run_trace (lent sheet limits) h (lines_of text)) (record { refusal = 1; number = 0; state = h })) (cond b (run_trace (noted sheet limits n) H (lines_of text)) (record { refusal = 1; number = 0; state = H }))
      go true = same_trace h H m (lines_of text)
      go false = record { refusals = refl; numbers = refl; match = m }

pub same_run : (sheet : Sheet) (limits : Limits) (n : ℕ) (t : Tally) → t.issued ≡ 0 → (text : List ℕ) → SameRun sheet limits n t text
same_run sheet limits n t z text =
    let s = same_from sheet limits n (initial n t) empty_history (at_first sheet n t z) text in
    record {
      same_refusal = s.refusals;
      same_number = s.numbers;
      same_table = s.match.memory.same_table;
      same_bits = s.match.memory.bits.told;
      same_issued = s.match.same_issued;
    }
