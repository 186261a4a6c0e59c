-- One turn of a run: the next line of what is left, and what follows it.
-- Assumes nothing.
use Rattle.std.specs.Prelude.{Err, Ok, Result as Returned}
use mathlib.Core.Path.{◌≡◌, refl, sym, ap, ◌∙◌}
use mathlib.Core.Bool.{true, false, cond}
use mathlib.Core.List.{List}
use Prim.Native.Nat.{ℕ, ◌+◌, ◌-◌, ◌≤◌, ◌<◌}
use native.Mathlib.Omega.{arith}
use lib.Dec.{eqb}
use lib.ListN.{length, take, drop}
use Rattle.text.specs.Class.{newline}
use Rattle.text.specs.Line.{next_line, lines_of}
use Rattle.model.specs.declared.Sheet.{Sheet}
use Rattle.model.specs.Requests.{Limits, caller_of, Request}
use Rattle.text.specs.declared.spelling.Spelling.{Spelling}
use Rattle.text.specs.Result.{Result, value, refused}
use Rattle.text.proofs.Offered.{read_request_is_spelling, part_inside, part_longer, part_then, parts_end}
use Rattle.model.specs.declared.Tally.{Tally}
use Rattle.model.specs.declared.Name.{Name}
use Rattle.model.specs.declared.Refusal.{Refusal}
use Rattle.model.specs.declared.Refusal.TheVariants.{Misspelt}
use Rattle.model.specs.Answers.{number, verdict_of}
use Rattle.model.specs.Counts.{count_refused}
use Rattle.model.specs.Refusals.{unfit}
use Rattle.model.specs.Slots.{Memory, Slot}
use Rattle.model.specs.Table.{in_order}
use Rattle.model.specs.Step.{Verdict, State, view}
use Rattle.model.proofs.Offered.{All, SizedSlot, fit_after, fit_size, sized_after, order_after}
use Rattle.rules.specs.declared.Outcome.{Outcome}
use Rattle.table.specs.Words.{rows_in}
use Rattle.rules.specs.Steps.{lends, Stepped}
use Rattle.table.proofs.Offered.{numbered}
use Rattle.text.specs.Request.{read_request}
use Rattle.trace.specs.Run.{take_read, take_line, run_lines, lent, ran_of, TakesRead, Takes}

-- what is lent is fit for a run, and what is stored has as many bytes as are lent
abbrev pub Fit : Limits → State → Type 0
Fit limits h = (unfit limits (view h) ≡ false) × All SizedSlot h.slots

-- a line that reads as a request reads as one with the limits that are lent
pub read_limits : (limits : Limits) (k : Spelling) (l : List ℕ) (q : Request) → read_request limits k l ≡ value q → (caller_of q).limits ≡ limits
read_limits limits k l q e = (read_request_is_spelling limits k l q e).0

-- it stays so after a line
pub line_fit : (sheet : Sheet) (limits : Limits) (k : Spelling) (h : State) (l : List ℕ) → Fit limits h → Fit limits (take_line (lent sheet limits) k h l).state
line_fit sheet limits k h l f = go (read_request limits k l) refl
  where
    go : (r : Result Request) → read_request limits k l ≡ r → Fit limits (take_read (lent sheet limits) h r).state
    go (value q) is = let e = read_limits limits k l q is in (rw e at (fit_after sheet h q f.1 (rw e f.0)), sized_after sheet h q f.1 (fit_size limits (view h) f.0))
    go (refused k) is = f

-- and so is a table in order, whatever else is lent
pub line_order : (sheet : Sheet) (limits : Limits) (k : Spelling) (h : State) (l : List ℕ) → in_order h.memory.table h.tally.issued ≡ true
    → in_order (take_line (lent sheet limits) k h l).state.memory.table (take_line (lent sheet limits) k h l).state.tally.issued ≡ true
line_order sheet limits k h l o = go (read_request limits k l)
  where
    go : (r : Result Request) → in_order (take_read (lent sheet limits) h r).state.memory.table (take_read (lent sheet limits) h r).state.tally.issued ≡ true
    go (value q) = order_after sheet h q o
    go (refused x) = o

module _ (sheet : Sheet) (limits : Limits) (ws : List (List ℕ)) (bs : List ℕ) (slots : List (Slot Memory)) (t : Tally) where
  -- what reads as a request goes by its step
  pub taken_request : {read : Result Request} {q : Request} {ws' : List (List ℕ)} {bs' : List ℕ} {slots' : List (Slot Memory)} {r : Outcome} → read ≡ value q → Stepped sheet ws bs slots t q ws' bs' slots' r → TakesRead sheet limits read ws bs slots t ws' bs' slots' r
  taken_request e s = record {
    refusal = rw e (ap (λ (v : Verdict). v.refusal) s.answer);
    state = rw e (λ i. record { memory = record { table = s.table i; bits = s.bits i }; tally = s.tally i; slots = s.stored i });
  }

  -- another reading of the same line
  pub taken_as : {read read' : Result Request} {ws' : List (List ℕ)} {bs' : List ℕ} {slots' : List (Slot Memory)} {r : Outcome} → read' ≡ read → TakesRead sheet limits read ws bs slots t ws' bs' slots' r → TakesRead sheet limits read' ws bs slots t ws' bs' slots' r
  taken_as e s = rw e s

  -- a line that reads as none is refused
  pub taken_misspelt : {read : Result Request} {y : Tally} → read ≡ refused 2 → y ≡ count_refused t → TakesRead sheet limits read ws bs slots t ws bs slots (record { tally = y; answer = Err Misspelt })
  taken_misspelt q c = record { refusal = rw q; state = rw (q, c) }

-- line is the next line of what is left of s from a position on
module _ (s : List ℕ) (at : ℕ) (more : at < length s) (line : List ℕ) (is : line ≡ next_line (take (length s - at) (drop at s))) where
  pub line_some : 0 < length line
  line_some = part_longer newline s at (omega arith) line is more

  pub line_inside : at + length line ≤ length s
  line_inside = part_inside newline s at (omega arith) line is

  module _ (sheet : Sheet) (limits : Limits) (k : Spelling) (count : ℕ) (h : State) where
    abbrev taken : State
    taken = (take_line (lent sheet limits) k h line).state

    turn : run_lines (lent sheet limits) k count h (lines_of (drop at s)) ≡ cond (eqb (take_line (lent sheet limits) k h line).refusal 0) (run_lines (lent sheet limits) k (count + 1) taken (lines_of (drop (at + length line) s))) (record { refusal = (take_line (lent sheet limits) k h line).refusal; number = count + 1; state = taken })
    unfolding run_lines
    turn = rw (part_then newline s at (omega arith) line is more)

  -- the line was taken on the words of a table
  module _ (count : ℕ) (k : Spelling) {sheet : Sheet} {limits : Limits} {ws : List (List ℕ)} {bs : List ℕ} {slots : List (Slot Memory)} {t : Tally} {ws' : List (List ℕ)} {bs' : List ℕ} {slots' : List (Slot Memory)} {r : Outcome} (took : Takes sheet limits k line ws bs slots t ws' bs' slots' r) where
    -- it is allowed, and the run goes on behind it
    pub turn_on : {x : Name} → r.answer ≡ Ok x → run_lines (lent sheet limits) k (count + 1) (lends (rows_in ws') bs' slots' r.tally) (lines_of (drop (at + length line) s)) ≡ run_lines (lent sheet limits) k count (lends (rows_in ws) bs slots t) (lines_of (drop at s))
    turn_on e =
        let zero_is : (take_line (lent sheet limits) k (lends (rows_in ws) bs slots t) line).refusal ≡ 0 = sym took.refusal ∙ ap (λ (a : Returned Name Refusal). (verdict_of a).refusal) e in
        rw took.state (sym (turn sheet limits k count (lends (rows_in ws) bs slots t) ∙ rw zero_is))

    -- it is refused, and the run ends there
    pub turn_ends : {x : Refusal} → r.answer ≡ Err x → ran_of (Err (record { refusal = x; line = count + 1 })) (lends (rows_in ws') bs' slots' r.tally) ≡ run_lines (lent sheet limits) k count (lends (rows_in ws) bs slots t) (lines_of (drop at s))
    turn_ends {x} e =
        let is : (take_line (lent sheet limits) k (lends (rows_in ws) bs slots t) line).refusal ≡ number x = sym took.refusal ∙ ap (λ (a : Returned Name Refusal). (verdict_of a).refusal) e in
        rw took.state (sym (turn sheet limits k count (lends (rows_in ws) bs slots t) ∙ rw (is, numbered x)))

-- nothing is left
pub run_ends : (sheet : Sheet) (limits : Limits) (k : Spelling) (s : List ℕ) (at count : ℕ) (h : State) → length s ≤ at → record { refusal = 0; number = count; state = h } ≡ run_lines (lent sheet limits) k count h (lines_of (drop at s))
unfolding run_lines
run_ends sheet limits k s at count h e = rw (parts_end newline s at e)
