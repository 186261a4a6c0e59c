-- The first line of a trace: whether it is `(trace 2)`, and what then follows it.
-- Assumes nothing.
use mathlib.Core.Path.{◌≡◌, refl, sym, ap, ◌∙◌}
use mathlib.Core.Bool.{true, false}
use mathlib.Core.List.{List, [], ◌∷◌}
use Prim.Native.Nat.{ℕ, ◌≤◌}
use native.Mathlib.Omega.{arith}
use lib.ListN.{length, drop}
use lib.Seq.{length-take-le}
use Rattle.model.specs.Requests.{Limits}
use Rattle.model.specs.declared.Sheet.{Sheet}
use Rattle.model.specs.declared.Tally.{Tally}
use Rattle.model.specs.Refusals.{unfit}
use Rattle.model.specs.Slots.{Memory, Slot}
use Rattle.model.specs.Step.{State, view}
use Rattle.table.specs.Words.{rows_in}
use Rattle.rules.specs.Steps.{lends}
use Rattle.text.specs.Class.{newline}
use Rattle.text.specs.Line.{through, next_line, lines_of, parts_of}
use Rattle.text.specs.Read.{same}
use Rattle.text.specs.declared.spelling.Spelling.TheVariants.{Plain, Named}
use Rattle.text.proofs.Offered.{parts_next, through_le, same_refl, same_true}
use Rattle.trace.specs.declared.run.RunOutcome.{RunOutcome}
use Rattle.trace.specs.Run.{header, Checker, run_lines, run_trace, run_from, lent, run, Runs, RunsLines}

-- a text whose first line is the header has its ten bytes in front
module _ (text : List ℕ) (h : same (next_line text) header ≡ true) where
  first_is : next_line text ≡ header
  first_is = same_true (next_line text) header h

  ten : through newline text ≡ 10
  ten = sym (length-take-le (through newline text) text (through_le newline text)) ∙ ap length first_is

  pub header_inside : 10 ≤ length text
  header_inside = omega (arith, ten, through_le newline text)

  pub header_lines : lines_of text ≡ header ∷ lines_of (drop 10 text)
  header_lines = parts_next newline text (omega (arith, header_inside)) ∙ (λ i. first_is i ∷ lines_of (drop (ten i) text))

  pub trace_named : {S : Type 0} (c : Checker S) (s : S) → run_trace c s (lines_of text) ≡ run_lines c Named 1 s (lines_of (drop 10 text))
  unfolding run_trace
  trace_named c s = rw (header_lines, same_refl header)

-- any other is one of lines that write no names
pub trace_plain : (text : List ℕ) → same (next_line text) header ≡ false → {S : Type 0} (c : Checker S) (s : S) → run_trace c s (lines_of text) ≡ run_lines c Plain 0 s (lines_of text)
unfolding run_trace parts_of
trace_plain [] h c s = refl
trace_plain (b ∷ t) h c s = rw (parts_next newline (b ∷ t) (omega arith), h)

module _ (sheet : Sheet) (limits : Limits) where
  -- a run on what is fit goes by its lines
  by_lines : (h : State) (text : List ℕ) → unfit limits (view h) ≡ false → run_trace (lent sheet limits) h (lines_of text) ≡ run sheet limits h text
  unfolding run_from
  by_lines h text f = rw f

  module _ (ws : List (List ℕ)) (bs : List ℕ) (slots : List (Slot Memory)) (t : Tally) (text : List ℕ) (f : unfit limits (view (lends (rows_in ws) bs slots t)) ≡ false) where
    abbrev h : State
    h = lends (rows_in ws) bs slots t

    module _ {ws' : List (List ℕ)} {bs' : List ℕ} {slots' : List (Slot Memory)} {r : RunOutcome} where
      pub runs_named : same (next_line text) header ≡ true → {rest : List ℕ} → rest ≡ drop 10 text → RunsLines sheet limits Named 1 ws bs slots t rest ws' bs' slots' r → Runs sheet limits ws bs slots t text ws' bs' slots' r
      runs_named y e k = record { ran = k.ran ∙ ap (λ (l : List ℕ). run_lines (lent sheet limits) Named 1 h (lines_of l)) e ∙ sym (trace_named text y (lent sheet limits) h) ∙ by_lines h text f }

      pub runs_plain : same (next_line text) header ≡ false → RunsLines sheet limits Plain 0 ws bs slots t text ws' bs' slots' r → Runs sheet limits ws bs slots t text ws' bs' slots' r
      runs_plain y k = record { ran = k.ran ∙ sym (trace_plain text y (lent sheet limits) h) ∙ by_lines h text f }
