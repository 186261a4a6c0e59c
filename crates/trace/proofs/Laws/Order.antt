-- A run keeps a table in order, refuses what is not fit, and its line number is at most the number of bytes.
-- Assumes nothing.
use mathlib.Core.Path.{◌≡◌, refl, ap}
use mathlib.Core.Logic.{◌⊎◌, inl, inr}
use mathlib.Core.Bool.{Bool, true, false, not, cond}
use mathlib.Core.List.{List, [], ◌∷◌}
use Prim.Native.Nat.{ℕ, suc, ◌+◌, ◌≤◌, ◌<◌}
use native.Mathlib.Omega.{arith}
use lib.Dec.{eqb}
use lib.ListN.{length}
use Rattle.model.specs.Requests.{Limits}
use Rattle.model.specs.declared.Sheet.{Sheet}
use Rattle.model.specs.Step.{State, view}
use Rattle.model.specs.Table.{in_order}
use Rattle.model.specs.Refusals.{unfit}
use Rattle.text.specs.Class.{class_of, newline}
use Rattle.text.specs.Line.{push, lines_of, parts_of}
use Rattle.text.specs.Read.{same}
use Rattle.text.specs.declared.spelling.Spelling.{Spelling}
use Rattle.text.specs.declared.spelling.Spelling.TheVariants.{Plain, Named}
use Rattle.trace.specs.Run.{header, Ran, take_line, run_lines, run_trace, run_from, lent, run}
use Rattle.trace.proofs.Laws.Turn.{line_order}

-- a turn of a run, for what holds of the rest of it and of an end at this line
pub turned : {S : Type 0} (P : Ran S → Type 0) (t : Bool) (rest end : Ran S) → P rest → P end → P (cond t rest end)
turned P true rest end p q = p
turned P false rest end p q = q

-- a line that is refused has a number above those before it
abbrev pub Behind : ℕ → Ran State → Type 0
Behind before r = (r.refusal ≡ 0) ⊎ (before < r.number)

behind_more : (before : ℕ) (r : Ran State) → Behind (before + 1) r → Behind before r
behind_more before r (inl z) = inl z
behind_more before r (inr l) = inr (omega arith)

lines_few : (text : List ℕ) → length (lines_of text) ≤ length text
unfolding parts_of push
lines_few [] = omega arith
lines_few (b ∷ s) = go (eqb (class_of b) newline) (lines_of s) (lines_few s)
  where
    go : (t : Bool) (ls : List (List ℕ)) → length ls ≤ length s → length (cond t ((b ∷ []) ∷ ls) (push b ls)) ≤ suc (length s)
    go true ls h = omega arith
    go false [] h = omega arith
    go false (l ∷ ls) h = omega arith

module _ (sheet : Sheet) (limits : Limits) where
  abbrev InOrder : State → Type 0
  InOrder h = in_order h.memory.table h.tally.issued ≡ true

  order_lines : (k : Spelling) (before : ℕ) (h : State) (ls : List (List ℕ)) → InOrder h → InOrder (run_lines (lent sheet limits) k before h ls).state
  unfolding run_lines
  order_lines k before h [] o = o
  order_lines k before h (l ∷ ls) o =
      let t = take_line (lent sheet limits) k h l in
      turned (λ (r : Ran State). InOrder r.state) (eqb t.refusal 0) (run_lines (lent sheet limits) k (before + 1) t.state ls) (record { refusal = t.refusal; number = before + 1; state = t.state })
      (order_lines k (before + 1) t.state ls (line_order sheet limits k h l o)) (line_order sheet limits k h l o)

  -- what holds of the lines in either spelling holds of a trace
  pub of_trace : (P : Ran State → Type 0) (h : State) (ls : List (List ℕ)) → P (run_lines (lent sheet limits) Plain 0 h ls) → ((line : List ℕ) (rest : List (List ℕ)) → ls ≡ line ∷ rest → P (run_lines (lent sheet limits) Named 1 h rest))
      → P (run_trace (lent sheet limits) h ls)
  unfolding run_trace
  of_trace P h [] p q = p
  of_trace P h (line ∷ ls) p q = turned P (same line header) (run_lines (lent sheet limits) Named 1 h ls) (run_lines (lent sheet limits) Plain 0 h (line ∷ ls)) (q line ls refl) p

  -- what is unfit is refused before any line
  pub refused_run : (h : State) (text : List ℕ) → unfit limits (view h) ≡ true → run sheet limits h text ≡ record { refusal = 1; number = 0; state = h }
  unfolding run_from
  refused_run h text d = rw d

  -- a table in order stays so, whatever else is lent
  pub order_run : (h : State) (text : List ℕ) → InOrder h → InOrder (run sheet limits h text).state
  unfolding run_from
  order_run h text o =
      turned (λ (r : Ran State). InOrder r.state) (not (unfit limits (view h))) (run_trace (lent sheet limits) h (lines_of text)) (record { refusal = 1; number = 0; state = h })
      (of_trace (λ (r : Ran State). InOrder r.state) h (lines_of text) (order_lines Plain 0 h (lines_of text) o) (λ line rest e. order_lines Named 1 h rest o)) o

  pub refused_line : (k : Spelling) (before : ℕ) (h : State) (ls : List (List ℕ)) → Behind before (run_lines (lent sheet limits) k before h ls)
  unfolding run_lines
  refused_line k before h [] = inl refl
  refused_line k before h (l ∷ ls) =
      let t = take_line (lent sheet limits) k h l in
      let rest = run_lines (lent sheet limits) k (before + 1) t.state ls in
      turned (Behind before) (eqb t.refusal 0) rest (record { refusal = t.refusal; number = before + 1; state = t.state }) (behind_more before rest (refused_line k (before + 1) t.state ls)) (inr (omega arith))

  pub refused_trace : (h : State) (ls : List (List ℕ)) → Behind 0 (run_trace (lent sheet limits) h ls)
  refused_trace h ls = of_trace (Behind 0) h ls (refused_line Plain 0 h ls) (λ line rest e. behind_more 0 (run_lines (lent sheet limits) Named 1 h rest) (refused_line Named 1 h rest))

  number_lines : (k : Spelling) (before : ℕ) (h : State) (ls : List (List ℕ)) → (run_lines (lent sheet limits) k before h ls).number ≤ before + length ls
  unfolding run_lines
  number_lines k before h [] = omega arith
  number_lines k before h (l ∷ ls) =
      let t = take_line (lent sheet limits) k h l in
      turned (λ (r : Ran State). r.number ≤ before + suc (length ls)) (eqb t.refusal 0) (run_lines (lent sheet limits) k (before + 1) t.state ls) (record { refusal = t.refusal; number = before + 1; state = t.state })
      (omega (arith, number_lines k (before + 1) t.state ls)) (omega arith)

  pub number_run : (h : State) (text : List ℕ) → (run sheet limits h text).number ≤ length text
  unfolding run_from
  number_run h text =
      turned (λ (r : Ran State). r.number ≤ length text) (not (unfit limits (view h))) (run_trace (lent sheet limits) h (lines_of text)) (record { refusal = 1; number = 0; state = h })
      (of_trace (λ (r : Ran State). r.number ≤ length text) h (lines_of text) (omega (arith, number_lines Plain 0 h (lines_of text), lines_few text))
      (λ line rest e. omega (arith, number_lines Named 1 h rest, lines_few text, ap length e)))
      (omega arith)
