-- How long what `capcheck` prints can be.
-- Assumes nothing.
use Rattle.std.specs.Prelude.{Result as Returned}
use Rattle.model.specs.declared.Refusal.{Refusal}
use mathlib.Core.Path.{◌≡◌, refl, ap, ◌∙◌}
use mathlib.Core.Bool.{Bool, true, false, not, cond}
use mathlib.Core.List.{List, [], ◌∷◌, ◌++◌}
use Prim.Native.Nat.{ℕ, zero, suc, ◌+◌, ◌≤◌}
use native.Mathlib.Omega.{arith}
use lib.Dec.{eqb, leb}
use lib.ListN.{length, replicate, drop, length-append, length-replicate, length-drop}
use borrow.Author.Tests.{leb-true, leb-false, le-leb}
use Rattle.model.specs.declared.Sheet.{Sheet}
use Rattle.model.specs.Sheet6.{sheet6}
use Rattle.model.specs.declared.Cap.{Cap}
use Rattle.model.specs.declared.Event.TheVariants.{Create, Borrow, Read, Write, Drop}
use Rattle.model.specs.Lists.{all, first}
use Rattle.model.specs.Table.{live_rows}
use Rattle.model.specs.Requests.{Limits, Unlimited, Request, Single, Group, Mark, Back}
use Rattle.model.specs.Refusals.{View, unfit, standings, refusals, judge}
use Rattle.model.specs.Slots.{Memory, Slot}
use Rattle.model.specs.Step.{State, view, answer}
use Rattle.model.proofs.Offered.{and_both}
use Rattle.text.specs.Event.{spaced}
use Rattle.text.specs.Line.{lines_of}
use Rattle.text.specs.Result.{Result, value, refused}
use Rattle.text.specs.Write.{stored, Writes}
use Rattle.text.specs.declared.spelling.Spelling.{Spelling}
use Rattle.text.specs.declared.spelling.Spelling.TheVariants.{Plain, Named}
use Rattle.text.proofs.Offered.{decimal_under, refused_request_is_2}
use Rattle.listing.specs.Listing.{listing}
use Rattle.listing.proofs.Offered.{listing_fits}
use Rattle.text.specs.Request.{read_request}
use Rattle.trace.specs.Run.{Ran, take_read, take_line, run_lines, run_trace, run_from, lent, run}
use Rattle.trace.specs.Check.{answer_line, begins, check_with}
use Rattle.trace.proofs.Laws.Order.{turned, of_trace, number_run}
use Rattle.trace.proofs.Laws.Report.{answer_allowed, answer_refused, long_text, ran_order, ran_report}

-- ---- no refusal has a number above 19

abbrev up_to19 : List (ℕ × Bool) → Bool
up_to19 cs = all (λ c. leb c.0 19) cs

first_most : (cs : List (ℕ × Bool)) → up_to19 cs ≡ true → first cs ≤ 19
first_most [] h = omega arith
first_most (c ∷ cs) h =
    let p = and_both (leb c.0 19) (up_to19 cs) h in
    go c.1 (leb-true c.0 19 p.0) (first_most cs p.1)
  where
    go : (t : Bool) → c.0 ≤ 19 → first cs ≤ 19 → cond t c.0 (first cs) ≤ 19
    go true l ih = l
    go false l ih = ih

standings_most : (rows : List Cap) (i actor : ℕ) (names : List ℕ) → up_to19 (standings rows i actor names) ≡ true
unfolding standings
standings_most rows i actor [] = refl
standings_most rows i actor (u ∷ names) = standings_most rows i actor names

refusals_most : (v : View) (q : Request) → up_to19 (refusals v q) ≡ true
unfolding refusals
refusals_most v (Single by (Create w s r)) = refl
refusals_most v (Single by (Borrow w u s r)) = refl
refusals_most v (Single by (Read u s)) = refl
refusals_most v (Single by (Write u s)) = refl
refusals_most v (Single by (Drop u)) = refl
refusals_most v (Group by names) = standings_most (live_rows v.table) v.issued by.actor names
refusals_most v (Mark by k) = refl
refusals_most v (Back by k) = refl

judge_most : (v : View) (q : Request) → judge v q ≤ 19
unfolding judge
judge_most v q = first_most (refusals v q) (refusals_most v q)

module _ (sheet : Sheet) (limits : Limits) where
  line_most : (k : Spelling) (h : State) (l : List ℕ) → (take_line (lent sheet limits) k h l).refusal ≤ 19
  unfolding answer
  line_most k h l = go (read_request limits k l) (refused_request_is_2 limits k l)
    where
      go : (r : Result Request) → ((n : ℕ) → r ≡ refused n → n ≡ 2) → (take_read (lent sheet limits) h r).refusal ≤ 19
      go (value q) two = judge_most (view h) q
      go (refused n) two = omega (arith, two n refl)

  lines_most : (k : Spelling) (before : ℕ) (h : State) (ls : List (List ℕ)) → (run_lines (lent sheet limits) k before h ls).refusal ≤ 19
  unfolding run_lines
  lines_most k before h [] = omega arith
  lines_most k before h (l ∷ ls) =
      let t = take_line (lent sheet limits) k h l in
      turned (λ (r : Ran State). r.refusal ≤ 19) (eqb t.refusal 0) (run_lines (lent sheet limits) k (before + 1) t.state ls) (record { refusal = t.refusal; number = before + 1; state = t.state })
      (lines_most k (before + 1) t.state ls) (line_most k h l)

  pub refusal_run : (h : State) (text : List ℕ) → (run sheet limits h text).refusal ≤ 19
  unfolding run_from
  refusal_run h text =
      turned (λ (r : Ran State). r.refusal ≤ 19) (not (unfit limits (view h))) (run_trace (lent sheet limits) h (lines_of text)) (record { refusal = 1; number = 0; state = h })
      (of_trace sheet limits (λ (r : Ran State). r.refusal ≤ 19) h (lines_of text) (lines_most Plain 0 h (lines_of text)) (λ line rest e. lines_most Named 1 h rest))
      (omega arith)

-- ---- the line of an answer, and all that is printed

-- at most `(refused 19 65536)` and a newline
answer_fits : (r n : ℕ) → r ≤ 19 → n ≤ 65536 → length (answer_line r n) ≤ 19
unfolding spaced
answer_fits zero n few lines = rw (answer_allowed 0 n refl) (simp length-append (omega (arith, decimal_under n 4 (omega arith))))
answer_fits (suc r) n few lines =
    rw (answer_refused (suc r) n (λ (e : suc r ≡ 0). omega arith)) (simp length-append (omega (arith, decimal_under (suc r) 1 (omega arith), decimal_under n 4 (omega arith))))

module _ (slots : List (Slot Memory)) (input : List ℕ) where
  -- What `capcheck` prints has at most 60,448 bytes, whatever is stored at first.
  pub check_fits : length (check_with slots input) ≤ 60448
  check_fits = go (leb (length input) 65536) refl
    where
      go : (t : Bool) → leb (length input) 65536 ≡ t → length (check_with slots input) ≤ 60448
      go true e =
          let r = run sheet6 Unlimited (begins slots) input in
          let few = leb-true (length input) 65536 e in
          let first = answer_fits r.refusal r.number (refusal_run sheet6 Unlimited (begins slots) input) (omega (arith, number_run sheet6 Unlimited (begins slots) input)) in
          let second = listing_fits r.state.memory.table r.state.tally.issued (ran_order slots input r refl) in
          omega (arith, ap length (ran_report slots input r refl few), length-append (answer_line r.refusal r.number) (listing r.state.memory.table r.state.tally.issued))
      go false e = omega (arith, ap length (long_text slots input (leb-false (length input) 65536 e)))

  -- ---- a buffer of 60,448 bytes

  abbrev buffer : List ℕ
  buffer = replicate 60448 0

  -- has room for it
  pub room : length (check_with slots input) ≤ length buffer
  room = rw (length-replicate {A = ℕ} 60448 0) check_fits

  -- and keeps its length
  pub kept : {after : List ℕ} {r : Returned ℕ Refusal} → Writes true (check_with slots input) buffer after r → length after ≡ 60448
  unfolding stored
  kept {after} w =
      let all : after ≡ check_with slots input ++ drop (length (check_with slots input)) buffer = w.buffer ∙ rw (le-leb (length (check_with slots input)) (length buffer) room) in
      rw all (simp (length-append, length-drop) (omega (arith, room, length-replicate {A = ℕ} 60448 0)))
