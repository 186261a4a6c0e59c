-- Where every line is allowed with 1,024 rows, it is with n rows exactly where n is not below the peak of the run on 1,024 rows; with
-- fewer some line is refused 10. So the fewest rows are that peak, and one run finds it.
-- Assumes nothing.
use mathlib.Core.Path.{◌≡◌, refl, sym, ap, subst, ◌∙◌}
use mathlib.Core.Logic.{◌⊎◌, inl, inr}
use mathlib.Core.Bool.{Bool, true, false, cond}
use mathlib.Core.List.{List, [], ◌∷◌}
use Prim.Native.Nat.{ℕ, zero, suc, ◌+◌, ◌≤◌, ◌<◌, max}
use native.Mathlib.Omega.{arith}
use lib.Dec.{leb, eqb}
use lib.ListN.{length}
use borrow.Author.Tests.{eqb-true, eqb-false, leb-true, leb-false, le-leb, lt-leb}
use Rattle.model.specs.declared.Tally.{Tally}
use Rattle.model.specs.declared.Event.{Event}
use Rattle.model.specs.declared.Event.TheVariants.{Create, Borrow, Read, Write, Drop}
use Rattle.model.specs.Requests.{Request}
use Rattle.model.specs.Table.{live_rows}
use Rattle.model.specs.Refusals.{judge}
use Rattle.model.specs.Effects.{new_name}
use Rattle.model.specs.Sheet6.{sheet6}
use Rattle.model.specs.Step.{State, view}
use Rattle.model.specs.Step
use Rattle.model.proofs.Offered.{test}
use Rattle.text.specs.Result.{Result, value, refused}
use Rattle.text.specs.Form.{read_form}
use Rattle.sizes.specs.Turns.{Turn, turns}
use Rattle.sizes.specs.Clients.{Shared, Stop, stop, give, fresh, asked, translated, refusal_of, shared_after, refusal, after, outcome}
use Rattle.sizes.specs.Report as report
use Rattle.sizes.specs.Report.{first_from, all_allowed, fewest, fits, report_turns, sizing}
use Rattle.sizes.specs.Peak.{needs, needs_of, needs_at, peak, sized}
use Rattle.sizes.proofs.Laws.Fewer.{Same, ask, same_allowed, same_full, same_after, same_fresh}

-- ---- numbers

-- where a is at most n, the larger of a and b is exactly where b is
max_fits : (a b n : ℕ) → a ≤ n → leb (max a b) n ≡ leb b n
max_fits a b n l = go (test (leb b n))
  where
    go : (leb b n ≡ true) ⊎ (leb b n ≡ false) → leb (max a b) n ≡ leb b n
    go (inl y) = le-leb (max a b) n (omega (arith, leb-true b n y)) ∙ sym y
    go (inr f) = lt-leb (max a b) n (omega (arith, leb-false b n f)) ∙ sym f

max_above : (a b n : ℕ) → n < a → leb (max a b) n ≡ false
max_above a b n l = lt-leb (max a b) n (omega arith)

-- a first refusal that is 0 says that this one is, and the first of the rest
passes : (a b : ℕ) → cond (eqb a 0) b a ≡ 0 → (a ≡ 0) × (b ≡ 0)
passes a b q = go (test (eqb a 0))
  where
    go : (eqb a 0 ≡ true) ⊎ (eqb a 0 ≡ false) → (a ≡ 0) × (b ≡ 0)
    go (inl t) = (eqb-true a 0 t, rw t at q)
    go (inr f) = absurd (eqb-false a 0 f (rw f at q))

-- one step: it needs a, the rest needs b; with n rows it gives x and the rest y
step_up : (a b n x y : ℕ) → (a ≤ n → (x ≡ 0) × (y ≡ cond (leb b n) 0 10)) → (n < a → x ≡ 10) → cond (eqb x 0) y x ≡ cond (leb (max a b) n) 0 10
step_up a b n x y low high = go (test (leb a n))
  where
    go : (leb a n ≡ true) ⊎ (leb a n ≡ false) → cond (eqb x 0) y x ≡ cond (leb (max a b) n) 0 10
    go (inl t) = let l = leb-true a n t in rw ((low l).0, max_fits a b n l) (low l).1
    go (inr f) = let l = leb-false a n f in rw (high l, max_above a b n l)

-- ---- the clients' lines

-- two runs so far: the same live rows, and the same names given
record Alike (n m : ℕ) (h g : Shared) : Type 0 where
  state : Same n m h.state g.state
  given : h.given ≡ g.given

cond_refusal : (b : Bool) (x y : Stop) → (cond b x y).refusal ≡ cond b x.refusal y.refusal
cond_refusal true x y = refl
cond_refusal false x y = refl

outcome_step : (h : Shared) (t : Turn) (ts : List Turn) → (outcome h (t ∷ ts)).refusal ≡ cond (eqb (refusal h t) 0) (outcome (after h t) ts).refusal (refusal h t)
unfolding outcome
outcome_step h t ts = cond_refusal (eqb (refusal h t) 0) _ _

outcome_none : (h : Shared) → (outcome h []).refusal ≡ 0
unfolding outcome
outcome_none h = refl

-- what an event needs does not depend on its names
needs_translated : (names : List ℕ) (live : ℕ) (e : Event) → needs live (translated names e) ≡ needs live e
unfolding translated
needs_translated names live (Create w s r) = refl
needs_translated names live (Borrow w u s r) = refl
needs_translated names live (Read u s) = refl
needs_translated names live (Write u s) = refl
needs_translated names live (Drop u) = refl

module _ {n m : ℕ} where
  module _ (h g : Shared) (a : Alike n m h g) (client : ℕ) where
    abbrev event : Event → Event
    event e = translated (g.given client) e

    abbrev live : ℕ
    live = length (live_rows g.state.memory.table)

    same_asked : (e : Event) → asked h client e ≡ ask (event e)
    same_asked e = ap (λ (G : ℕ → List ℕ). ask (translated (G client) e)) a.given

    needed : (e : Event) → needs live e ≤ n → needs live (event e) ≤ n
    needed e l = omega (arith, needs_translated (g.given client) live e)

    module _ (e : Event) (q : judge (view g.state) (ask (event e)) ≡ 0) (l : needs live e ≤ n) where
      allowed_name : (k : State) → judge (view k) (ask (event e)) ≡ 0 → (Step.answer k (ask (event e))).name ≡ new_name k.tally.issued (ask (event e))
      unfolding Step.answer
      allowed_name k z = rw z

      same_name : (Step.answer h.state (asked h client e)).name ≡ (Step.answer g.state (asked g client e)).name
      same_name =
          ap (λ (x : Request). (Step.answer h.state x).name) (same_asked e)
          ∙ allowed_name h.state (same_allowed a.state (event e) q (needed e l))
          ∙ ap (λ (t : Tally). new_name t.issued (ask (event e))) a.state.tally
          ∙ sym (allowed_name g.state q)

    line_after : (r : Result Event) → refusal_of g client r ≡ 0 → needs_of g r ≤ n → Alike n m (shared_after h client r) (shared_after g client r)
    unfolding Step.answer
    line_after (value e) q l = record {
      state = subst (λ (x : Request). Same n m (Step.after sheet6 h.state x) (Step.after sheet6 g.state (asked g client e))) (sym (same_asked e)) (same_after a.state (event e) q sheet6 (needed e l));
      given = λ j. give client (same_name e q l j) (a.given j);
    }
    line_after (refused r) q l = a

    line_allowed : (r : Result Event) → refusal_of g client r ≡ 0 → needs_of g r ≤ n → refusal_of h client r ≡ 0
    unfolding Step.answer
    line_allowed (value e) q l = ap (λ (x : Request). judge (view h.state) x) (same_asked e) ∙ same_allowed a.state (event e) q (needed e l)
    line_allowed (refused r) q l = q

    line_full : (r : Result Event) → refusal_of g client r ≡ 0 → n < needs_of g r → refusal_of h client r ≡ 10
    unfolding Step.answer
    line_full (value e) q l = ap (λ (x : Request). judge (view h.state) x) (same_asked e) ∙ same_full a.state (event e) q (omega (arith, needs_translated (g.given client) live e))
    line_full (refused r) q l = absurd (omega arith)

  module _ (h g : Shared) (a : Alike n m h g) (t : Turn) (q : refusal g t ≡ 0) where
    turn_allowed : needs_at g t ≤ n → refusal h t ≡ 0
    unfolding refusal
    turn_allowed = line_allowed h g a t.client (read_form t.line) q

    turn_full : n < needs_at g t → refusal h t ≡ 10
    unfolding refusal
    turn_full = line_full h g a t.client (read_form t.line) q

    turn_after : needs_at g t ≤ n → Alike n m (after h t) (after g t)
    unfolding refusal after
    turn_after = line_after h g a t.client (read_form t.line) q

  turns_fewer : (ts : List Turn) (h g : Shared) → Alike n m h g → (outcome g ts).refusal ≡ 0 → (outcome h ts).refusal ≡ cond (leb (peak g ts) n) 0 10
  unfolding peak
  turns_fewer [] h g a q = outcome_none h ∙ rw (le-leb 0 n (omega arith))
  turns_fewer (t ∷ ts) h g a q =
      let p = passes (refusal g t) (outcome (after g t) ts).refusal (sym (outcome_step g t ts) ∙ q) in
      outcome_step h t ts ∙
      step_up (needs_at g t) (peak (after g t) ts) n (refusal h t) (outcome (after h t) ts).refusal
      (λ l. (turn_allowed h g a t p.0 l, turns_fewer ts (after h t) (after g t) (turn_after h g a t p.0 l) p.1))
      (λ l. turn_full h g a t p.0 l)

-- ---- the card's sentence

-- Where every line is allowed with 1,024 rows, a smaller table refuses none, or some line 10: none exactly where it has the peak's rows.
pub clients_peak : (n : ℕ) (ts : List Turn) → n ≤ 1024 → (outcome (fresh 1024) ts).refusal ≡ 0
    → (outcome (fresh n) ts).refusal ≡ cond (leb (peak (fresh 1024) ts) n) 0 10
clients_peak n ts l q = turns_fewer ts (fresh n) (fresh 1024) (record { state = same_fresh n 1024 _ l (omega arith) refl; given = refl }) q

module _ (ts : List Turn) (q : (outcome (fresh 1024) ts).refusal ≡ 0) where
  abbrev top : ℕ
  top = peak (fresh 1024) ts

  zero_or_ten : (b : Bool) → eqb (cond b 0 10) 0 ≡ b
  zero_or_ten true = refl
  zero_or_ten false = refl

  allowed_peak : (n : ℕ) → n ≤ 1024 → all_allowed n ts ≡ leb top n
  allowed_peak n l = ap (λ (k : ℕ). eqb k 0) (clients_peak n ts l q) ∙ zero_or_ten (leb top n)

  -- the peak is within the 1,024 rows
  pub peak_fits : top ≤ 1024
  peak_fits = leb-true top 1024 (sym (allowed_peak 1024 (omega arith)) ∙ rw q)

  found : (more n : ℕ) → n + more ≡ 1024 → n ≤ top → first_from (λ k. all_allowed k ts) n more ≡ top
  unfolding first_from
  found zero n e l = let w = peak_fits in omega arith
  found (suc more) n e l = go (test (leb top n)) (λ k. found more (suc n) (omega arith) k)
    where
      go : (leb top n ≡ true) ⊎ (leb top n ≡ false) → (suc n ≤ top → first_from (λ k. all_allowed k ts) (suc n) more ≡ top) → cond (all_allowed n ts) n (first_from (λ k. all_allowed k ts) (suc n) more) ≡ top
      go (inl t) ih = let w = leb-true top n t in rw (allowed_peak n (omega arith), t) (omega arith)
      go (inr f) ih = let w = leb-false top n f in rw (allowed_peak n (omega arith), f) (ih (omega arith))

  -- The fewest rows with which every line is allowed are the most that live before a create or borrow, plus one.
  pub fewest_peak : fewest ts ≡ top
  fewest_peak = found 1024 0 (omega arith) (omega arith)

  -- "The report is the fewest rows .. with which every line is allowed; with fewer, some line is refused 10."
  pub fewest_allowed : (n : ℕ) → fewest ts ≤ n → n ≤ 1024 → (outcome (fresh n) ts).refusal ≡ 0
  fewest_allowed n l k = clients_peak n ts k q ∙ rw (le-leb top n (omega (arith, fewest_peak)))

  pub fewer_refused : (n : ℕ) → n < fewest ts → (outcome (fresh n) ts).refusal ≡ 10
  fewer_refused n l = clients_peak n ts (omega (arith, fewest_peak, peak_fits)) q ∙ rw (lt-leb top n (omega (arith, fewest_peak)))

-- ---- one run

-- a run that keeps the most, and stops at the first refusal, finds where a run stops, or its peak
pub sized_is : (ts : List Turn) (h : Shared) (most : ℕ) → sized h most ts ≡ cond (eqb (outcome h ts).refusal 0) (report.rows (max most (peak h ts))) (report.refused (outcome h ts))
unfolding sized outcome peak
sized_is [] h most = ap report.rows (omega arith)
sized_is (t ∷ ts) h most = go (test (eqb (refusal h t) 0)) (sized_is ts (after h t) (max most (needs_at h t)))
  where
    rest : Stop
    rest = outcome (after h t) ts

    go : (eqb (refusal h t) 0 ≡ true) ⊎ (eqb (refusal h t) 0 ≡ false)
        → sized (after h t) (max most (needs_at h t)) ts ≡ cond (eqb rest.refusal 0) (report.rows (max (max most (needs_at h t)) (peak (after h t) ts))) (report.refused rest)
        → cond (eqb (refusal h t) 0) (sized (after h t) (max most (needs_at h t)) ts) (report.refused (stop (refusal h t) t.client t.number))
        ≡ cond (eqb (cond (eqb (refusal h t) 0) rest (stop (refusal h t) t.client t.number)).refusal 0) (report.rows (max most (max (needs_at h t) (peak (after h t) ts)))) (report.refused (cond (eqb (refusal h t) 0) rest (stop (refusal h t) t.client t.number)))
    go (inl y) ih =
        let e : max (max most (needs_at h t)) (peak (after h t) ts) ≡ max most (max (needs_at h t) (peak (after h t) ts)) = omega arith in
        rw y (ih ∙ ap (λ (k : ℕ). cond (eqb rest.refusal 0) (report.rows k) (report.refused rest)) e)
    go (inr f) ih = rw (f, f)

-- so it finds the report
pub reported : (ts : List Turn) → report_turns ts ≡ sized (fresh 1024) 0 ts
reported ts = go (test (all_allowed 1024 ts)) (sized_is ts (fresh 1024) 0)
  where
    end : Stop
    end = outcome (fresh 1024) ts

    go : (eqb end.refusal 0 ≡ true) ⊎ (eqb end.refusal 0 ≡ false)
        → sized (fresh 1024) 0 ts ≡ cond (eqb end.refusal 0) (report.rows (max 0 (peak (fresh 1024) ts))) (report.refused end)
        → cond (eqb end.refusal 0) (report.rows (fewest ts)) (report.refused end) ≡ sized (fresh 1024) 0 ts
    go (inl y) is = let e : max 0 (peak (fresh 1024) ts) ≡ peak (fresh 1024) ts = omega arith in rw (is, y) (ap report.rows (fewest_peak ts (eqb-true end.refusal 0 y) ∙ sym e))
    go (inr f) is = rw (is, f)

pub sizing_run : (text lengths : List ℕ) → fits text lengths ≡ true → sizing text lengths ≡ sized (fresh 1024) 0 (turns text lengths)
unfolding sizing
sizing_run text lengths f = rw f (reported (turns text lengths))

pub sizing_unfit : (text lengths : List ℕ) → fits text lengths ≡ false → sizing text lengths ≡ report.refused (stop 2 0 0)
unfolding sizing
sizing_unfit text lengths f = rw f
