-- What a refused request leaves: the table and what is stored as they were, and of the tally all but the refused count; refusal 1 leaves even that.
-- Assumes nothing.
use mathlib.Core.Path.{◌≡◌, ap}
use Prim.Native.Nat.{ℕ, zero, suc}
use Rattle.model.specs.declared.Sheet.{Sheet}
use Rattle.model.specs.Requests.{Request}
use Rattle.model.specs.Refusals.{judge}
use Rattle.model.specs.Counts.{count_refused}
use Rattle.model.specs.Step.{State, view, answer, outcome, after}

-- the number of the answer is the verdict on the lent table
pub answer_number : (h : State) (q : Request) (k : ℕ) → (answer h q).refusal ≡ k → judge (view h) q ≡ k
unfolding answer
answer_number h q k e = e

module _ (sheet : Sheet) (h : State) (q : Request) where
  pub after_number : (k : ℕ) → (answer h q).refusal ≡ k → after sheet h q ≡ outcome sheet k h q
  unfolding after
  after_number k e = ap (λ (j : ℕ). outcome sheet j h q) (answer_number h q k e)

  -- Refusal 1 changes nothing.
  pub disordered_keeps : (answer h q).refusal ≡ 1 → after sheet h q ≡ h
  disordered_keeps e = after_number 1 e

  -- A refused request leaves the table and the bits unchanged: of names dropped together "either all are dropped or none".
  pub refused_memory : (k : ℕ) → (answer h q).refusal ≡ suc k → (after sheet h q).memory ≡ h.memory
  refused_memory zero e = ap (λ (s : State). s.memory) (after_number 1 e)
  refused_memory (suc k) e = ap (λ (s : State). s.memory) (after_number (suc (suc k)) e)

  -- It leaves what is stored.
  pub refused_slots : (k : ℕ) → (answer h q).refusal ≡ suc k → (after sheet h q).slots ≡ h.slots
  refused_slots zero e = ap (λ (s : State). s.slots) (after_number 1 e)
  refused_slots (suc k) e = ap (λ (s : State). s.slots) (after_number (suc (suc k)) e)

  -- A refusal other than 1 raises only the refused count, once, short of its ceiling.
  pub refused_tally : (k : ℕ) → (answer h q).refusal ≡ suc (suc k) → (after sheet h q).tally ≡ count_refused h.tally
  refused_tally k e = ap (λ (s : State). s.tally) (after_number (suc (suc k)) e)
