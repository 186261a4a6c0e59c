-- One request on a lent table, its written bits, what is stored and a tally, as the rules say.
-- Assumes nothing.
use Rattle.std.specs.Prelude.{ℕ, ◌≡◌, List}
use Rattle.model.specs.declared.Work.{Work}
use Rattle.model.specs.declared.Cap.{Cap}
use Rattle.model.specs.declared.Sheet.{Sheet}
use Rattle.model.specs.declared.Tally.{Tally}
use Rattle.rules.specs.declared.Outcome.{Outcome}
use Rattle.model.specs.Requests.{Limits, Request, work_of}
use Rattle.model.specs.Refusals.{view_of, judge}
use Rattle.model.specs.Slots.{Memory, Slot, unstored}
use Rattle.model.specs.Step.{State, after}
use Rattle.model.specs.Step
use Rattle.model.specs.Answers.{verdict_of}
use Rattle.table.specs.Words.{rows_in}

-- what is lent
abbrev pub lends : List Cap → List ℕ → List (Slot Memory) → Tally → State
lends rows bits slots t = record { memory = record { table = rows; bits = bits }; tally = t; slots = slots }

-- by a sheet, a request on the words ws of a table, the bits bs, what is stored, and a tally t, leaves the words ws', the bits bs' and what is
-- stored then, and gets this outcome
pub record Stepped (sheet : Sheet) (ws : List (List ℕ)) (bs : List ℕ) (slots : List (Slot Memory)) (t : Tally) (q : Request) (ws' : List (List ℕ)) (bs' : List ℕ) (slots' : List (Slot Memory)) (r : Outcome) : Type 0 where
  pub table : rows_in ws' ≡ (after sheet (lends (rows_in ws) bs slots t) q).memory.table
  pub bits : bs' ≡ (after sheet (lends (rows_in ws) bs slots t) q).memory.bits
  pub stored : slots' ≡ (after sheet (lends (rows_in ws) bs slots t) q).slots
  pub tally : r.tally ≡ (after sheet (lends (rows_in ws) bs slots t) q).tally
  pub answer : verdict_of r.answer ≡ Step.answer (lends (rows_in ws) bs slots t) q

-- the same of work, for which it is no matter what is stored
abbrev pub Worked : Sheet → List (List ℕ) → List ℕ → Tally → Request → List (List ℕ) → List ℕ → Outcome → Type 0
Worked sheet ws bs t q ws' bs' r = Stepped sheet ws bs unstored t q ws' bs' unstored r

-- with some written bits and some limits work is allowed on these rows
pub record AllowedOn (rows : List Cap) (issued : ℕ) (work : Work) (names : List ℕ) : Type 0 where
  pub bits : List ℕ
  pub limits : Limits
  pub judged : judge (view_of rows bits unstored issued) (work_of limits work names) ≡ 0
