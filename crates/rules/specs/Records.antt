-- "The table is lent by the caller as a run of records": how records go through rows.
-- Assumes nothing.
use Rattle.std.specs.Prelude.{ℕ, ◌≤◌, ◌<◌, ◌≡◌, cond, List, leb, length, take}
use Rattle.model.specs.declared.Sheet.{Sheet}
use Rattle.model.specs.declared.Tally.{Tally}
use Rattle.model.specs.Requests.{Request}
use Rattle.model.specs.Answers.{verdict_of}
use Rattle.rules.specs.declared.Outcome.{Outcome}
use Rattle.rules.specs.Steps.{Worked}

-- how many of n records are taken apart: none of more than 1,024, which are not in order
abbrev pub held : ℕ → ℕ
held n = cond (leb n 1024) n 0

-- by a sheet, a request on the first n of the rows ws leaves the rows ws', and gets this outcome: above 1,024 it is refusal 1, and the bits and
-- the tally stay
pub record Requested (sheet : Sheet) (ws : List (List ℕ)) (n : ℕ) (bs : List ℕ) (t : Tally) (q : Request) (ws' : List (List ℕ)) (bs' : List ℕ) (r : Outcome) : Type 0 where
  pub long : length ws' ≡ length ws
  pub few : n ≤ 1024 → Worked sheet (take n ws) bs t q (take n ws') bs' r
  pub many : 1024 < n → (bs' ≡ bs) × (r.tally ≡ t) × (verdict_of r.answer ≡ record { refusal = 1; name = 0 })
