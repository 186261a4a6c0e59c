-- Card 13, "trying table sizes": the report.
-- Assumes nothing.
use Rattle.std.specs.Prelude.{ℕ, zero, suc, min, Bool, cond, ◌&&◌, List, [], ◌∷◌, leb, eqb, length, Ok, Err, Result}
use Rattle.model.specs.Limits.{sum}
use Rattle.model.specs.Answers.{number}
use Rattle.text.specs.Event.{bytes, line}
use Rattle.kelzoud_events.specs.Interface.{packed}
use Rattle.sizes.specs.declared.RefusedAt.{RefusedAt}
use Rattle.sizes.specs.Turns.{Turn, turns}
use Rattle.sizes.specs.Clients.{Stop, stop, fresh, outcome}

-- what is reported: a number of rows, or a refusal with its client and line
pub data Report : Type 0 where
  rows : ℕ → Report
  refused : Stop → Report

-- what each case of the code's answer stands for: the fewest rows, or where the first refusal is
abbrev pub report_of : Result ℕ RefusedAt → Report
report_of (Ok n) = rows n
report_of (Err at) = refused (stop (number at.refusal) at.client at.line)

-- "Up to 8 simulated clients": "above 8 of these, or a sum that isn't the text's"
unfoldable pub fits : List ℕ → List ℕ → Bool
fits text lengths = leb (length lengths) 8 && eqb (sum lengths) (length text)

-- with n rows every line is allowed
abbrev pub all_allowed : ℕ → List Turn → Bool
all_allowed n ts = eqb (outcome (fresh n) ts).refusal 0

-- the first number from n on that passes a test, of so many, or the one behind them
unfoldable pub first_from : (ℕ → Bool) → ℕ → ℕ → ℕ
first_from p n zero = n
first_from p n (suc more) = cond (p n) n (first_from p (suc n) more)

-- "the fewest rows, up to 1,024, with which every line is allowed"
abbrev pub fewest : List Turn → ℕ
fewest ts = first_from (λ n. all_allowed n ts) 0 1024

-- "Otherwise it reports the first refusal with 1,024 rows: its number, its client and the line within that client's trace."
abbrev pub report_turns : List Turn → Report
report_turns ts = cond (all_allowed 1024 ts) (rows (fewest ts)) (refused (outcome (fresh 1024) ts))

-- "is 2, client and line 0"
unfoldable pub sizing : List ℕ → List ℕ → Report
sizing text lengths = cond (fits text lengths) (report_turns (turns text lengths)) (refused (stop 2 0 0))

-- ---- in C, and in text

-- a number in 32 bits; those of a report have no more (`report_fits` of proofs/Laws/Order)
abbrev pub word : ℕ → ℕ
word n = min n 4294967295

-- the four words of a report: the refusal, the rows, the client and the line, with 0 for what it lacks
abbrev pub report_words : Report → List ℕ
report_words (rows n) = 0 ∷ word n ∷ 0 ∷ 0 ∷ []
report_words (refused s) = s.refusal ∷ 0 ∷ word s.client ∷ word s.line ∷ []

-- the answer as one number
abbrev pub packed_report : Report → ℕ
packed_report (rows n) = packed 0 n
packed_report (refused s) = packed s.refusal 0

-- the line that `capsize` prints
unfoldable pub report_line : Report → List ℕ
report_line (rows n) = line "(rows" (word n ∷ []) (bytes ")\n")
report_line (refused s) = line "(refused" (s.refusal ∷ word s.client ∷ word s.line ∷ []) (bytes ")\n")
