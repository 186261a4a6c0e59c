-- Document 01, "Eleven ways to be turned down": what a call of the text layer answers, a value or a refusal by its number.
-- Assumes nothing.
use Rattle.std.specs.Prelude.{ℕ}

pub data Result (A : Type 0) : Type 0 where
  value : A → Result A
  refused : ℕ → Result A

-- the number of the refusal, 0 where there is none
abbrev pub refusal_of : {A : Type 0} → Result A → ℕ
refusal_of (value x) = 0
refusal_of (refused k) = k
