-- What the contracts of `capsize` cite: a trace that was read is not too long.
-- Assumes nothing.
use Rattle.std.specs.Prelude.{ℕ, ◌≤◌, None, Option, Some}

abbrev pub Short : Option ℕ → Type 0
Short (Some n) = n ≤ 65536
Short None = Unit {0}
