-- What the contract of `read_input` cites: a read that did not fail put no more bytes than the buffer has.
-- Assumes nothing.
use Rattle.std.specs.Prelude.{ℕ, ◌≤◌, List, length, None, Option, Some}

abbrev pub ReadInto : Option ℕ → List ℕ → Type 0
ReadInto (Some n) buf = n ≤ length buf
ReadInto None buf = Unit {0}
