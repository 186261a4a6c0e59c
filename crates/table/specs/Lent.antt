-- What the caller lends: a table of eleven words a row, the written bits, memory for states, and a tally of seven words, in the record's order of
-- the fields.
-- Assumes nothing.
use Rattle.std.specs.Prelude.{ℕ, List, get_or}
use Rattle.model.specs.declared.Tally.{Tally}
use Rattle.model.specs.Step.{State}
use Rattle.model.specs.Counts.{tally}
use Rattle.table.specs.Words.{rows_in}
use Rattle.table.specs.States.{states_in}

abbrev pub tally_in : List ℕ → Tally
tally_in w = tally (get_or w 0 0) (get_or w 1 0) (get_or w 2 0) (get_or w 3 0) (get_or w 4 0) (get_or w 5 0) (get_or w 6 0)

abbrev pub lent : List (List ℕ) → List ℕ → List (List ℕ) → List ℕ → List ℕ → State
lent ws bits stored copies w = record { memory = record { table = rows_in ws; bits = bits }; tally = tally_in w; slots = states_in stored copies }
