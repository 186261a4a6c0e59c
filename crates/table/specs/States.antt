-- Card 11: "memory the caller lends for eight states of 1,024 rows". It is lent as rows and as bytes. A slot has 1,025 of the rows, a head and
-- 1,024 behind it, and 8,192 of the bytes. Only live rows need be kept: the head says how many rows are, and how many empty ones the table has
-- behind them. So all zeros is eight times nothing stored, and no memory of this size is without a meaning.
-- Assumes nothing.
use Rattle.std.specs.Prelude.{ℕ, zero, suc, ◌+◌, ◌*◌, ◌≡◌, Bool, true, false, cond, ◌&&◌, List, [], ◌∷◌, map, eqb, length, get_or, take, drop, replicate}
use Rattle.model.specs.declared.Cap.{Cap}
use Rattle.model.specs.Given.{count_from}
use Rattle.model.specs.Slots.{Memory, Slot, Nothing, Stored, slot_map}
use Rattle.model.specs.Table.{lent_table}
use Rattle.model.specs.Refusals.{unfit_slot}
use Rattle.table.specs.declared.states.Stock.{Stock}
use Rattle.table.specs.declared.states.Stock.TheVariants.{Empty, Unfit, Fit}
use Rattle.table.specs.Words.{rows_in}
use Rattle.table.specs.Rows.{before, Places, Orderly}
use Rattle.table.specs.Limits.{limits_in}

-- the head of a slot, and the rows behind it
abbrev pub head_of : List (List ℕ) → ℕ → List ℕ
head_of stored k = get_or stored (1025 * k) []

abbrev pub kept_rows : List (List ℕ) → ℕ → List Cap
kept_rows stored k = rows_in (take 1024 (drop (1025 * k + 1) stored))

-- By a head's first word, 0 where nothing is stored and else one more than the rows kept, and its second, the empty rows behind these. (A row that
-- is kept beyond the last of the slot is an empty one.)
unfoldable pub table_by : ℕ → ℕ → List Cap → Slot (List Cap)
table_by zero empty rows = Nothing
table_by (suc kept) empty rows = Stored (lent_table (kept + empty) (before rows kept))

-- the head that a mark writes
abbrev pub head_words : ℕ → ℕ → List ℕ
head_words kept empty = (kept + 1) ∷ empty ∷ replicate 9 0

-- the table in a slot, and the state
unfoldable pub table_at : List (List ℕ) → ℕ → Slot (List Cap)
table_at stored k = table_by (get_or (head_of stored k) 0 0) (get_or (head_of stored k) 1 0) (kept_rows stored k)

unfoldable pub state_at : List (List ℕ) → List ℕ → ℕ → Slot Memory
state_at stored copies k = slot_map (λ t. record { table = t; bits = take 8192 (drop (8192 * k) copies) }) (table_at stored k)

-- "(any other size is 1": then there is no slot
unfoldable pub is_memory : List (List ℕ) → List ℕ → Bool
is_memory stored copies = eqb (length stored) 8200 && eqb (length copies) 65536

unfoldable pub states_in : List (List ℕ) → List ℕ → List (Slot Memory)
states_in stored copies = cond (is_memory stored copies) (map (state_at stored copies) (count_from 0 8)) []

-- as many slots, with nothing stored
abbrev pub emptied : List (Slot Memory) → List (Slot Memory)
emptied slots = map (λ s. Nothing) slots

-- ---- what is found on going back

-- In a slot there is a table in order, of so many rows, of which the first are kept and live; places has where the parent of each stands.
pub record Kept (stored : List (List ℕ)) (k size live issued : ℕ) (places : List ℕ) : Type 0 where
  pub same : table_at stored k ≡ Stored (lent_table size (before (kept_rows stored k) live))
  pub orderly : Orderly (lent_table size (before (kept_rows stored k) live)) size live issued
  pub placed : Places (lent_table size (before (kept_rows stored k) live)) live places

-- what a look at a slot finds, on going back with a table of so many rows
abbrev pub LooksBack : List (List ℕ) → ℕ → ℕ → ℕ → List ℕ → List ℕ → Stock → Type 0
LooksBack stored k size issued limits places Empty = table_at stored k ≡ Nothing
LooksBack stored k size issued limits places Unfit = unfit_slot (limits_in limits) size issued (table_at stored k) ≡ true
LooksBack stored k size issued limits places (Fit live) = Kept stored k size live issued places × (unfit_slot (limits_in limits) size issued (table_at stored k) ≡ false)
