-- Marks and backs on what is lent.
-- Assumes nothing.
use Rattle.std.specs.Prelude.{ℕ, ◌*◌, ◌≡◌, true, false, List, length, set, take, drop}
use Rattle.model.specs.declared.Sheet.{Sheet}
use Rattle.model.specs.declared.Tally.{Tally}
use Rattle.model.specs.Requests.{Limits, Mark, Back, caller}
use Rattle.model.specs.Slots.{Stored}
use Rattle.model.specs.Limits.{refused_sheet}
use Rattle.model.specs.Table.{lent_table}
use Rattle.table.specs.Words.{rows_in}
use Rattle.table.specs.Rows.{before}
use Rattle.table.specs.States.{kept_rows, is_memory, states_in}
use Rattle.rules.specs.declared.Outcome.{Outcome}
use Rattle.rules.specs.Steps.{Stepped}

-- the memory after a table and its bits are stored in a slot
pub record Stores (ws : List (List ℕ)) (bs : List ℕ) (stored : List (List ℕ)) (copies : List ℕ) (k : ℕ) (stored' : List (List ℕ)) (copies' : List ℕ) : Type 0 where
  pub put : states_in stored' copies' ≡ set (states_in stored copies) k (Stored (record { table = rows_in ws; bits = bs }))
  pub memory : is_memory stored' copies' ≡ true

-- the table and the bits after those of a slot, of which so many rows live, are brought back
pub record Brings (ws : List (List ℕ)) (stored : List (List ℕ)) (copies : List ℕ) (k live : ℕ) (ws' : List (List ℕ)) (bs' : List ℕ) : Type 0 where
  pub table : rows_in ws' ≡ lent_table (length ws) (before (kept_rows stored k) live)
  pub bits : bs' ≡ take 8192 (drop (8192 * k) copies)

-- A mark by a domain, by whatever sheet and with whatever limits, which it does not look at.
abbrev pub Marks : List (List ℕ) → List ℕ → List (List ℕ) → List ℕ → Tally → ℕ → ℕ → List (List ℕ) → List ℕ → Outcome → Type 0
Marks ws bs stored copies t actor k stored' copies' r = (sheet : Sheet) (limits : Limits) → refused_sheet (rows_in ws) limits ≡ false
    → Stepped sheet ws bs (states_in stored copies) t (Mark (caller actor limits) k) ws bs (states_in stored' copies') r

-- A back, by whatever sheet.
abbrev pub Backs : Limits → List (List ℕ) → List ℕ → List (List ℕ) → List ℕ → Tally → ℕ → ℕ → List (List ℕ) → List ℕ → Outcome → Type 0
Backs limits ws bs stored copies t actor k ws' bs' r = (sheet : Sheet) → Stepped sheet ws bs (states_in stored copies) t (Back (caller actor limits) k) ws' bs' (states_in stored copies) r
