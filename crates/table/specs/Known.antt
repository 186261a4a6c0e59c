-- What is known of a lent table that is in order, so that a run of requests looks for it once.
-- Assumes nothing.
use Rattle.std.specs.Prelude.{ℕ, ◌≡◌, true, false, not, ◌||◌, List, length, None, Option, Some}
use Rattle.model.specs.Table.{live_rows, in_order}
use Rattle.model.specs.Limits.{exceeds}
use Rattle.model.specs.Refusals.{unfit, view_of}
use Rattle.model.specs.Slots.{unstored}
use Rattle.table.specs.Words.{rows_in}
use Rattle.table.specs.Rows.{Orderly, Places}
use Rattle.table.specs.Limits.{limits_in, Allowed}
use Rattle.table.specs.States.{is_memory, states_in}

-- a table in order, of which so many rows live; places has where the parent of each stands
pub record Known (ws : List (List ℕ)) (live issued : ℕ) (places : List ℕ) : Type 0 where
  pub orderly : Orderly (rows_in ws) (length ws) live issued
  pub placed : Places (rows_in ws) live places

-- written bits of the one length that is taken
abbrev pub Sized : List ℕ → Type 0
Sized bits = length bits ≡ 8192

-- what a look at a table finds
abbrev pub Looks : List (List ℕ) → ℕ → List ℕ → Option ℕ → Type 0
Looks ws issued places (Some live) = Known ws live issued places
Looks ws issued places None = in_order (rows_in ws) issued ≡ false

-- what a look at rows that are kept finds, where some limits may be lent
abbrev pub LooksKept : List (List ℕ) → ℕ → List ℕ → List ℕ → Option ℕ → Type 0
LooksKept ws issued limits places (Some live) = Known ws live issued places × (exceeds 0 (live_rows (rows_in ws)) limits ≡ false)
LooksKept ws issued limits places None = (not (in_order (rows_in ws) issued) || exceeds 0 (live_rows (rows_in ws)) limits) ≡ true

-- a table, its bits and the limits are fit, and what is known of them
pub record Fit (ws : List (List ℕ)) (bits : List ℕ) (live issued : ℕ) (limits places : List ℕ) : Type 0 where
  pub known : Known ws live issued places
  pub sized : Sized bits
  pub allowed : Allowed ws limits

-- and there is memory for eight states
pub record FitAll (ws : List (List ℕ)) (bits : List ℕ) (stored : List (List ℕ)) (copies : List ℕ) (live issued : ℕ) (limits places : List ℕ) : Type 0 where
  pub fit : Fit ws bits live issued limits places
  pub memory : is_memory stored copies ≡ true

-- what a look at them finds
abbrev pub Finds : List (List ℕ) → List ℕ → ℕ → List ℕ → List ℕ → Option ℕ → Type 0
Finds ws bits issued limits places (Some live) = Fit ws bits live issued limits places
Finds ws bits issued limits places None = unfit (limits_in limits) (view_of (rows_in ws) bits unstored issued) ≡ true

-- and a look at all that is lent
abbrev pub FindsAll : List (List ℕ) → List ℕ → List (List ℕ) → List ℕ → ℕ → List ℕ → List ℕ → Option ℕ → Type 0
FindsAll ws bits stored copies issued limits places (Some live) = FitAll ws bits stored copies live issued limits places
FindsAll ws bits stored copies issued limits places None = unfit (limits_in limits) (view_of (rows_in ws) bits (states_in stored copies) issued) ≡ true
