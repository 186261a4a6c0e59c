-- What the engine's functions promise each other, over the rows T of the lent table.
-- Assumes nothing.
use Rattle.std.specs.Prelude.{ℕ, zero, suc, ◌<◌, ◌≤◌, max, ◌≡◌, Bool, false, not, cond, ◌&&◌, List, [], eqb, leb, ltb, length, get_or}
use Rattle.model.specs.declared.Span.{Span}
use Rattle.model.specs.declared.Cap.{Cap}
use Rattle.model.specs.declared.Access.{Access}
use Rattle.model.specs.Lists.{cons_if, any}
use Rattle.model.specs.Values.{touches}
use Rattle.model.specs.declared.Sheet.{Sheet}
use Rattle.model.specs.declared.Origin.{Origin}
use Rattle.model.specs.declared.Origin.TheVariants.{Cell, Kin, Stranger}
use Rattle.model.specs.Derivation.{ancestry, in_subtree}
use Rattle.model.specs.Strike.{is_cell, result_of, in_other_cell, nearest_cell}
use Rattle.model.specs.Table.{empty_row, span, derivation, derivations, named, lent_table}
use Rattle.model.specs.Effects.{lowered}
use Rattle.table.specs.Words.{rows_in}
use Rattle.table.specs.Sheets.{weight}
use Rattle.table.specs.Rows.{name_at, parent_at, before, Front, Places, LiveRows}

-- a table whose first k rows are live, and the others zeros
pub record Ready (ws : List (List ℕ)) (k : ℕ) : Type 0 where
  pub fits : k ≤ length ws
  pub few : length ws ≤ 1024
  pub stands : LiveRows (rows_in ws) k
  pub zeros : (j : ℕ) → k ≤ j → j < length ws → get_or (rows_in ws) j empty_row ≡ empty_row

-- ---- how rows stand to the user of an access

-- the rows on the ancestry of the name u are those with 1, and no other has more than 0
pub record OnAncestry (T : List Cap) (k u : ℕ) (relation : List ℕ) : Type 0 where
  pub long : length relation ≡ 1024
  pub each : (i : ℕ) → i < k → eqb (get_or relation i 0) 1 ≡ in_subtree (name_at T i) (ancestry (derivations (before T k)) u)
  pub small : (i : ℕ) → i < k → get_or relation i 0 < 2

-- r is the place of the nearest cell on that ancestry, or is not below k
pub record NearestAt (T : List Cap) (k u r : ℕ) : Type 0 where
  pub cell : nearest_cell (ancestry (derivations (before T k)) u) ≡ cond (ltb r k) (name_at T r) 0

-- the place of the nearest cell among those that were passed, where the next one stands at i: what was found, or this one
abbrev pub nearer_of : List Cap → ℕ → ℕ → ℕ → ℕ
nearer_of T k found i = cond (ltb found k) found (cond (is_cell (derivation (get_or T i empty_row))) i k)

-- the value at q, if q is below i
abbrev pub value_below : List ℕ → ℕ → ℕ → ℕ
value_below values q i = cond (ltb q i) (get_or values q 0) 0

-- what a row at i gets that is not on the ancestry and stands behind the cell at `cell`, where its parent stands at q: 2 under that cell, else 0.
-- On the ancestry, the rows from the cell's place on are under it.
abbrev pub inside_of : List ℕ → ℕ → ℕ → ℕ → ℕ
inside_of relation cell q i = cond (ltb q i && (leb cell q && not (eqb (get_or relation q 0) 0))) 2 0

pub record SetInside (k cell : ℕ) (places before after : List ℕ) : Type 0 where
  pub long : length after ≡ 1024
  pub front : (i : ℕ) → i ≤ cell → get_or after i 0 ≡ get_or before i 0
  pub line : (i : ℕ) → i < k → get_or before i 0 ≡ 1 → get_or after i 0 ≡ 1
  pub other : (i : ℕ) → i < k → cell < i → (get_or before i 0 ≡ 1 → ⊥) → get_or after i 0 ≡ inside_of after cell (get_or places i 0) i

-- An access comes from a cell that a row is not under: there is a cell above the user, and the row has not 2.
abbrev pub is_apart : Bool → ℕ → Bool
is_apart in_cell relation = in_cell && not (eqb relation 2)

-- a row has 1 on the ancestry of the user u; elsewhere it tells whether the user is in the subtree of a cell that the row is not under
pub record Related (T : List Cap) (k u : ℕ) (in_cell : Bool) (relation : List ℕ) : Type 0 where
  pub each : (i : ℕ) → i < k → eqb (get_or relation i 0) 1 ≡ in_subtree (name_at T i) (ancestry (derivations (before T k)) u)
  pub apart : (i : ℕ) → i < k → in_subtree (name_at T i) (ancestry (derivations (before T k)) u) ≡ false
      → is_apart in_cell (get_or relation i 0) ≡ in_other_cell (ancestry (derivations (before T k)) u) (ancestry (derivations (before T k)) (name_at T i))

-- ---- marks: 0 keep, 1 lower, 2 end

-- the mark of a name
abbrev pub mark : (ℕ → Bool) → (ℕ → Bool) → ℕ → ℕ
mark ends lowers x = cond (ends x) 2 (cond (lowers x) 1 0)

pub record Marked (T : List Cap) (k : ℕ) (marks : List ℕ) (ends lowers : ℕ → Bool) : Type 0 where
  pub each : (i : ℕ) → i < k → get_or marks i 0 ≡ mark ends lowers (name_at T i)

-- where an access comes from, for a holder that is not on the user's ancestry
abbrev pub origin_of : Bool → Bool → Origin
origin_of apart kin = cond apart Cell (cond kin Kin Stranger)

-- a holder's own mark, by a sheet
abbrev pub own : Sheet → Access → Span → Cap → Bool → ℕ → Bool → ℕ
own sheet a s c in_cell relation kin = cond (touches s (span c) && not (eqb relation 1)) (weight (result_of sheet c.kind a (origin_of (is_apart in_cell relation) kin))) 0

-- the own marks of an access to s: kin are those whose parent is on the user's ancestry
abbrev pub own_of_access : Sheet → List Cap → Bool → List ℕ → List ℕ → Access → Span → ℕ → ℕ
own_of_access sheet T in_cell relation places a s i = own sheet a s (get_or T i empty_row) in_cell (get_or relation i 0) (eqb (value_below relation (get_or places i 0) i) 1)

-- those of names dropped together: 2 at each of them
abbrev pub own_of_names : List Cap → List ℕ → ℕ → ℕ
own_of_names T names i = cond (any (λ u. eqb u (name_at T i)) names) 2 0

-- these are the own marks of the first k rows
pub record Owned (T : List Cap) (k : ℕ) (names owned : List ℕ) : Type 0 where
  pub long : length owned ≡ 1025
  pub each : (i : ℕ) → i < k → get_or owned i 0 ≡ own_of_names T names i

-- each mark is the greater of the row's own and its parent's
pub record Spread (T : List Cap) (k : ℕ) (owned : ℕ → ℕ) (marks : List ℕ) : Type 0 where
  pub child : (i q : ℕ) → i < k → q < i → name_at T q ≡ parent_at T i → get_or marks i 0 ≡ max (owned i) (get_or marks q 0)
  pub root : (i : ℕ) → i < k → any (named (parent_at T i)) (before T i) ≡ false → get_or marks i 0 ≡ owned i

-- the rows in front of r, of the first k, are not struck by an access to s, where those on the user's ancestry have 1
pub record Spared (T : List Cap) (k : ℕ) (relation : List ℕ) (s : Span) (r : ℕ) : Type 0 where
  pub fits : r ≤ k
  pub none : (i : ℕ) → i < r → (touches s (span (get_or T i empty_row)) && not (eqb (get_or relation i 0) 1)) ≡ false

-- the rows in front of `first`, of the first k, have no mark
pub record Quiet (k first : ℕ) (marks : List ℕ) : Type 0 where
  pub fits : first ≤ k
  pub zero : (j : ℕ) → j < first → get_or marks j 0 ≡ 0

-- no mark of the first k rows is above r
pub record Most (k : ℕ) (marks : List ℕ) (r : ℕ) : Type 0 where
  pub each : (j : ℕ) → j < k → get_or marks j 0 ≤ r

-- the rows in front of `first` stay where they are
pub record Stays (first : ℕ) (places : List ℕ) : Type 0 where
  pub long : length places ≡ 1024
  pub each : (j : ℕ) → j < first → get_or places j 0 ≡ j

-- no mark is below the parent's
pub record Downward (T : List Cap) (k : ℕ) (marks : List ℕ) : Type 0 where
  pub child : (i q : ℕ) → i < k → q < i → name_at T q ≡ parent_at T i → get_or marks q 0 ≤ get_or marks i 0

-- the first k rows after their marks: those marked 2 go, those marked 1 become `ro`; the newest first
unfoldable pub kept : List ℕ → List Cap → ℕ → List Cap
kept marks T zero = []
kept marks T (suc k) = cons_if (ltb (get_or marks k 0) 2) (lowered (eqb (get_or marks k 0) 1) (get_or T k empty_row)) (kept marks T k)

pub record Closes (marks : List ℕ) (T T' : List Cap) (k r : ℕ) : Type 0 where
  pub fits : r ≤ k
  pub rows : before T' r ≡ kept marks T k
  pub rest : (j : ℕ) → k ≤ j → get_or T' j empty_row ≡ get_or T j empty_row

pub record Clears (T T' : List Cap) (from to : ℕ) : Type 0 where
  pub low : (j : ℕ) → j < from → get_or T' j empty_row ≡ get_or T j empty_row
  pub zeros : (j : ℕ) → from ≤ j → j < to → get_or T' j empty_row ≡ empty_row
  pub rest : (j : ℕ) → to ≤ j → get_or T' j empty_row ≡ get_or T j empty_row

-- where no row ends, each stays where it is
pub record Lowers (marks : List ℕ) (T T' : List Cap) (k : ℕ) : Type 0 where
  pub low : (j : ℕ) → j < k → get_or T' j empty_row ≡ lowered (eqb (get_or marks j 0) 1) (get_or T j empty_row)
  pub rest : (j : ℕ) → k ≤ j → get_or T' j empty_row ≡ get_or T j empty_row

-- a table of n rows after an allowed event: its live rows, how many they are, and where their parents stand
pub record Settled (T : List Cap) (n live : ℕ) (rows : List Cap) (places : List ℕ) : Type 0 where
  pub table : T ≡ lent_table n rows
  pub front : Front T n live
  pub placed : Places T live places
