-- The first rows of a lent table.
-- Assumes nothing.
use mathlib.Core.Path.{◌≡◌, refl, ap, sym, ◌∙◌}
use mathlib.Core.List.{List, [], ◌∷◌}
use Prim.Native.Nat.{ℕ, zero, suc, ◌≤◌, ◌<◌}
use native.Mathlib.Omega.{arith}
use lib.ListN.{length, get_or, set, take, length-set}
use lib.Seq.{length-take-le, get_or-take}
use Rattle.model.specs.declared.Cap.{Cap}
use Rattle.model.specs.Table.{empty_row}
use Rattle.table.specs.Words.{cap_of, rows_in}
use Rattle.table.proofs.Offered.{length_in_lem}
use Rattle.listing.specs.First.{first_rows}

pub length_first : (ws : List (List ℕ)) (n : ℕ) → n ≤ length ws → length (first_rows ws n) ≡ n
length_first ws n l = length-take-le n (rows_in ws) (omega (arith, length_in_lem ws))

pub first_at : (ws : List (List ℕ)) (n i : ℕ) → i < n → get_or (first_rows ws n) i empty_row ≡ get_or (rows_in ws) i empty_row
first_at ws n i l = get_or-take n (rows_in ws) i empty_row l

-- the rows of a table that is lent in part
pub rows_part : (ws : List (List ℕ)) (n : ℕ) → rows_in (take n ws) ≡ first_rows ws n
unfolding rows_in
rows_part ws zero = refl
rows_part [] (suc n) = refl
rows_part (w ∷ ws) (suc n) = ap {B = List Cap} (λ l. cap_of w ∷ l) (rows_part ws n)

-- a table of which one row was set has as many as it had
pub set_length : (ws ws' : List (List ℕ)) (i : ℕ) (c : Cap) → rows_in ws' ≡ set (rows_in ws) i c → length ws' ≡ length ws
set_length ws ws' i c e = sym (length_in_lem ws') ∙ ap length e ∙ length-set (rows_in ws) i c ∙ length_in_lem ws
