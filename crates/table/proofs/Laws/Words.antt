-- The rows of a lent table: a row is read and set by its place.
-- Assumes nothing.
use mathlib.Core.Path.{◌≡◌, refl, ap}
use mathlib.Core.Logic.{◌⊎◌, inl, inr}
use mathlib.Core.Bool.{true, false}
use mathlib.Core.List.{List, [], ◌∷◌}
use Prim.Native.Nat.{ℕ, zero, suc, ◌≤◌, ◌<◌}
use native.Mathlib.Omega.{arith}
use native.Mathlib.Nat.{le_of_eq, div-add-mod'}
use lib.ListN.{length, get_or, set, length-map, get_or-map, get_or-eq_default}
use Rattle.model.specs.declared.Cap.{Cap}
use Rattle.model.specs.Table.{empty_row}
use Rattle.table.specs.Words.{mask_of, low_half, high_half, cap_of, words_of, rows_in}
use Rattle.table.specs.Rows.{name_at, Filled, Rise}
use Rattle.model.proofs.Offered.{test}
use borrow.Author.Tests.{leb-true, leb-false}
use lib.Dec.{leb}

pub length_in_lem : (ws : List (List ℕ)) → length (rows_in ws) ≡ length ws
unfolding rows_in
length_in_lem ws = length-map ws cap_of

pub in_at : (ws : List (List ℕ)) (i : ℕ) → get_or (rows_in ws) i empty_row ≡ cap_of (get_or ws i [])
unfolding rows_in
in_at ws i = get_or-map cap_of ws i []

-- a mask is its halves
joined_halves : (mask : ℕ) → mask_of (low_half mask) (high_half mask) ≡ mask
joined_halves mask = omega (arith, div-add-mod' mask 4294967296)

-- a row is what its words are
pub cap_back : (c : Cap) → cap_of (words_of c) ≡ c
cap_back c = λ i. record { name = c.name; parent = c.parent; start = c.start; length = c.length; right = c.right; depth = c.depth; kind = c.kind; fresh = c.fresh; maker = c.maker; holders = joined_halves c.holders i }

pub in_set : (ws : List (List ℕ)) (i : ℕ) (c : Cap) → rows_in (set ws i (words_of c)) ≡ set (rows_in ws) i c
unfolding rows_in
in_set [] i c = refl
in_set (w ∷ ws) zero c = ap {B = List Cap} (λ d. d ∷ rows_in ws) (cap_back c)
in_set (w ∷ ws) (suc i) c = ap {B = List Cap} (λ l. cap_of w ∷ l) (in_set ws i c)

-- past the end there is no named row
pub filled_fits : (ws : List (List ℕ)) (k : ℕ) → Filled (rows_in ws) k → k ≤ length ws
filled_fits ws k f = go (test (leb k (length ws)))
  where
    go : (leb k (length ws) ≡ true) ⊎ (leb k (length ws) ≡ false) → k ≤ length ws
    go (inl t) = leb-true k (length ws) t
    go (inr e) =
        let l : length ws < k = leb-false k (length ws) e in
        let p : 0 < name_at (rows_in ws) (length ws) = f (length ws) l in
        let q : name_at (rows_in ws) (length ws) ≡ 0 = ap (λ (c : Cap). c.name.0) (get_or-eq_default (rows_in ws) empty_row (le_of_eq (length_in_lem ws))) in
        absurd (omega arith)

pub rise_fits : (ws : List (List ℕ)) (k : ℕ) → Rise (rows_in ws) k → k ≤ length ws
rise_fits ws k r = filled_fits ws k r.positive
