-- Card 10: "so with one 10 never occurs"; and without one 18 never does. With a sheet of limits that is not refused, a domain whose limit is not
-- reached always finds an empty row.
-- Assumes nothing.
use mathlib.Core.Path.{◌≡◌, refl}
use mathlib.Core.Bool.{Bool, true, false, not, ◌&&◌, ◌||◌}
use mathlib.Core.List.{List, [], ◌∷◌}
use Prim.Native.Nat.{ℕ, suc, ◌+◌, ◌<◌, ◌≤◌}
use native.Mathlib.Omega.{arith}
use lib.Dec.{eqb, ltb}
use lib.ListN.{length, get_or}
use borrow.Author.Tests.{eqb-true, leb-false, ltb-true, ltb-false, not-false}
use Rattle.model.specs.declared.Cap.{Cap}
use Rattle.model.specs.declared.Event.TheVariants.{Create, Borrow, Read, Write, Drop}
use Rattle.model.specs.Lists.{any}
use Rattle.model.specs.Requests.{Unlimited, Limited, Request, Single, Group, Mark, Back, caller_of}
use Rattle.model.specs.Table.{row, span, derivation, empty_row, live_rows, is_domain, terms_in_order, in_order}
use Rattle.model.specs.Limits.{made, sum, exceeds, refused_sheet, no_row, limit_reached}
use Rattle.model.specs.Refusals.{View, standings, refusals, judge}
use Rattle.model.proofs.Lists.{All_map, clash, or_neither}
use Rattle.model.proofs.Limits.{exceeds_new, fewer_than_limits}
use Rattle.model.proofs.Order.{ordered, terms_given, fitting}
use Rattle.model.proofs.Precedence.{given_some}

-- k is the number of a check that holds
abbrev given : ℕ → List (ℕ × Bool) → Bool
given k = any (λ c. eqb k c.0 && c.1)

-- the checks of names have neither number
no_room_of_names : (rows : List Cap) (issued actor : ℕ) (names : List ℕ) → (given 10 (standings rows issued actor names) ≡ false) × (given 18 (standings rows issued actor names) ≡ false)
unfolding standings
no_room_of_names rows issued actor [] = (refl, refl)
no_room_of_names rows issued actor (u ∷ names) = no_room_of_names rows issued actor names

no_ten : (v : View) (q : Request) (limits : List ℕ) → (caller_of q).limits ≡ Limited limits → given 10 (refusals v q) ≡ false
unfolding refusals no_row
no_ten v (Single by (Create w s r)) limits l = rw l
no_ten v (Single by (Borrow w u s r)) limits l = rw l
no_ten v (Single by (Read u s)) limits l = refl
no_ten v (Single by (Write u s)) limits l = refl
no_ten v (Single by (Drop u)) limits l = refl
no_ten v (Group by names) limits l = (no_room_of_names (live_rows v.table) v.issued by.actor names).0
no_ten v (Mark by k) limits l = refl
no_ten v (Back by k) limits l = refl

no_eighteen : (v : View) (q : Request) → (caller_of q).limits ≡ Unlimited → given 18 (refusals v q) ≡ false
unfolding refusals limit_reached
no_eighteen v (Single by (Create w s r)) l = rw l
no_eighteen v (Single by (Borrow w u s r)) l = rw l
no_eighteen v (Single by (Read u s)) l = refl
no_eighteen v (Single by (Write u s)) l = refl
no_eighteen v (Single by (Drop u)) l = refl
no_eighteen v (Group by names) l = (no_room_of_names (live_rows v.table) v.issued by.actor names).1
no_eighteen v (Mark by k) l = refl
no_eighteen v (Back by k) l = refl

-- With a sheet of limits 10 is never given,
pub ten_never : (v : View) (q : Request) (limits : List ℕ) → (caller_of q).limits ≡ Limited limits → judge v q ≡ 10 → ⊥
ten_never v q limits l e = clash (given_some v q 9 e) (no_ten v q limits l)

-- and without one 18 never.
pub eighteen_never : (v : View) (q : Request) → (caller_of q).limits ≡ Unlimited → judge v q ≡ 18 → ⊥
eighteen_never v q l e = clash (given_some v q 17 e) (no_eighteen v q l)

-- Nor is 10 missed: where the sheet is not refused, a domain whose limit is not reached finds an empty row. A row of its own more would still
-- keep within the limits, so within their sum, and that is at most the rows.
pub row_left : (limits : List ℕ) (table : List Cap) (issued d : ℕ) → in_order table issued ≡ true → refused_sheet table (Limited limits) ≡ false → is_domain d ≡ true → limit_reached (Limited limits) (live_rows table) d ≡ false
    → length (live_rows table) < length table
unfolding refused_sheet limit_reached
row_left limits table issued d o r e l =
    let p = or_neither (not (eqb (length limits) 64)) (ltb (length table) (sum limits) || exceeds 0 (live_rows table) limits) r in
    let q = or_neither (ltb (length table) (sum limits)) (exceeds 0 (live_rows table) limits) p.1 in
    let sixty_four = eqb-true (length limits) 64 (not-false (eqb (length limits) 64) p.0) in
    let below = ltb-true d 64 e in
    let makers = All_map _ _ (domain sixty_four) (live_rows table) (terms_given (suc issued) (live_rows table) (ordered table issued o).rise) in
    omega (
      arith,
      ltb-false (length table) (sum limits) q.0,
      fewer_than_limits limits 0 (another ∷ live_rows table) ((omega arith, omega arith), makers) (exceeds_new another (live_rows table) 0 d limits (omega arith) (leb-false (get_or limits d 0) (made d (live_rows table)) l) q.1),
    )
  where
    another : Cap
    another = row (record { name = 0; parent = 0; span = span empty_row; kind = 0; fresh = 0; maker = d; holders = 0 }) 0 0

    domain : length limits ≡ 64 → (c : Cap) → terms_in_order (derivation c) ≡ true → (0 ≤ c.maker) × (c.maker < 0 + length limits)
    domain z c h = let k = ltb-true c.maker 64 (fitting (derivation c) h).has_domain in (omega arith, omega arith)
