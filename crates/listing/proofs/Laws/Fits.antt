-- How long the listing of a table in order can be.
-- Assumes nothing.
use mathlib.Core.Path.{◌≡◌, refl, ap}
use mathlib.Core.Bool.{true, false, cond, ◌&&◌}
use mathlib.Core.Logic.{◌⊎◌, inl, inr}
use mathlib.Core.List.{List, [], ◌∷◌, reverse, reverse-cons}
use Prim.Native.Nat.{ℕ, ◌+◌, ◌-◌, ◌*◌, ◌≤◌}
use native.Mathlib.Omega.{arith}
use lib.ListN.{length, length-append, length-reverse}
use lib.Dec.{eqb}
use borrow.Author.Tests.{leb-true, ltb-true, eqb-true}
use Rattle.model.specs.declared.Cap.{Cap}
use Rattle.model.specs.Values.{end}
use Rattle.model.specs.Table.{span, derivation, live_rows, is_marked, parent_in_order, row_in_order, rows_in_order, in_order}
use Rattle.model.proofs.Offered.{Place, test, clash, and_both, fitting, length_live, marked_low, rises, place}
use Rattle.text.specs.Decimal.{decimal}
use Rattle.text.specs.Event.{spaced, kind_word, fresh_word}
use Rattle.text.proofs.Offered.{decimal_under, fresh_short, kind_short}
use Rattle.listing.specs.Listing.{listing, listed, form_length, total, forms_length}
use Rattle.listing.specs.Links.{Live}
use Rattle.listing.proofs.Laws.Live.{live_order}
use Rattle.listing.proofs.Laws.Listing.{form_length_lem, forms_append, listed_length}
use Rattle.listing.proofs.Laws.Front.{order, order_live}

-- A legal span ends at 4,294,967,296 at most, so it has two numbers of ten digits. A marked one ends at 65,536 at most: two numbers of five
-- digits, so that there is room for the mark's six bytes.
span_fits : (c : Cap) (earlier : List Cap) → row_in_order c earlier ≡ true → length (decimal c.start.0) + length (decimal c.length) + length (fresh_word c.fresh) ≤ 20
span_fits c earlier h = go (test (is_marked (derivation c)))
  where
    p : Place c earlier
    p = place c earlier h

    go : (is_marked (derivation c) ≡ true) ⊎ (is_marked (derivation c) ≡ false) → length (decimal c.start.0) + length (decimal c.length) + length (fresh_word c.fresh) ≤ 20
    go (inl t) =
        let ends = marked_low (derivation c) p.has_terms t in
        omega (arith, fresh_short c.fresh, decimal_under c.start.0 4 (omega arith), decimal_under c.length 4 (omega arith))
    go (inr f) =
        let ends = leb-true (end (span c)) 4294967296 p.is_legal in
        let none : length (fresh_word c.fresh) ≡ 0 = rw f in
        omega (arith, decimal_under c.start.0 9 (omega arith), decimal_under c.length 9 (omega arith))

-- a maker is at most 63
maker_fits : (c : Cap) (earlier : List Cap) → row_in_order c earlier ≡ true → length (decimal c.maker) ≤ 2
maker_fits c earlier h =
    let low = ltb-true c.maker 64 (fitting (derivation c) (place c earlier h).has_terms).has_domain in
    decimal_under c.maker 1 (omega arith)

-- A row has 48 bytes besides its name and its kind: two brackets, five spaces, the space or newline, two bytes of its right, 20 of its span and
-- its mark, two of its maker and 16 of its mask.
row_fits : (c : Cap) (earlier : List Cap) → row_in_order c earlier ≡ true → form_length c ≤ 48 + length (decimal c.name.0) + length (kind_word c.kind)
unfolding spaced
row_fits c earlier h = simp (form_length_lem, length-append) (omega (arith, span_fits c earlier h, maker_fits c earlier h))

-- the oldest row has none before it, so it is a root, and no root has a word of a kind
oldest_kind : (c : Cap) → row_in_order c [] ≡ true → c.kind ≡ 0
unfolding parent_in_order
oldest_kind c h = go (test (eqb c.parent.0 0)) (place c [] h).does_hang
  where
    go : (eqb c.parent.0 0 ≡ true) ⊎ (eqb c.parent.0 0 ≡ false) → cond (eqb c.parent.0 0) (eqb c.depth 1 && eqb c.kind 0) false ≡ true → c.kind ≡ 0
    go (inl t) p = eqb-true c.kind 0 (and_both (eqb c.depth 1) (eqb c.kind 0) (rw t at p)).1
    go (inr f) p = clash p (rw f)

-- so a kind has no more bytes than the oldest of the rows before it spares
kind_fits : (c : Cap) (earlier : List Cap) → row_in_order c earlier ≡ true → length (kind_word c.kind) + (59 * length earlier - 5) ≤ 59 * length earlier
kind_fits c [] h = omega (arith, ap (λ (k : ℕ). length (kind_word k)) (oldest_kind c h))
kind_fits c (d ∷ earlier) h = omega (arith, kind_short c.kind)

-- names below 1,000,000 have six digits
rows_fit : (bound : ℕ) (rows : List Cap) → bound ≤ 1000000 → rows_in_order bound rows ≡ true → forms_length rows ≤ 59 * length rows - 5
unfolding total
rows_fit bound [] l h = omega arith
rows_fit bound (c ∷ rows) l h =
    let r = rises bound c rows h in
    omega (arith, row_fits c rows r.in_place, kind_fits c rows r.in_place, decimal_under c.name.0 5 (omega (arith, r.below_bound)), rows_fit c.name.0 rows (omega (arith, r.below_bound)) r.rest)

-- names rise strictly, so only the newest may be 1,000,000, with seven
live_fit : (rows : List Cap) → rows_in_order 1000001 rows ≡ true → forms_length rows ≤ (59 * length rows - 5) + 1
unfolding total
live_fit [] h = omega arith
live_fit (c ∷ rows) h =
    let r = rises 1000001 c rows h in
    omega (arith, row_fits c rows r.in_place, kind_fits c rows r.in_place, decimal_under c.name.0 6 (omega (arith, r.below_bound)), rows_fit c.name.0 rows (omega (arith, r.below_bound)) r.rest)

forms_reverse : (rows : List Cap) → forms_length (reverse rows) ≡ forms_length rows
unfolding total
forms_reverse [] = refl
forms_reverse (c ∷ rows) = omega (arith, ap forms_length (reverse-cons c rows), forms_append (reverse rows) (c ∷ []), forms_reverse rows)

-- the first line has 17 bytes, and each of 1,024 rows 59, the oldest five fewer, and the newest one more
pub listed_fits : {rows : List Cap} (issued : ℕ) → Live rows → length rows ≤ 1024 → issued ≤ 1000000 → length (listed rows issued) ≤ 60429
unfolding spaced
listed_fits {rows} issued live few names =
    rw (listed_length rows issued (live_order live))
    (simp length-append (omega (arith, decimal_under issued 6 (omega arith), live_fit (reverse rows) live.rises, forms_reverse rows, length-reverse rows)))

-- The listing of a table in order has at most 60,429 bytes.
pub listing_fits : (table : List Cap) (issued : ℕ) → in_order table issued ≡ true → length (listing table issued) ≤ 60429
listing_fits table issued h =
    let o = order h in
    listed_fits issued (order_live table issued h) (omega (arith, o.few, length-reverse (live_rows table), length_live table)) o.names
