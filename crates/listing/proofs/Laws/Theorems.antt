-- The theorems about listings: what is written is read back, and a text that is read is the listing of what was read.
-- Assumes nothing.
use mathlib.Core.Path.{◌≡◌, refl, sym, ap, ap₂, ◌∙◌, subst}
use mathlib.Core.Bool.{Bool, true, false, cond, not, ◌&&◌}
use mathlib.Core.List.{List, [], reverse, reverse-reverse}
use Prim.Native.Nat.{ℕ, suc, ◌≤◌, ◌<◌}
use native.Mathlib.Omega.{arith}
use lib.Dec.{leb}
use lib.ListN.{length, take, length-reverse}
use borrow.Author.Tests.{le-leb, lt-leb}
use Rattle.model.specs.declared.Cap.{Cap}
use Rattle.model.specs.Lists.{filter}
use Rattle.model.specs.Table.{named, live_rows, lent_table, in_order}
use Rattle.model.proofs.Offered.{length_filter, live_lent, length_lent, live_named, live_rows_first_lent, lent_live}
use Rattle.text.specs.Result.{Result, value, refused}
use Rattle.text.specs.Read.{same}
use Rattle.text.specs.Write.{stored}
use Rattle.listing.specs.Listing.{roots, listed, listing}
use Rattle.listing.specs.Sort.{sorted}
use Rattle.listing.specs.Forms.{read_lines, guess_rows, guess_issued}
use Rattle.listing.specs.ReadListing.{is_listing, guess_table, Listed, read_listing}
use Rattle.listing.specs.WriteListing.{listing_written, listing_stored}
use Rattle.listing.specs.ReadInto.{read_table}
use Rattle.listing.specs.Listable.{Listable}
use Rattle.text.proofs.Offered.{same_refl, same_true, Wrote, wrote}
use Rattle.listing.proofs.Laws.Sorted.{preorder, InOrder, sorted_preorder, length_sorted}
use Rattle.listing.proofs.Laws.Live.{live_order}
use Rattle.listing.proofs.Laws.Front.{Order, order, order_live}
use Rattle.listing.proofs.Laws.Nested.{nested_reverse, roots_reverse, fields_reverse}
use Rattle.listing.proofs.Laws.Back.{lines_back, lines_behind, issued_back}

-- the live rows in a table of another size
module _ (n : ℕ) (table : List Cap) (issued : ℕ) (h : in_order table issued ≡ true) (few : n ≤ 1024) (fits : length (live_rows table) ≤ n) where
  same_live : live_rows (lent_table n (live_rows table)) ≡ live_rows table
  same_live = live_lent n (live_rows table) (live_named table)

  resized_order : in_order (lent_table n (live_rows table)) issued ≡ true
  unfolding in_order
  resized_order =
      let o : Order table issued = order h in
      let short : length (lent_table n (live_rows table)) ≤ 1024 = omega (arith, length_lent n (live_rows table) fits) in
      rw (le-leb (length (lent_table n (live_rows table))) 1024 short, live_rows_first_lent n (live_rows table) (live_named table), le-leb issued 1000000 o.names, same_live) o.rises

  resized_listing : listing (lent_table n (live_rows table)) issued ≡ listing table issued
  resized_listing = ap (λ (rows : List Cap). listed (reverse rows) issued) same_live

module _ (table : List Cap) (issued : ℕ) (t : Listable table issued) where
  abbrev rows : List Cap
  rows = reverse (live_rows table)

  o : Order table issued
  o = order t.ordered

  in_order_lem : InOrder rows
  in_order_lem = live_order (order_live table issued t.ordered)

  fits : length (live_rows table) ≤ length table
  unfolding live_rows
  fits = omega (arith, length-reverse (filter (λ c. not (named 0 c)) table), length_filter (λ c. not (named 0 c)) table)

  count : length (live_rows table) ≤ 1024
  count = omega (arith, o.few, fits)

  preorder_count : length (preorder 0 rows) ≡ length (live_rows table)
  preorder_count = sym (length_sorted (preorder 0 rows)) ∙ ap length (sorted_preorder rows in_order_lem) ∙ length-reverse (live_rows table)

  -- what is guessed of a listing is its rows
  guess_back : guess_rows (listing table issued) ≡ rows
  unfolding guess_rows listed
  guess_back =
      let ne = nested_reverse (suc issued) (live_rows table) (live_named table) o.rises in
      let fs = fields_reverse (live_rows table) t.small (suc issued) (omega (arith, o.names)) o.rises in
      let ds = roots_reverse (suc issued) (live_rows table) o.rises in
      ap (λ (s : List ℕ). sorted (reverse (read_lines 1024 (record { rest = s; rows = [] })))) (lines_behind issued (roots rows))
      ∙ ap (λ (l : List Cap). sorted (reverse l)) (lines_back rows ne fs ds 1024 [] (omega (arith, preorder_count, count)) (omega (arith, preorder_count, count)))
      ∙ ap sorted (reverse-reverse (preorder 0 rows))
      ∙ sorted_preorder rows in_order_lem

  table_back : guess_table (listing table issued) ≡ lent_table 1024 (live_rows table)
  unfolding guess_table
  table_back = ap (λ (l : List Cap). lent_table 1024 (reverse l)) guess_back ∙ ap (lent_table 1024) (reverse-reverse (live_rows table))

  number_back : guess_issued (listing table issued) ≡ issued
  number_back = issued_back rows issued (omega (arith, o.names))

  pub is_listing_lem : is_listing (listing table issued) (guess_table (listing table issued)) (guess_issued (listing table issued)) ≡ true
  unfolding is_listing
  is_listing_lem =
      rw (table_back, number_back, resized_order 1024 table issued t.ordered (omega arith) count, resized_listing 1024 table issued t.ordered (omega arith) count) (same_refl (listing table issued))

  pub live_back : live_rows (guess_table (listing table issued)) ≡ live_rows table
  live_back = ap live_rows table_back ∙ live_lent 1024 (live_rows table) (live_named table)

  -- ---- what is written is read back

  -- a listing that holds no more capabilities than rows is read, with its issued number
  pub read_listed : (n : ℕ) → length (live_rows table) ≤ n → read_listing (listing table issued) n ≡ value (record { table = lent_table n (live_rows table); issued = issued })
  unfolding read_listing
  read_listed n l =
      rw (is_listing_lem, live_back, le-leb (length (live_rows table)) n l) (λ i. value (record { table = lent_table n (live_rows table); issued = number_back i }))

  -- one that holds more is refusal 10
  pub read_full : (n : ℕ) → n < length (live_rows table) → read_listing (listing table issued) n ≡ refused 10
  unfolding read_listing
  read_full n l = rw (is_listing_lem, live_back, lt-leb (length (live_rows table)) n l)

  -- reading the listing of a table into as many rows gives the same table and issued number
  pub read_back : read_listing (listing table issued) (length table) ≡ value (record { table = table; issued = issued })
  read_back =
      read_listed (length table) fits ∙ (λ i. value (record { table = lent_live table o.arrange i; issued = issued }))

  -- what a writer left in the buffer reads back
  pub written_reads_back : (out : List ℕ) (n : ℕ) → listing_written table issued out ≡ value n
      → read_listing (take n (listing_stored table issued out)) (length table) ≡ value (record { table = table; issued = issued })
  unfolding listing_written listing_stored
  written_reads_back out n h =
      let w : Wrote true (listing table issued) (stored true (listing table issued) out) n = wrote n (record { answer = sym (rw t.ordered at h); buffer = refl }) refl in
      rw t.ordered (ap (λ (s : List ℕ). read_listing s (length table)) w.front ∙ read_back)

  -- and so into a lent table: one in order has at most 1,024 rows
  pub written_reads_into : (out : List ℕ) (n : ℕ) → listing_written table issued out ≡ value n
      → read_table (take n (listing_stored table issued out)) (length table) ≡ value (record { table = table; issued = issued })
  unfolding read_table
  written_reads_into out n h = rw (le-leb (length table) 1024 o.few) (written_reads_back out n h)

-- ---- no other text is read

-- a text that is read is the listing of what was read, a table in order
pub listed_read : (s : List ℕ) (n : ℕ) (l : Listed) → n ≤ 1024 → read_listing s n ≡ value l → (in_order l.table l.issued ≡ true) × (s ≡ listing l.table l.issued)
unfolding read_listing is_listing
listed_read s n l few h =
    go (in_order g i) (same s (listing g i)) (leb (length (live_rows g)) n) refl refl refl h
  where
    g : List Cap
    g = guess_table s

    i : ℕ
    i = guess_issued s

    go : (x y z : Bool) → in_order g i ≡ x → same s (listing g i) ≡ y → leb (length (live_rows g)) n ≡ z
        → cond (x && y) (cond z (value (record { table = lent_table n (live_rows g); issued = i })) (refused 10)) (refused 2) ≡ value l
        → (in_order l.table l.issued ≡ true) × (s ≡ listing l.table l.issued)
    go true true true p q r e =
        let is : ◌≡◌ {A = Listed} (record { table = lent_table n (live_rows g); issued = i }) l = cc in
        let fits = borrow.Author.Tests.leb-true (length (live_rows g)) n r in
        subst (λ (m : Listed). (in_order m.table m.issued ≡ true) × (s ≡ listing m.table m.issued)) is
        (resized_order n g i p few fits, same_true s (listing g i) q ∙ sym (resized_listing n g i p few fits))
    go true true false p q r e = absurd (let z : ◌≡◌ {A = ℕ} 0 1 = cc in omega arith)
    go true false z p q r e = absurd (let z : ◌≡◌ {A = ℕ} 0 1 = cc in omega arith)
    go false y z p q r e = absurd (let z : ◌≡◌ {A = ℕ} 0 1 = cc in omega arith)

-- a text that gets refusal 2 is the listing of no table in order
pub unlisted : (s : List ℕ) (n : ℕ) → read_listing s n ≡ refused 2 → (table : List Cap) (issued : ℕ) → Listable table issued → s ≡ listing table issued → ⊥
unlisted s n h table issued t e = go (leb (length (live_rows table)) n) refl
  where
    go : (z : Bool) → leb (length (live_rows table)) n ≡ z → ⊥
    go true r = let z : ◌≡◌ {A = ℕ} 0 1 = cc (ap (λ (x : List ℕ). read_listing x n) e, read_listed table issued t n (borrow.Author.Tests.leb-true (length (live_rows table)) n r)) in omega arith
    go false r = let z : ◌≡◌ {A = ℕ} 0 1 = cc (ap (λ (x : List ℕ). read_listing x n) e, read_full table issued t n (borrow.Author.Tests.leb-false (length (live_rows table)) n r)) in omega arith

-- two tables of one length with one listing are equal, and so are their issued numbers
pub listing_one : (a b : List Cap) (i j : ℕ) → Listable a i → Listable b j → length a ≡ length b → listing a i ≡ listing b j → (a ≡ b) × (i ≡ j)
listing_one a b i j ha hb l e =
    let same : ◌≡◌ {A = Result Listed} (value (record { table = a; issued = i })) (value (record { table = b; issued = j })) =
    sym (read_back a i ha) ∙ ap₂ read_listing e l ∙ read_back b j hb in
    let is : ◌≡◌ {A = Listed} (record { table = a; issued = i }) (record { table = b; issued = j }) = cc in
    (ap (λ (x : Listed). x.table) is, ap (λ (x : Listed). x.issued) is)
