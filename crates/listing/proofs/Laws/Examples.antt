-- The listing of document 01, listings with kinds, marks, makers and holders, and what reading makes of texts beside them.
-- Assumes nothing.
use mathlib.Core.Path.{◌≡◌, refl, sym, ap, ◌∙◌}
use mathlib.Core.Bool.{true}
use mathlib.Core.List.{List, [], ◌∷◌}
use Prim.Native.Nat.{ℕ}
use Prim.Native.String.{String}
use native.Mathlib.Omega.{arith}
use Rattle.model.specs.declared.Cap.{Cap}
use Rattle.model.specs.Bits.{has_bit}
use Rattle.model.specs.Table.{empty_row, live_rows, lent_table, in_order, live_rows_first, is_empty_row, rows_in_order, row_in_order, parent_in_order, row_fits_parent, terms_in_order, lookup}
use Rattle.text.specs.Class.{class_of}
use Rattle.text.specs.Line.{through}
use Rattle.text.specs.Decimal.{numeral, decimal, number_from}
use Rattle.text.specs.Mask.{hex, hex_from}
use Rattle.text.specs.Event.{bytes, spaced}
use Rattle.text.specs.Result.{value, refused}
use Rattle.text.specs.Read.{same}
use Rattle.listing.specs.Listing.{pieces, form, children, roots, listed, listing}
use Rattle.listing.specs.Sort.{insert, sorted}
use Rattle.listing.specs.Forms.{read_form, read_lines, guess_rows}
use Rattle.listing.specs.ReadListing.{is_listing, guess_table, read_listing}
use Rattle.listing.specs.WriteListing.{listing_written}
use Rattle.listing.specs.Listable.{SmallRows}
use Rattle.listing.proofs.Laws.Theorems.{read_back}

-- a row with its maker and its mask of holders
row_by : ℕ → ℕ → ℕ → ℕ → ℕ → ℕ → ℕ → ℕ → ℕ → ℕ → Cap
row_by a h m k n p s l r d = record { name = record { 0 = n }; parent = record { 0 = p }; start = record { 0 = s }; length = l; right = r; depth = d; kind = k; fresh = m; maker = a; holders = h }

-- one that domain 0 made for itself alone
row_with : ℕ → ℕ → ℕ → ℕ → ℕ → ℕ → ℕ → ℕ → Cap
row_with = row_by 0 1

-- a marked row, and one that is not marked
marked_as : ℕ → ℕ → ℕ → ℕ → ℕ → ℕ → ℕ → Cap
marked_as = row_with 1

row_as : ℕ → ℕ → ℕ → ℕ → ℕ → ℕ → ℕ → Cap
row_as = row_with 0

-- a reference
row : ℕ → ℕ → ℕ → ℕ → ℕ → ℕ → Cap
row = row_as 0

-- the table that `capcheck` ends with in document 01, with a row to spare
table : List Cap
table = row 1 0 0 64 2 1 ∷ row 2 1 0 16 1 2 ∷ row 3 1 16 16 2 2 ∷ empty_row ∷ []

in_order_lem : in_order table 3 ≡ true
unfolding in_order live_rows_first is_empty_row rows_in_order row_in_order parent_in_order row_fits_parent terms_in_order has_bit lookup live_rows table row row_as row_with row_by
in_order_lem = refl

its_listing : listing table 3 ≡ bytes "(issued 3)\n(1 0 64 rw 0 0000000000000001 (2 0 16 ro 0 0000000000000001) (3 16 16 rw 0 0000000000000001))\n"
unfolding live_rows table row row_as row_with row_by listed roots children form pieces spaced decimal numeral hex
its_listing = refl

in_range : SmallRows (live_rows table)
unfolding live_rows table row row_as row_with row_by
in_range = ((omega arith, omega arith, omega arith), ((omega arith, omega arith, omega arith), ((omega arith, omega arith, omega arith), tt)))

it_reads : read_listing (bytes "(issued 3)\n(1 0 64 rw 0 0000000000000001 (2 0 16 ro 0 0000000000000001) (3 16 16 rw 0 0000000000000001))\n") 4 ≡ value (record { table = table; issued = 3 })
unfolding table
it_reads = ap (λ (s : List ℕ). read_listing s 4) (sym its_listing) ∙ read_back table 3 (record { ordered = in_order_lem; small = in_range })

-- a table with no capability
none : listing (empty_row ∷ []) 0 ≡ bytes "(issued 0)\n"
unfolding live_rows listed roots spaced decimal numeral hex
none = refl

-- two roots, of which the second has a child that has a child
two_roots : List Cap
two_roots = row 4 0 0 8 1 1 ∷ row 5 0 8 8 2 1 ∷ row 7 5 8 4 2 2 ∷ row 9 7 9 1 1 3 ∷ row 12 5 12 4 1 2 ∷ []

two_listing : listing two_roots 12 ≡ bytes "(issued 12)\n(4 0 8 ro 0 0000000000000001)\n(5 8 8 rw 0 0000000000000001 (7 8 4 rw 0 0000000000000001 (9 9 1 ro 0 0000000000000001)) (12 12 4 ro 0 0000000000000001))\n"
unfolding live_rows two_roots row row_as row_with row_by listed roots children form pieces spaced decimal numeral hex
two_listing = refl

-- ---- kinds

-- Card 6: "written by a borrow as a last word `raw` or `cell`, and in listings after the right". A child of a raw capability, and a cell
-- behind both.
kinded : List Cap
kinded = row 1 0 0 64 2 1 ∷ row_as 1 2 1 0 8 2 2 ∷ row 3 2 0 4 1 3 ∷ row_as 2 4 1 8 8 1 2 ∷ []

kinded_listing : listing kinded 4 ≡ bytes "(issued 4)\n(1 0 64 rw 0 0000000000000001 (2 0 8 rw raw 0 0000000000000001 (3 0 4 ro 0 0000000000000001)) (4 8 8 ro cell 0 0000000000000001))\n"
unfolding live_rows kinded row row_as row_with row_by listed roots children form pieces spaced decimal numeral hex
kinded_listing = refl

kinded_reads : read_listing (bytes "(issued 4)\n(1 0 64 rw 0 0000000000000001 (2 0 8 rw raw 0 0000000000000001 (3 0 4 ro 0 0000000000000001)) (4 8 8 ro cell 0 0000000000000001))\n") 4 ≡ value (record { table = kinded; issued = 4 })
unfolding kinded row row_as row_with row_by read_listing is_listing guess_table guess_rows read_form read_lines sorted insert same lent_table in_order live_rows_first is_empty_row rows_in_order row_in_order parent_in_order row_fits_parent terms_in_order has_bit lookup live_rows listed roots children form pieces spaced decimal numeral hex number_from hex_from through class_of
kinded_reads = refl

-- raw capabilities and cells below each other, each with two children of other kinds
deeper : List Cap
deeper =
    row 1 0 0 64 2 1
    ∷ row_as 2 2 1 0 32 2 2
    ∷ row_as 1 3 2 0 16 2 3
    ∷ row_as 2 5 2 16 16 1 3
    ∷ row 6 3 0 8 2 4
    ∷ row_as 1 7 3 8 8 1 4
    ∷ row 9 0 64 0 1 1
    ∷ empty_row
    ∷ []

deeper_listing : listing deeper 9 ≡ bytes "(issued 9)\n(1 0 64 rw 0 0000000000000001 (2 0 32 rw cell 0 0000000000000001 (3 0 16 rw raw 0 0000000000000001 (6 0 8 rw 0 0000000000000001) (7 8 8 ro raw 0 0000000000000001)) (5 16 16 ro cell 0 0000000000000001)))\n(9 64 0 ro 0 0000000000000001)\n"
unfolding live_rows deeper row row_as row_with row_by listed roots children form pieces spaced decimal numeral hex
deeper_listing = refl

deeper_reads : read_listing (bytes "(issued 9)\n(1 0 64 rw 0 0000000000000001 (2 0 32 rw cell 0 0000000000000001 (3 0 16 rw raw 0 0000000000000001 (6 0 8 rw 0 0000000000000001) (7 8 8 ro raw 0 0000000000000001)) (5 16 16 ro cell 0 0000000000000001)))\n(9 64 0 ro 0 0000000000000001)\n") 8 ≡ value (record { table = deeper; issued = 9 })
unfolding deeper row row_as row_with row_by read_listing is_listing guess_table guess_rows read_form read_lines sorted insert same lent_table in_order live_rows_first is_empty_row rows_in_order row_in_order parent_in_order row_fits_parent terms_in_order has_bit lookup live_rows listed roots children form pieces spaced decimal numeral hex number_from hex_from through class_of
deeper_reads = refl

-- texts that no table in order has as its listing: `reference` is written, the kind stands before the right, there are two kinds, or one
-- twice, letters or a space behind a kind, a kind that is none, a root with a kind
abbrev Misspelt : String → Type 0
Misspelt s = read_listing (bytes s) 4 ≡ refused 2

misspelt_kinds : Misspelt "(issued 2)\n(1 0 64 rw 0 0000000000000001 (2 0 8 rw reference 0 0000000000000001))\n"
    × Misspelt "(issued 2)\n(1 0 64 rw 0 0000000000000001 (2 0 8 raw rw 0 0000000000000001))\n"
    × Misspelt "(issued 2)\n(1 0 64 rw 0 0000000000000001 (2 0 8 cell ro 0 0000000000000001))\n"
    × Misspelt "(issued 2)\n(1 0 64 rw 0 0000000000000001 (2 0 8 rw raw cell 0 0000000000000001))\n"
    × Misspelt "(issued 2)\n(1 0 64 rw 0 0000000000000001 (2 0 8 rw raw raw 0 0000000000000001))\n"
    × Misspelt "(issued 2)\n(1 0 64 rw 0 0000000000000001 (2 0 8 rw rawx 0 0000000000000001))\n"
    × Misspelt "(issued 2)\n(1 0 64 rw 0 0000000000000001 (2 0 8 rw cells 0 0000000000000001))\n"
    × Misspelt "(issued 2)\n(1 0 64 rw 0 0000000000000001 (2 0 8 rw raw  0 0000000000000001))\n"
    × Misspelt "(issued 2)\n(1 0 64 rw 0 0000000000000001 (2 0 8 rwraw 0 0000000000000001))\n"
    × Misspelt "(issued 2)\n(1 0 64 rw 0 0000000000000001 (2 0 8 rw ra 0 0000000000000001))\n"
    × Misspelt "(issued 2)\n(1 0 64 rw 0 0000000000000001 (2 0 8 rw cow 0 0000000000000001))\n"
    × Misspelt "(issued 2)\n(1 0 64 rw 0 0000000000000001 (2 0 8 rw 1 0 0000000000000001))\n"
    × Misspelt "(issued 1)\n(1 0 64 rw raw 0 0000000000000001)\n"
    × Misspelt "(issued 2)\n(1 0 64 rw cell 0 0000000000000001 (2 0 8 rw 0 0000000000000001))\n"
unfolding read_listing is_listing guess_table guess_rows read_form read_lines sorted insert same lent_table in_order live_rows_first is_empty_row rows_in_order row_in_order parent_in_order row_fits_parent terms_in_order has_bit lookup live_rows listed roots children form pieces spaced decimal numeral hex number_from hex_from through class_of
misspelt_kinds = (refl, refl, refl, refl, refl, refl, refl, refl, refl, refl, refl, refl, refl, refl)

-- Card 6: "Any other kind number is refusal 1 in a row, as is a root of kind 1 or 2": such tables have no listing
abbrev Unlisted : List Cap → Type 0
Unlisted t = (out : List ℕ) → listing_written t 2 out ≡ refused 1

unlisted_kinds : Unlisted (row 1 0 0 64 2 1 ∷ row_as 3 2 1 0 8 2 2 ∷ []) × Unlisted (row_as 1 1 0 0 64 2 1 ∷ []) × Unlisted (row_as 2 1 0 0 64 2 1 ∷ [])
unfolding listing_written in_order live_rows_first is_empty_row rows_in_order row_in_order parent_in_order row_fits_parent terms_in_order has_bit lookup live_rows row row_as row_with row_by
unlisted_kinds = (λ out. refl, λ out. refl, λ out. refl)

-- ---- marks

-- Card 9: the mark is written "in listings after the kind". A marked root, below it marked capabilities of each kind, and a root that is
-- not marked.
marked : List Cap
marked = marked_as 0 1 0 0 64 2 1 ∷ marked_as 0 2 1 0 8 2 2 ∷ marked_as 1 3 1 8 8 2 2 ∷ marked_as 2 4 3 8 4 1 3 ∷ row 5 0 64 8 1 1 ∷ []

marked_listing : listing marked 5 ≡ bytes "(issued 5)\n(1 0 64 rw fresh 0 0000000000000001 (2 0 8 rw fresh 0 0000000000000001) (3 8 8 rw raw fresh 0 0000000000000001 (4 8 4 ro cell fresh 0 0000000000000001)))\n(5 64 8 ro 0 0000000000000001)\n"
unfolding live_rows marked row row_as marked_as row_with row_by listed roots children form pieces spaced decimal numeral hex
marked_listing = refl

marked_reads : read_listing (bytes "(issued 5)\n(1 0 64 rw fresh 0 0000000000000001 (2 0 8 rw fresh 0 0000000000000001) (3 8 8 rw raw fresh 0 0000000000000001 (4 8 4 ro cell fresh 0 0000000000000001)))\n(5 64 8 ro 0 0000000000000001)\n") 5 ≡ value (record { table = marked; issued = 5 })
unfolding marked row row_as marked_as row_with row_by read_listing is_listing guess_table guess_rows read_form read_lines sorted insert same lent_table in_order live_rows_first is_empty_row rows_in_order row_in_order parent_in_order row_fits_parent terms_in_order has_bit lookup live_rows listed roots children form pieces spaced decimal numeral hex number_from hex_from through class_of
marked_reads = refl

-- one that ends at the last address that may be marked
last_marked : List Cap
last_marked = marked_as 0 1 0 65530 6 1 1 ∷ []

last_listing : listing last_marked 1 ≡ bytes "(issued 1)\n(1 65530 6 ro fresh 0 0000000000000001)\n"
unfolding live_rows last_marked row row_as marked_as row_with row_by listed roots children form pieces spaced decimal numeral hex
last_listing = refl

last_reads : read_listing (bytes "(issued 1)\n(1 65530 6 ro fresh 0 0000000000000001)\n") 1 ≡ value (record { table = last_marked; issued = 1 })
unfolding last_marked row row_as marked_as row_with row_by read_listing is_listing guess_table guess_rows read_form read_lines sorted insert same lent_table in_order live_rows_first is_empty_row rows_in_order row_in_order parent_in_order row_fits_parent terms_in_order has_bit lookup live_rows listed roots children form pieces spaced decimal numeral hex number_from hex_from through class_of
last_reads = refl

-- texts that no table in order has as its listing: the mark stands before the kind, it stands twice, a child lacks the mark of its parent, or
-- has one that its parent lacks, a marked capability ends above 65,536, there are two spaces before the mark, it stands before the right or
-- without a space, a letter is missing, letters or a space stand behind it, another word stands there
misspelt_marks : Misspelt "(issued 2)\n(1 0 64 rw fresh 0 0000000000000001 (2 0 8 rw fresh raw 0 0000000000000001))\n"
    × Misspelt "(issued 2)\n(1 0 64 rw fresh 0 0000000000000001 (2 0 8 rw fresh cell 0 0000000000000001))\n"
    × Misspelt "(issued 1)\n(1 0 64 rw fresh fresh 0 0000000000000001)\n"
    × Misspelt "(issued 2)\n(1 0 64 rw fresh 0 0000000000000001 (2 0 8 rw cell fresh fresh 0 0000000000000001))\n"
    × Misspelt "(issued 2)\n(1 0 64 rw fresh 0 0000000000000001 (2 0 8 rw 0 0000000000000001))\n"
    × Misspelt "(issued 2)\n(1 0 64 rw fresh 0 0000000000000001 (2 0 8 rw raw 0 0000000000000001))\n"
    × Misspelt "(issued 2)\n(1 0 64 rw 0 0000000000000001 (2 0 8 rw fresh 0 0000000000000001))\n"
    × Misspelt "(issued 2)\n(1 0 64 rw 0 0000000000000001 (2 0 8 rw raw fresh 0 0000000000000001))\n"
    × Misspelt "(issued 1)\n(1 65530 7 rw fresh 0 0000000000000001)\n"
    × Misspelt "(issued 1)\n(1 0 64 rw  fresh 0 0000000000000001)\n"
    × Misspelt "(issued 2)\n(1 0 64 rw fresh 0 0000000000000001 (2 0 8 rw raw  fresh 0 0000000000000001))\n"
    × Misspelt "(issued 1)\n(1 0 64 fresh rw 0 0000000000000001)\n"
    × Misspelt "(issued 1)\n(1 0 64 rwfresh 0 0000000000000001)\n"
    × Misspelt "(issued 1)\n(1 0 64 rw fres 0 0000000000000001)\n"
    × Misspelt "(issued 1)\n(1 0 64 rw freshly 0 0000000000000001)\n"
    × Misspelt "(issued 1)\n(1 0 64 rw fresh  0 0000000000000001)\n"
    × Misspelt "(issued 1)\n(1 0 64 rw written 0 0000000000000001)\n"
unfolding read_listing is_listing guess_table guess_rows read_form read_lines sorted insert same lent_table in_order live_rows_first is_empty_row rows_in_order row_in_order parent_in_order row_fits_parent terms_in_order has_bit lookup live_rows listed roots children form pieces spaced decimal numeral hex number_from hex_from through class_of
misspelt_marks = (refl, refl, refl, refl, refl, refl, refl, refl, refl, refl, refl, refl, refl, refl, refl, refl, refl)

-- Card 9: "a row whose mark is not 0 or 1", or "differs from its parent's", or that ends above 65,536 and is marked, "is refusal 1": such
-- tables have no listing
unlisted_marks : Unlisted (row_with 2 0 1 0 0 64 2 1 ∷ []) × Unlisted (marked_as 0 1 0 0 64 2 1 ∷ row 2 1 0 8 2 2 ∷ []) × Unlisted (row 1 0 0 64 2 1 ∷ marked_as 0 2 1 0 8 2 2 ∷ []) × Unlisted (marked_as 0 1 0 65530 7 2 1 ∷ [])
unfolding listing_written in_order live_rows_first is_empty_row rows_in_order row_in_order parent_in_order row_fits_parent terms_in_order has_bit lookup live_rows row row_as marked_as row_with row_by
unlisted_marks = (λ out. refl, λ out. refl, λ out. refl, λ out. refl)

-- ---- makers and holders

-- Card 10: "Listings always show both, maker first, before the children". Domain 3 made the first for itself and domain 1, domain 63 borrowed
-- from it for itself alone, and domain 10 from that for two; the last has all 64 domains as holders, and the one before it 32 of them.
shared : List Cap
shared =
    row_by 3 10 0 0 1 0 0 64 2 1
    ∷ row_by 63 9223372036854775808 0 1 2 1 0 8 2 2
    ∷ row_by 10 1025 0 0 3 2 0 4 1 3
    ∷ row_by 0 81985529216486895 1 0 5 0 64 8 1 1
    ∷ row_by 63 18446744073709551615 0 0 6 0 72 0 2 1
    ∷ []

shared_listing : listing shared 6
    ≡ bytes "(issued 6)\n(1 0 64 rw 3 000000000000000a (2 0 8 rw raw 63 8000000000000000 (3 0 4 ro 10 0000000000000401)))\n(5 64 8 ro fresh 0 0123456789abcdef)\n(6 72 0 rw 63 ffffffffffffffff)\n"
unfolding live_rows shared row_by listed roots children form pieces spaced decimal numeral hex
shared_listing = refl

shared_reads : read_listing (bytes "(issued 6)\n(1 0 64 rw 3 000000000000000a (2 0 8 rw raw 63 8000000000000000 (3 0 4 ro 10 0000000000000401)))\n(5 64 8 ro fresh 0 0123456789abcdef)\n(6 72 0 rw 63 ffffffffffffffff)\n") 5
    ≡ value (record { table = shared; issued = 6 })
unfolding shared row_by read_listing is_listing guess_table guess_rows read_form read_lines sorted insert same lent_table in_order live_rows_first is_empty_row rows_in_order row_in_order parent_in_order row_fits_parent terms_in_order has_bit lookup live_rows listed roots children form pieces spaced decimal numeral hex number_from hex_from through class_of
shared_reads = refl

-- "one without them is 2": neither is there, in document 01's example as it was, in a root and in a child; the maker or the mask alone is
misspelt_without : Misspelt "(issued 3)\n(1 0 64 rw (2 0 16 ro) (3 16 16 rw))\n"
    × Misspelt "(issued 1)\n(1 0 64 rw)\n"
    × Misspelt "(issued 2)\n(1 0 64 rw 0 0000000000000001 (2 0 8 rw))\n"
    × Misspelt "(issued 2)\n(1 0 64 rw (2 0 8 rw 0 0000000000000001))\n"
    × Misspelt "(issued 1)\n(1 0 64 rw 0)\n"
    × Misspelt "(issued 1)\n(1 0 64 rw 0000000000000001)\n"
unfolding read_listing is_listing guess_table guess_rows read_form read_lines sorted insert same lent_table in_order live_rows_first is_empty_row rows_in_order row_in_order parent_in_order row_fits_parent terms_in_order has_bit lookup live_rows listed roots children form pieces spaced decimal numeral hex number_from hex_from through class_of
misspelt_without = (refl, refl, refl, refl, refl, refl)

-- a maker above 63, or too large for 32 bits; a mask without its maker
misspelt_domains : Misspelt "(issued 1)\n(1 0 64 rw 64 0000000000000001)\n"
    × Misspelt "(issued 1)\n(1 0 64 rw 64 ffffffffffffffff)\n"
    × Misspelt "(issued 1)\n(1 0 64 rw 4294967296 0000000000000001)\n"
    × Misspelt "(issued 1)\n(1 0 64 rw 0 0000000000000000)\n"
    × Misspelt "(issued 1)\n(1 0 64 rw 1 0000000000000001)\n"
    × Misspelt "(issued 1)\n(1 0 64 rw 3 fffffffffffffff7)\n"
unfolding read_listing is_listing guess_table guess_rows read_form read_lines sorted insert same lent_table in_order live_rows_first is_empty_row rows_in_order row_in_order parent_in_order row_fits_parent terms_in_order has_bit lookup live_rows listed roots children form pieces spaced decimal numeral hex number_from hex_from through class_of
misspelt_domains = (refl, refl, refl, refl, refl, refl)

-- 15 digits, 17 digits, letters above `f` or in upper case, a maker with a zero in front or as 16 digits, a mask in decimal
misspelt_digits : Misspelt "(issued 1)\n(1 0 64 rw 0 000000000000001)\n"
    × Misspelt "(issued 1)\n(1 0 64 rw 0 00000000000000001)\n"
    × Misspelt "(issued 1)\n(1 0 64 rw 0 100000000000000001)\n"
    × Misspelt "(issued 1)\n(1 0 64 rw 3 000000000000000A)\n"
    × Misspelt "(issued 1)\n(1 0 64 rw 0 FFFFFFFFFFFFFFFF)\n"
    × Misspelt "(issued 1)\n(1 0 64 rw 0 00000000000g0001)\n"
    × Misspelt "(issued 1)\n(1 0 64 rw 00 0000000000000001)\n"
    × Misspelt "(issued 1)\n(1 0 64 rw 0000000000000000 0000000000000001)\n"
    × Misspelt "(issued 1)\n(1 0 64 rw 0 1)\n"
unfolding read_listing is_listing guess_table guess_rows read_form read_lines sorted insert same lent_table in_order live_rows_first is_empty_row rows_in_order row_in_order parent_in_order row_fits_parent terms_in_order has_bit lookup live_rows listed roots children form pieces spaced decimal numeral hex number_from hex_from through class_of
misspelt_digits = (refl, refl, refl, refl, refl, refl, refl, refl, refl)

-- the mask before the maker, both behind the children, before the right, the kind or the mark, two spaces, one behind the mask or none before it
misspelt_places : Misspelt "(issued 1)\n(1 0 64 rw 0000000000000001 0)\n"
    × Misspelt "(issued 2)\n(1 0 64 rw (2 0 8 rw 0 0000000000000001) 0 0000000000000001)\n"
    × Misspelt "(issued 1)\n(1 0 64 0 0000000000000001 rw)\n"
    × Misspelt "(issued 2)\n(1 0 64 rw 0 0000000000000001 (2 0 8 rw 0 0000000000000001 raw))\n"
    × Misspelt "(issued 1)\n(1 0 64 rw 0 0000000000000001 fresh)\n"
    × Misspelt "(issued 1)\n(1 0 64 rw  0 0000000000000001)\n"
    × Misspelt "(issued 1)\n(1 0 64 rw 0  0000000000000001)\n"
    × Misspelt "(issued 1)\n(1 0 64 rw 0 0000000000000001 )\n"
    × Misspelt "(issued 1)\n(1 0 64 rw 00000000000000001)\n"
unfolding read_listing is_listing guess_table guess_rows read_form read_lines sorted insert same lent_table in_order live_rows_first is_empty_row rows_in_order row_in_order parent_in_order row_fits_parent terms_in_order has_bit lookup live_rows listed roots children form pieces spaced decimal numeral hex number_from hex_from through class_of
misspelt_places = (refl, refl, refl, refl, refl, refl, refl, refl, refl)

-- Card 10: "A domain above 63, or a mask without its maker, is .. 1 in a row": such tables have no listing
unlisted_holders : Unlisted (row_by 64 18446744073709551615 0 0 1 0 0 64 2 1 ∷ []) × Unlisted (row_by 0 0 0 0 1 0 0 64 2 1 ∷ []) × Unlisted (row 1 0 0 64 2 1 ∷ row_by 1 1 0 0 2 1 0 8 2 2 ∷ [])
unfolding listing_written in_order live_rows_first is_empty_row rows_in_order row_in_order parent_in_order row_fits_parent terms_in_order has_bit lookup live_rows row row_as row_with row_by
unlisted_holders = (λ out. refl, λ out. refl, λ out. refl)
