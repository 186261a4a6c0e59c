-- Document 01, "The bracket text": "2 when no table in order has this listing, 10 when it holds more capabilities than rows". The tables
-- whose listings are read, and the texts that are such listings.
-- Assumes nothing.
use Rattle.std.specs.Prelude.{◌≡◌, true, List, [], ◌∷◌, ℕ, ◌^◌, ◌<◌, length}
use Rattle.model.specs.declared.Cap.{Cap}
use Rattle.model.specs.Table.{live_rows, in_order}
use Rattle.listing.specs.Listing.{listing}

-- start and length are numbers of 32 bits, and the mask of holders is one of 64: what the type gives of every row of the code, said of the
-- numbers that stand for them here. (The maker is below 64 by order.)
abbrev pub Small : Cap → Type 0
Small c = (c.start.0 < 2 ^ 32) × (c.length < 2 ^ 32) × (c.holders < 2 ^ 64)

abbrev pub SmallRows : List Cap → Type 0
SmallRows [] = Unit {0}
SmallRows (c ∷ rows) = Small c × SmallRows rows

-- a table in order whose starts and lengths are numbers of 32 bits and whose masks are numbers of 64, as every table of the code. (A span of
-- length 4,294,967,296 at address 0 is legal, and one of length 0 at address 4,294,967,296, and neither has such numbers.)
pub record Listable (table : List Cap) (issued : ℕ) : Type 0 where
  pub ordered : in_order table issued ≡ true
  pub small : SmallRows (live_rows table)

-- a table in order that has this listing
pub record ListingOf (s : List ℕ) : Type 0 where
  pub table : List Cap
  pub issued : ℕ
  pub listable : Listable table issued
  pub text : s ≡ listing table issued

-- a table in order that has this listing, and more capabilities than n rows hold
pub record Overfull (s : List ℕ) (n : ℕ) : Type 0 where
  pub has : ListingOf s
  pub more : n < length (live_rows has.table)
