-- Document 01, "The bracket text": what reading a listing gives. (Refusal 1, "for a lent table above 1,024 rows", is in
-- `ReadInto`: here there are at most 1,024.)
-- Assumes nothing.
use Rattle.std.specs.Prelude.{ℕ, Bool, cond, ◌&&◌, List, reverse, leb, length}
use Rattle.model.specs.declared.Cap.{Cap}
use Rattle.model.specs.Table.{live_rows, lent_table, in_order}
use Rattle.text.specs.Result.{Result, value, refused}
use Rattle.text.specs.Read.{same}
use Rattle.listing.specs.Listing.{listing}
use Rattle.listing.specs.Forms.{guess_rows, guess_issued}

-- a text is the listing of a table in order
unfoldable pub is_listing : List ℕ → List Cap → ℕ → Bool
is_listing s table issued = in_order table issued && same s (listing table issued)

-- the one table of 1,024 rows whose listing a text can be
unfoldable pub guess_table : List ℕ → List Cap
guess_table s = lent_table 1024 (reverse (guess_rows s))

-- what is read: a table, and the issued number
pub record Listed : Type 0 where
  pub table : List Cap
  pub issued : ℕ

-- reading into n rows: "2 when no table in order has this listing, 10 when it holds more capabilities than rows, in that order"
unfoldable pub read_listing : List ℕ → ℕ → Result Listed
read_listing s n =
    let rows = live_rows (guess_table s) in
    cond (is_listing s (guess_table s) (guess_issued s))
    (cond (leb (length rows) n) (value (record { table = lent_table n rows; issued = guess_issued s })) (refused 10))
    (refused 2)
