-- Document 01, "Eleven ways to be turned down": what writing a table's listing into a buffer answers, and what the buffer then holds.
-- Assumes nothing.
use Rattle.std.specs.Prelude.{◌≡◌, ℕ, true, cond, List, Result as Returned}
use Rattle.model.specs.declared.Refusal.{Refusal}
use Rattle.model.specs.declared.Cap.{Cap}
use Rattle.model.specs.Table.{in_order}
use Rattle.text.specs.Result.{Result, refused}
use Rattle.listing.specs.Listing.{listing}
use Rattle.text.specs.Write.{written_answer, written, stored}

-- 1 "table not in order"; else the length, or 11 "text longer than the output buffer"
unfoldable pub listing_written : List Cap → ℕ → List ℕ → Result ℕ
listing_written table issued out = cond (in_order table issued) (written true (listing table issued) out) (refused 1)

-- "Refusals 1, 2 and 11 of a writer leave the output buffer untouched. Accepted text starts at the buffer's first byte, .. and the bytes after it stay."
unfoldable pub listing_stored : List Cap → ℕ → List ℕ → List ℕ
listing_stored table issued out = cond (in_order table issued) (stored true (listing table issued) out) out

-- writing the listing of a table into the buffer out leaves after and answers r
pub record WritesListing (table : List Cap) (issued : ℕ) (out after : List ℕ) (r : Returned ℕ Refusal) : Type 0 where
  pub answer : written_answer r ≡ listing_written table issued out
  pub buffer : after ≡ listing_stored table issued out
