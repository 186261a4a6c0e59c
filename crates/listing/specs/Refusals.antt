-- Document 01, "The bracket text" and "Eleven ways to be turned down": the conditions under which reading and writing a listing are refused,
-- each with its number, in order of precedence. The number given is the first whose condition holds (proofs/Laws/Refused).
-- Assumes nothing.
use Rattle.std.specs.Prelude.{ℕ, Bool, not, List, [], ◌∷◌, ltb, length}
use Rattle.model.specs.declared.Cap.{Cap}
use Rattle.model.specs.Table.{live_rows}
use Rattle.model.specs.Refusals.{disordered}
use Rattle.text.specs.Write.{too_long}
use Rattle.listing.specs.Listing.{listing}
use Rattle.listing.specs.Forms.{guess_issued}
use Rattle.listing.specs.ReadListing.{is_listing, guess_table}

-- 1, of a reader: "a lent table above 1,024 rows"
abbrev pub too_many_rows : ℕ → Bool
too_many_rows rows = ltb 1024 rows

-- 2: "no table in order has this listing". The one table that could have it is the one that is guessed.
abbrev pub no_listing : List ℕ → Bool
no_listing s = not (is_listing s (guess_table s) (guess_issued s))

-- 10: "it holds more capabilities than rows"
abbrev pub too_many_capabilities : List ℕ → ℕ → Bool
too_many_capabilities s rows = ltb rows (length (live_rows (guess_table s)))

-- "Reading gives refusal 1 .., 2 .., 10 .., in that order", into so many rows
unfoldable pub read_refusals : List ℕ → ℕ → List (ℕ × Bool)
read_refusals s rows = (1, too_many_rows rows) ∷ (2, no_listing s) ∷ (10, too_many_capabilities s rows) ∷ []

-- "Refusals 1, 2 and 11 of a writer": a listing is never misspelt, so 2 is not among them
unfoldable pub write_refusals : List Cap → ℕ → List ℕ → List (ℕ × Bool)
write_refusals table issued out = (1, disordered table issued) ∷ (11, too_long (listing table issued) out) ∷ []
