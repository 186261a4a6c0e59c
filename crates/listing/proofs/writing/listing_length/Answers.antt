-- `listing::writing::listing_length` meets its contract: a listing is as long as its line and its rows.
-- Assumes nothing.
use native.Mathlib.Omega.{arith}
use Rattle.listing.specs.First.{first_rows}
use Rattle.listing.proofs.Laws.Live.{live_order}
use Rattle.listing.proofs.Laws.Listing.{listed_length}
use Rattle.listing.proofs.writing.listing_length.Goals as goal

pub returns : goal.returns
returns c =
    omega (arith, c.spaced_length.ensures.0, c.forms_length.ensures.0, listed_length (first_rows c.args.table.now c.args.n) c.args.issued (live_order c.requires.1))
