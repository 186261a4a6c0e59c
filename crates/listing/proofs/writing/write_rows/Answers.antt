-- `listing::writing::write_rows` meets its contract: it measures, and then writes.
-- Assumes nothing.
use native.Mathlib.Omega.{arith}
use Rattle.listing.specs.First.{first_rows}
use Rattle.listing.specs.Listing.{listed}
use Rattle.text.proofs.Offered.{writes_none, writes_put}
use Rattle.listing.proofs.writing.write_rows.Goals as goal

pub returns-then-out-listing_length : goal.returns-then-out-listing_length
returns-then-out-listing_length c =
    writes_none (listed (first_rows c.args.table.now c.args.n) c.args.issued) c.args.out.now (omega (arith, c.listing_length.ensures))

pub returns : goal.returns
returns c =
    writes_put c.put_listing.ensures (omega (arith, c.listing_length.ensures, c))
