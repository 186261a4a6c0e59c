-- `listing::forms::add_row` meets its contract.
-- Assumes nothing.
use mathlib.Core.Path.{refl}
use native.Mathlib.Numerals.{add-one}
use native.Mathlib.Omega.{arith}
use Rattle.listing.proofs.Laws.Stored.{added, added_newest}
use Rattle.listing.proofs.forms.add_row.Goals as goal

pub set_row-requires : goal.set_row-requires
set_row-requires c = omega (arith, c.requires.1, c.requires.0.long)

pub returns : goal.returns
returns c =
    rw (add-one c.args.count) (refl, added c.set_row.new.table c.args.row c.requires.0 c.requires.1 c.set_row.ensures.0, added_newest c.set_row.new.table c.args.row c.requires.0 c.requires.1 c.set_row.ensures.0)
