-- `listing::writing::form_length` meets its contract.
-- Assumes nothing.
use native.Mathlib.Omega.{arith}
use Rattle.listing.proofs.Laws.Listing.{form_length_lem}
use Rattle.listing.proofs.writing.form_length.Goals as goal

pub returns : goal.returns
returns c =
    let numbers = c.spaced_length.ensures in
    let kind = c.kind_length.ensures in
    let mark = c.fresh_length.ensures in
    (omega (arith, numbers.0, kind.0, mark.0, form_length_lem c.args.c), omega (arith, numbers.1, kind.1, mark.1))
