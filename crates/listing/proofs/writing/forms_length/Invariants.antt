-- `listing::writing::forms_length` meets its contract. The invariant: the bytes of the rows before i.
-- Assumes nothing.
use mathlib.Core.Path.{◌≡◌}
use Prim.Native.Nat.{◌*◌, ◌≤◌}
use Rattle.listing.specs.First.{first_rows}
use Rattle.listing.specs.Listing.{forms_length}
use Rattle.listing.proofs.writing.forms_length.Given as goal

abbrev pub invariant-loop-i : goal.invariant-loop-i
invariant-loop-i l = (l.total ≡ forms_length (first_rows l.table l.i)) × (l.total ≤ 77 * l.i)
