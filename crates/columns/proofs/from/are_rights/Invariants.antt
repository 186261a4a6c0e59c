-- `columns::from::are_rights` meets its contract. The invariant: what is found so far, and what is left, say what all do.
-- Assumes nothing.
use mathlib.Core.Path.{◌≡◌}
use mathlib.Core.Bool.{◌&&◌}
use Prim.Native.Nat.{◌≤◌}
use lib.ListN.{length, drop}
use Rattle.model.specs.Lists.{all}
use Rattle.model.specs.Table.{is_right}
use Rattle.columns.proofs.from.are_rights.Given as goal

abbrev pub invariant-loop-right : goal.invariant-loop-right
invariant-loop-right l =
    (l.right-index ≤ length l.rights) × (l.good && all is_right (drop l.right-index l.rights) ≡ all is_right l.rights)
