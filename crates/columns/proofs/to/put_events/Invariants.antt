-- `columns::to::put_events` meets its contract. The invariant: of each column, what is stored so far and what is left make up the whole.
-- Assumes nothing.
use mathlib.Core.Path.{◌≡◌}
use mathlib.Core.Bool.{true}
use Prim.Native.Nat.{◌≤◌}
use lib.ListN.{length, drop}
use Rattle.model.specs.Lists.{all}
use Rattle.columns.specs.Form.{is_event}
use Rattle.columns.specs.Columns.{columns}
use Rattle.columns.proofs.Laws.Turns.{Small}
use Rattle.columns.proofs.Laws.To.{Putting, columns_in}
use Rattle.columns.proofs.to.put_events.Given as goal

abbrev pub invariant-loop-i : goal.invariant-loop-i
invariant-loop-i l =
    (l.i ≤ length l.events) × Small l.at l.i × (all is_event (drop l.i l.events) ≡ true) × Putting (columns l.initial.kinds l.initial.names l.initial.starts l.initial.lengths l.initial.rights) (columns l.kinds l.names l.starts l.lengths l.rights) l.at l.i (columns_in (drop l.i l.events)) (columns_in l.events)
