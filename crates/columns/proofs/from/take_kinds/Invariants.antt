-- `columns::from::take_kinds` meets its contract. The invariant: what is stored so far, and the events of what is left of the columns, make up the whole.
-- Assumes nothing.
use mathlib.Core.Path.{◌≡◌}
use mathlib.Core.Bool.{true}
use mathlib.Core.List.{map}
use Prim.Native.Nat.{◌≤◌}
use lib.ListN.{length, drop}
use Rattle.model.specs.Lists.{all}
use Rattle.columns.specs.Form.{event_words}
use Rattle.columns.specs.Columns.{columns, events_from}
use Rattle.columns.specs.Walk.{is_five}
use Rattle.columns.proofs.Laws.Turns.{Small, Storing}
use Rattle.columns.proofs.Laws.From.{events_at}
use Rattle.columns.proofs.from.take_kinds.Given as goal

abbrev pub invariant-loop-i : goal.invariant-loop-i
invariant-loop-i l =
    (l.i ≤ length l.kinds) × Small l.at l.i × (all is_five (drop l.i l.kinds) ≡ true) × Storing l.initial.events l.events l.i (map event_words (events_at (columns l.kinds l.names l.starts l.lengths l.rights) l.at l.i)) (map event_words (events_from l.kinds l.names l.starts l.lengths l.rights))
