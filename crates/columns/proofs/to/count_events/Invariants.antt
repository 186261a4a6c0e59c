-- `columns::to::count_events` meets its contract. The invariant: what is counted so far, and what is left, make up the whole, of which all so far are events.
-- Assumes nothing.
use mathlib.Core.Path.{◌≡◌}
use Prim.Native.Nat.{◌≤◌}
use lib.ListN.{length, drop}
use Rattle.model.specs.Lists.{all}
use Rattle.columns.specs.Form.{is_event}
use Rattle.columns.specs.Walk.{counts_of, kinds_in}
use Rattle.columns.proofs.Laws.Turns.{Small, plus}
use Rattle.columns.proofs.to.count_events.Given as goal

abbrev pub invariant-loop-w : goal.invariant-loop-w
invariant-loop-w l =
    (l.w-index ≤ length l.events) × Small l.counts l.w-index × (all is_event (drop l.w-index l.events) ≡ all is_event l.events) × (plus l.counts (counts_of (drop l.w-index (kinds_in l.events))) ≡ counts_of (kinds_in l.events))
