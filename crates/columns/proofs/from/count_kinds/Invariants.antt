-- `columns::from::count_kinds` meets its contract. The invariant: what is counted and found so far, and what is left, make up the whole.
-- Assumes nothing.
use mathlib.Core.Path.{◌≡◌}
use mathlib.Core.Bool.{◌&&◌}
use Prim.Native.Nat.{◌≤◌}
use lib.ListN.{length, drop}
use Rattle.model.specs.Lists.{all}
use Rattle.columns.specs.Walk.{is_five, counts_of}
use Rattle.columns.proofs.Laws.Turns.{counts, Small, plus}
use Rattle.columns.proofs.from.count_kinds.Given as goal

abbrev pub invariant-loop-byte : goal.invariant-loop-byte
invariant-loop-byte l =
    (l.byte-index ≤ length l.kinds) × Small (counts l.names l.spans l.rights) l.byte-index × (l.five && all is_five (drop l.byte-index l.kinds) ≡ all is_five l.kinds) × (plus (counts l.names l.spans l.rights) (counts_of (drop l.byte-index l.kinds)) ≡ counts_of l.kinds)
