-- `text::group::guess_names` meets its contract. The invariant: the names so far, and those that are found in what is left of the form, are all.
-- Assumes nothing.
use mathlib.Core.Path.{◌≡◌}
use mathlib.Core.List.{◌++◌}
use Prim.Native.Nat.{◌-◌, ◌≤◌}
use lib.ListN.{length, take, drop}
use Rattle.text.specs.Group.{names_from, guess_names}
use Rattle.text.proofs.group.guess_names.Given as goal

abbrev pub invariant-loop-count : goal.invariant-loop-count
invariant-loop-count l =
    (l.at ≤ length l.form) × (length l.names ≡ 64) × (take l.count l.names ++ names_from (64 - l.count) (drop l.at l.form) ≡ guess_names l.form)
