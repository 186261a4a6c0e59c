-- `judge_names` meets its contract. The invariant: the names that are left give the number that all give.
-- Assumes nothing.
use mathlib.Core.Path.{◌≡◌}
use lib.ListN.{drop}
use Rattle.model.specs.Lists.{first}
use Rattle.model.specs.Refusals.{standings}
use Rattle.table.specs.Words.{rows_in}
use Rattle.table.specs.Rows.{before}
use Rattle.table.proofs.groups.judge_names.Given as goal

abbrev pub invariant-loop-name : goal.invariant-loop-name
invariant-loop-name l =
    first (standings (before (rows_in l.table) l.k) l.issued l.actor (drop l.name-index l.names)) ≡ first (standings (before (rows_in l.table) l.k) l.issued l.actor l.names)
