-- `table::sheets::bytes_of` meets its contract: six places for each kind of holder.
-- Assumes nothing.
use mathlib.Core.Path.{◌∙◌, ap}
use mathlib.Core.List.{List}
use Prim.Native.Nat.{ℕ}
use native.Mathlib.Omega.{arith}
use lib.ListN.{length, replicate}
use Rattle.table.specs.Sheets.{with_conflicts, bytes_of}
use Rattle.table.proofs.Laws.Sheets.{conflicts_long}
use Rattle.table.proofs.sheets.bytes_of.Goals as goal

pub set_conflicts-requires-2 : goal.set_conflicts-requires-2
set_conflicts-requires-2 c =
    (omega arith, ap length c.set_conflicts.ensures ∙ conflicts_long (replicate 18 0) 0 c.args.sheet.reference)

pub set_conflicts-requires-3 : goal.set_conflicts-requires-3
set_conflicts-requires-3 c =
    let bytes = c.set_conflicts.new.bytes in
    (omega arith, ap length c.set_conflicts-2.ensures ∙ conflicts_long bytes 6 c.args.sheet.raw ∙ ap length c.set_conflicts.ensures ∙ conflicts_long (replicate 18 0) 0 c.args.sheet.reference)

pub returns : goal.returns
unfolding bytes_of
returns c =
    c.set_conflicts-3.ensures ∙ ap (λ (l : List ℕ). with_conflicts l 12 c.args.sheet.cell) (c.set_conflicts-2.ensures ∙ ap (λ (l : List ℕ). with_conflicts l 6 c.args.sheet.raw) c.set_conflicts.ensures)
