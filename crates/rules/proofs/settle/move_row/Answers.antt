-- `move_row` meets its contract.
-- Assumes nothing.
use mathlib.Core.Path.{refl, sym, ap, ◌∙◌}
use lib.Dec.{eqb}
use lib.ListN.{set}
use lib.Seq.{set-get_or}
use borrow.Author.Tests.{lt-ltb, le-ltb}
use Rattle.model.specs.Table.{empty_row}
use Rattle.model.specs.Effects.{lowered}
use Rattle.table.specs.Words.{rows_in}
use Rattle.rules.proofs.settle.move_row.Goals as goal

pub returns-then-mark-ge2 : goal.returns-then-mark-ge2
returns-then-mark-ge2 c = rw (le-ltb _ _ c.if-mark-ge2.true) (refl, refl)

pub returns-then-left-i : goal.returns-then-left-i
returns-then-left-i c = rw (c.if-mark-eq0.true, c.if-left-i.true) (sym (set-get_or (rows_in c.args.table.now) c.args.i empty_row), refl)

pub returns : goal.returns
returns c =
    let e = c.marked_row.ensures ∙ ap (lowered (eqb c.args.mark 1)) c.row_at-c.ensures in
    rw (lt-ltb _ _ c.if-mark-ge2.false) (c.set_row.ensures.0 ∙ ap (set (rows_in c.args.table.now) c.args.left) e, refl)
