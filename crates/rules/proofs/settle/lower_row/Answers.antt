-- `lower_row` meets its contract.
-- Assumes nothing.
use mathlib.Core.Path.{sym, ap, ◌∙◌}
use lib.Dec.{eqb}
use lib.ListN.{set}
use lib.Seq.{set-get_or}
use borrow.Author.Tests.{ne_eqb}
use Rattle.model.specs.Table.{empty_row}
use Rattle.model.specs.Effects.{lowered}
use Rattle.table.specs.Words.{rows_in}
use Rattle.rules.proofs.settle.lower_row.Goals as goal

pub returns-then-mark-ne1 : goal.returns-then-mark-ne1
returns-then-mark-ne1 c = rw (ne_eqb c.args.mark 1 c.if-mark-ne1.true) (sym (set-get_or (rows_in c.args.table.now) c.args.i empty_row))

pub returns : goal.returns
returns c = c.set_row.ensures.0 ∙ ap (set (rows_in c.args.table.now) c.args.i) (c.marked_row.ensures ∙ ap (lowered (eqb c.args.mark 1)) c.row_at-c.ensures)
