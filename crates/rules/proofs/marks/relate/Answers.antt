-- `relate` meets its contract.
-- Assumes nothing.
use Rattle.table.specs.Words.{rows_in}
use Rattle.rules.proofs.Laws.Marks.{stand_rise, related_none, related_inside}
use Rattle.rules.proofs.marks.relate.Goals as goal

pub ancestry_of-cell-requires : goal.ancestry_of-cell-requires
ancestry_of-cell-requires c =
    (c.requires.0.few, stand_rise (rows_in c.args.table.now) c.args.k c.requires.0, c.requires.1, c.requires.2)

pub set_inside-requires : goal.set_inside-requires
set_inside-requires c = (c.requires.0.few, c.if-cell-k.true, c.ancestry_of-cell.ensures.0.long)

pub returns-then-cell-k : goal.returns-then-cell-k
returns-then-cell-k c =
    related_inside (rows_in c.args.table.now) c.args.k c.requires.0 c.args.u c.ancestry_of-cell.result c.ancestry_of-cell.new.relation c.set_inside.new.relation c.args.places.now c.ancestry_of-cell.ensures.0 c.ancestry_of-cell.ensures.1 c.requires.1 c.set_inside.ensures c.if-cell-k.true

pub returns-else-cell-k : goal.returns-else-cell-k
returns-else-cell-k c =
    related_none (rows_in c.args.table.now) c.args.k c.requires.0 c.args.u c.ancestry_of-cell.result c.ancestry_of-cell.new.relation c.ancestry_of-cell.ensures.0 c.ancestry_of-cell.ensures.1 c.if-cell-k.false
