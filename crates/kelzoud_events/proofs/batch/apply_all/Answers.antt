-- `kelzoud_events::batch::apply_all` meets its contract.
-- Assumes nothing.
use Rattle.table.specs.Sheets.{sheet_in}
use Rattle.table.specs.Limits.{limits_in}
use Rattle.table.specs.Lent.{lent}
use Rattle.kelzoud_events.proofs.Turns.{left}
use Rattle.kelzoud_events.proofs.batch.apply_all.Goals as goal

pub returns : goal.returns
returns c = let a = c.args in let h = lent a.table.now a.bits.now a.stored.now a.copies.now a.tally.now in
    let l = rw c.min-m.ensures at (left (sheet_in a.sheet.now) (limits_in a.limits.now) h a.events.now a.names.now c.min-m.result a.answers.now c.apply_first.new.table c.apply_first.new.bits c.apply_first.new.stored c.apply_first.new.copies c.apply_first.new.tally _ c.apply_first.ensures) in
    (l.0, l.1, l.2, l.3, l.4, c.min-m.ensures)
