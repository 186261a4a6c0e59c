-- `set_inside` meets its contract: the rows below i are done.
-- Assumes nothing.
use Rattle.rules.proofs.Laws.Marks.{SettingInside}
use Rattle.rules.proofs.marks.set_inside.Given as goal

abbrev pub invariant-loop-i : goal.invariant-loop-i
invariant-loop-i l = SettingInside l.i l.cell l.places l.initial.relation l.relation
