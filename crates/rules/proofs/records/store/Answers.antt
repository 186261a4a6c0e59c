use Rattle.std.proofs.Common.{sym, ap, ◌∙◌, arith, add-one}
use Rattle.rules.proofs.Laws.Records.{stored, stored_suc}
use Rattle.rules.proofs.records.store.Goals as goal

pub loop-i-preserved : goal.loop-i-preserved
loop-i-preserved c = rw (c.get.ensures, c.loop-i.invariant) (stored_suc c.args.table.now c.args.rows.now c.loop-i.i (omega (arith, c.requires.0, c.loop-i-test.true)) (omega (arith, c.requires.1, c.loop-i-test.true, c.told-rows)) ∙ ap (stored c.args.table.now c.args.rows.now) (sym (add-one c.loop-i.i)))
