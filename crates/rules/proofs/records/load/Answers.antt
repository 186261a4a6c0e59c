use Rattle.std.proofs.Common.{sym, ap, ◌∙◌, arith, add-one}
use Rattle.rules.proofs.Laws.Records.{loaded, loaded_suc}
use Rattle.rules.proofs.records.load.Goals as goal

pub loop-i-preserved : goal.loop-i-preserved
loop-i-preserved c = rw (c.put.ensures, c.loop-i.invariant) (loaded_suc c.args.table.now c.args.rows.now c.loop-i.i (omega (arith, c.requires.0, c.loop-i-test.true)) (omega (arith, c.requires.1, c.loop-i-test.true, c.told-rows)) ∙ ap (loaded c.args.table.now c.args.rows.now) (sym (add-one c.loop-i.i)))
