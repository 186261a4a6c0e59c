use Rattle.table.specs.Words.{rows_in}
use Rattle.table.proofs.Offered.{rise_fits}
use Rattle.sizes.proofs.Laws.Room.{keeping_none, keeping_more, keeping_all}
use Rattle.sizes.proofs.names.keep_living.Goals as goal

pub loop-i-init : goal.loop-i-init
loop-i-init c = keeping_none (rows_in c.args.table.now) c.args.live c.args.names.now c.args.keys.now c.args.used c.requires.1 c.requires.2 c.requires.3

pub past-j-requires : goal.past-j-requires
past-j-requires c = rise_fits c.args.table.now c.args.live c.requires.1

pub loop-i-preserved : goal.loop-i-preserved
loop-i-preserved c = rw c.past-j.ensures (keeping_more (rows_in c.args.table.now) c.args.live c.args.names.now c.args.keys.now c.args.used c.requires.1 c.requires.2 c.loop-i.names c.loop-i.keys c.loop-i.j c.loop-i.i c.loop-i.invariant c.loop-i-test.true)

pub returns : goal.returns
returns c = (keeping_all (rows_in c.args.table.now) c.args.live c.args.names.now c.args.keys.now c.args.used c.requires.1 c.requires.2 c.requires.0 c.loop-i.names c.loop-i.keys c.loop-i.j c.loop-i.i c.loop-i.invariant c.loop-i-test.false, c.loop-i.invariant.below)
