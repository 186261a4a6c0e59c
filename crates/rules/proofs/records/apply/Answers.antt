-- `apply` meets its contract: what `load`, the engine and `store` promise, together.
-- Assumes nothing.
use Rattle.rules.proofs.Laws.Records.{left_of}
use Rattle.rules.proofs.records.apply.Goals as goal

pub returns : goal.returns
returns c = left_of c.args.sheet c.args.table.now c.store.new.table c.args.bits.now c.request_held-out.new.bits c.args.tally.now _ _ c.request_held-out.new.rows c.load.new.rows c.request_held-out.result c.held-m.result c.held-m.ensures c.load.ensures c.request_held-out.ensures c.store.ensures
