use native.Mathlib.Numerals.{add-one}
use native.Mathlib.Omega.{arith}
use lib.ListN.{get_or, take}
use lib.Seq.{take-suc}
use Rattle.table.specs.Words.{rows_in}
use Rattle.rules.proofs.Laws.Marks.{stand_rise, owned_none, owned_more}
use Rattle.rules.proofs.marks.own_of_names.Goals as goal

pub loop-name-init : goal.loop-name-init
loop-name-init c = rw c.requires.1 (owned_none (rows_in c.args.table.now) c.args.k c.requires.0)

pub find-q-requires : goal.find-q-requires
find-q-requires c =
    (c.requires.0.few, stand_rise (rows_in c.args.table.now) c.args.k c.requires.0)

pub loop-name-preserved : goal.loop-name-preserved
loop-name-preserved c =
    let i = c.loop-name.name-index in
    rw (add-one, take-suc c.args.names.now i 0 (omega arith)) (owned_more (rows_in c.args.table.now) c.args.k c.requires.0 (take i c.args.names.now) (get_or c.args.names.now i 0) c.find-q.result c.loop-name.owned c.find-q.ensures c.loop-name.invariant)
