-- `sum_of` meets its contract: 64 numbers of 32 bits fit in 64.
-- Assumes nothing.
use Rattle.std.proofs.Common.{rules, ◌∙◌, ◌≡◌}
use Rattle.std.specs.List.{sum}
use Rattle.std.proofs.iter.runs.Sources.{sums}
use Rattle.table.proofs.Laws.Limits.{sum_same}
use Rattle.table.proofs.limits.sum_of.Goals as goal

pub sum-requires-clause-fits : goal.sum-requires-clause-fits
sum-requires-clause-fits c = search (rules, sums)

pub returns : goal.returns
returns c =
    let e : c.sum.result ≡ sum c.args.limits.now = search rules in
    e ∙ sum_same c.args.limits.now
