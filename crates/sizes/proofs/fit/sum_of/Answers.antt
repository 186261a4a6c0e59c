-- `sizes::fit::sum_of` meets its contract.
-- Assumes nothing.
use Rattle.std.proofs.Common.{rules, ◌≡◌, ◌∙◌}
use Rattle.std.specs.Prelude.{sum}
use Rattle.sizes.proofs.Laws.Laid.{sum_is}
use Rattle.sizes.proofs.fit.sum_of.Goals as goal

pub returns : goal.returns
returns c = let e : c.sum.result ≡ sum c.args.lengths.now = search rules in e ∙ sum_is c.args.lengths.now
