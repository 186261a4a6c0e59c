-- `sheet::read::some_missing` meets its contract.
-- Assumes nothing.
use Rattle.std.proofs.Common.{◌∙◌, ℕ, arith, eqb}
use Rattle.sheet.proofs.Laws.Adding.{some_place}
use Rattle.sheet.proofs.read.some_missing.Goals as goal

pub returns : goal.returns
returns c = c.contains.ensures.value ∙ some_place (λ (x : ℕ). eqb x 0) c.args.seen.now (omega arith)
