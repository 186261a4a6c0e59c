-- `columns::kz_abi_from_columns` meets its contract.
-- Assumes nothing.
use mathlib.Core.Path.{ap, ◌∙◌}
use Rattle.text.specs.Result.{Result}
use Rattle.columns.specs.declared.Used.{Used}
use Rattle.columns.specs.Lent.{packed_moved, counts_after}
use Rattle.columns.proofs.kz_abi_from_columns.Goals as goal

pub returns : goal.returns
returns c =
    let m = c.from_columns-moved.ensures.0 in
    (c.from_columns-moved.ensures.1, c.answer_moved.ensures.1 ∙ ap (λ (x : Result Used). counts_after x c.args.used.now) m, c.answer_moved.ensures.0 ∙ ap packed_moved m)
