-- `sheet::read::some_twice` meets its contract.
-- Assumes nothing.
use Rattle.std.proofs.Common.{◌≡◌, ◌∙◌, rules, tests, arith, ltb}
use Rattle.std.proofs.lemmas.Iterator.{YieldsList-from_slice}
use Rattle.std.proofs.lemmas.Iterator.Search.{any_from_yields_List}
use Rattle.std.specs.List.{list_any}
use Rattle.sheet.proofs.Laws.Adding.{some_place}
use Rattle.sheet.proofs.read.some_twice.Goals as goal

pub returns : goal.returns
returns c =
    let found : c.any.result ≡ list_any (ltb 1) c.args.seen.now = any_from_yields_List (ltb 1) _ _ c.any.result c.any.ensures.ran (YieldsList-from_slice _ c.iter.ensures.rest) (λ x b q k. search (rules, tests)) in
    found ∙ some_place (ltb 1) c.args.seen.now (omega arith)
