-- `rest_is_empty` meets its contract: a row of no capability is all zeros, in its words too.
-- Assumes nothing.
use Rattle.std.proofs.Common.{rules, ◌∙◌, ◌≡◌, drop, replicate, eqb}
use native.Mathlib.Omega.{arith}
use lib.ListN.{length-drop}
use lib.Seq.{take_all}
use borrow.Author.Tests.{tests}
use Rattle.std.specs.List.{list_all}
use Rattle.std.specs.Cmp.Lexicographic.{pointwise}
use Rattle.std.proofs.lemmas.Iterator.{YieldsList-from_slice}
use Rattle.std.proofs.lemmas.Iterator.Search.{all_from_yields_List}
use Rattle.table.proofs.Laws.Ordered.{empty_rows}
use Rattle.table.proofs.ordered.rest_is_empty.Goals as goal

pub returns : goal.returns
returns c =
    let ws = drop c.args.k c.args.table.now in
    let e : c.all.result ≡ list_all (λ w. pointwise eqb w (replicate 11 0)) ws = all_from_yields_List (λ w. pointwise eqb w (replicate 11 0)) _ _ c.all.result c.all.ensures.ran (YieldsList-from_slice ws (c.iter.ensures.rest ∙ take_all _ ws (omega (arith, length-drop c.args.k c.args.table.now)))) (λ x b q k. search (rules, tests)) in
    e ∙ empty_rows c.args.table.now c.told-table c.args.k
