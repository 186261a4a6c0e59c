-- `live_count` meets its contract: the first row with name 0 is looked for.
-- Assumes nothing.
use Rattle.std.proofs.Common.{rules, ◌≡◌, eqb}
use borrow.Author.Tests.{tests}
use Rattle.std.specs.List.{position}
use Rattle.std.proofs.lemmas.Iterator.{YieldsList-from_slice}
use Rattle.std.proofs.lemmas.Iterator.Search.{position_from_yields_List}
use Rattle.table.specs.Words.{cap_of}
use Rattle.table.proofs.Laws.Find.{front_of}
use Rattle.table.proofs.find.live_count.Goals as goal

pub returns : goal.returns
returns c =
    let ws = c.args.table.now in
    let e : c.position.result ≡ position (λ w. eqb (cap_of w).name.0 0) ws = position_from_yields_List (λ w. eqb (cap_of w).name.0 0) _ _ c.position.result c.position.ensures.ran (YieldsList-from_slice ws cc) (λ x b q k. search (rules, tests)) in
    rw (c.unwrap_or.ensures, e) (front_of ws)
