-- `none_exceeded` meets its contract: each limit is compared with its count.
-- Assumes nothing.
use Rattle.std.proofs.Common.{rules, ◌∙◌, ◌≡◌, leb}
use borrow.Author.Tests.{tests}
use Rattle.std.specs.List.{list_all, zip}
use Rattle.std.proofs.lemmas.Iterator.{YieldsList-from_slice, YieldsList-from_zip}
use Rattle.std.proofs.lemmas.Iterator.Search.{all_from_yields_List}
use native.Mathlib.Omega.{arith}
use Rattle.table.proofs.Laws.Limits.{exceeds_each}
use Rattle.table.proofs.limits.none_exceeded.Goals as goal

pub returns : goal.returns
returns c =
    let e : c.all.result ≡ list_all (λ p. leb p.1 p.0) (zip c.args.limits.now c.args.counts.now) = all_from_yields_List (λ p. leb p.1 p.0) c.all.new.self _ c.all.result c.all.ensures.ran (YieldsList-from_zip (YieldsList-from_slice c.args.limits.now (cc)) (YieldsList-from_slice c.args.counts.now (cc))) (λ x b q k. search (rules, tests)) in
    e ∙ exceeds_each c.args.counts.now c.args.limits.now 0 (omega (arith, c.requires))
