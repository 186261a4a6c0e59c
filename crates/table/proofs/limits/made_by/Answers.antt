-- `made_by` meets its contract: the rows that are the domain's are counted.
-- Assumes nothing.
use Rattle.std.proofs.Common.{rules, ◌∙◌, ◌≡◌, eqb, take}
use Rattle.std.specs.List.{count_by}
use Rattle.table.specs.Words.{cap_of}
use Rattle.table.proofs.Laws.Limits.{made_counted}
use Rattle.table.proofs.limits.made_by.Goals as goal

pub returns : goal.returns
returns c =
    let ws = c.args.table.now in
    let e : c.count.result ≡ count_by (λ w. eqb (cap_of w).maker c.args.d) (take c.args.k ws) = search rules in
    e ∙ made_counted ws c.args.d c.args.k c.requires.0
