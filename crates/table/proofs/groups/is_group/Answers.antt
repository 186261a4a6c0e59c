-- `is_group` meets its contract: each name and the next are compared.
-- Assumes nothing.
use Rattle.std.proofs.Common.{rules, ◌≡◌, length, ltb}
use borrow.Author.Tests.{tests, le-leb, lt-leb}
use Rattle.std.specs.List.{IsAllAdjacentAnswer}
use Rattle.std.proofs.lemmas.Fn.{always_returns_same}
use Rattle.model.specs.Requests.{is_group}
use Rattle.table.proofs.Laws.Groups.{rises_told}
use Rattle.table.proofs.groups.is_group.Goals as goal

pub returns-then-names-lt1 : goal.returns-then-names-lt1
unfolding is_group
returns-then-names-lt1 c = rw (lt-leb 1 (length c.args.names.now) c.if-names-lt1.true)

pub returns-then-names-gt64 : goal.returns-then-names-gt64
unfolding is_group
returns-then-names-gt64 c =
    let n = length c.args.names.now in
    rw (le-leb 1 n c.if-names-lt1.false, lt-leb n 64 c.if-names-gt64.true)

pub returns : goal.returns
unfolding is_group
returns c =
    let names = c.args.names.now in
    let e : IsAllAdjacentAnswer (λ x y b. b ≡ ltb x y) names c.is_sorted_by.result = c.is_sorted_by.ensures.cases ltb (always_returns_same _ _ _ (λ a r q k. search (rules, tests))) in
    rw (le-leb 1 (length names) c.if-names-lt1.false, le-leb (length names) 64 c.if-names-gt64.false) (rises_told names c.is_sorted_by.result c.if-names-lt1.false e)
