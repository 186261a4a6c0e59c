-- `text::group::write_group` meets its contract: the test says whether the names are a group, and the line is its spelling.
-- Assumes nothing.
use mathlib.Core.Path.{◌≡◌, sym, ◌∙◌}
use mathlib.Core.Bool.{true}
use native.Mathlib.Omega.{arith}
use borrow.Author.Tests.{not-true, not-false}
use Rattle.text.specs.Group.{spell_group}
use Rattle.text.proofs.Laws.Group.{group_few, misgrouped_written, group_written}
use Rattle.model.specs.Requests.{is_group}
use Rattle.text.proofs.group.write_group.Goals as goal

pub returns-then-not-grouped : goal.returns-then-not-grouped
returns-then-not-grouped c =
    let a = c.args in
    sym (misgrouped_written a.actor a.names.now a.out.now (sym c.is_group-grouped.ensures ∙ not-true c.is_group-grouped.result c.if-not-grouped.true-raw))

pub write_line-requires : goal.write_line-requires
write_line-requires c =
    let is-group : is_group c.args.names.now ≡ true = sym c.is_group-grouped.ensures ∙ not-false c.is_group-grouped.result c.if-not-grouped.false-raw in
    record { word = omega arith; numbers = group_few _ is-group }

pub returns : goal.returns
unfolding spell_group
returns c =
    let is-group : is_group c.args.names.now ≡ true = sym c.is_group-grouped.ensures ∙ not-false c.is_group-grouped.result c.if-not-grouped.false-raw in
    group_written _ _ _ is-group (rw c.is_domain.ensures at c.write_line.ensures)
