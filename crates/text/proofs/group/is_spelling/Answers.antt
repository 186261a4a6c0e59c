-- `text::group::is_spelling` meets its contract: the buffer begins with the spelling of a group, with which the line is compared.
-- Assumes nothing.
use mathlib.Core.Path.{◌≡◌, sym, ap, ◌∙◌}
use mathlib.Core.Bool.{true}
use mathlib.Core.List.{List}
use Prim.Native.Nat.{ℕ}
use lib.Seq.{length-take-le}
use Rattle.text.specs.Group.{spell_group}
use Rattle.text.specs.Read.{same}
use Rattle.text.proofs.Laws.Write.{Wrote}
use Rattle.text.proofs.Laws.Read.{same_equal}
use Rattle.text.proofs.Laws.Group.{wrote_group, wrote_no_group}
use Rattle.model.specs.Requests.{is_group}
use Rattle.model.specs.Table.{is_domain}
use Rattle.text.proofs.group.is_spelling.Goals as goal

pub returns-in_default : goal.returns-in_default
returns-in_default c =
    sym (wrote_no_group _ _ _ c.in_default.field-0 c.write_group-written.ensures c.requires c.in_default.is _)

pub slice_bounds-buffer-end : goal.slice_bounds-buffer-end
slice_bounds-buffer-end c =
    let actor : ℕ = c.args.actor in
    let names : List ℕ = c.args.names.now in
    let told : (is_group names ≡ true) × Wrote (is_domain actor) (spell_group actor names) c.write_group-written.new.out c.in-Ok.length = wrote_group actor names _ c.in-Ok.length c.write_group-written.ensures c.in-Ok.is in
    told.1.inside

pub slice_bounds-eq-end : goal.slice_bounds-eq-end
slice_bounds-eq-end c =
    let actor : ℕ = c.args.actor in
    let names : List ℕ = c.args.names.now in
    let told : (is_group names ≡ true) × Wrote (is_domain actor) (spell_group actor names) c.write_group-written.new.out c.in-Ok.length = wrote_group actor names _ c.in-Ok.length c.write_group-written.ensures c.in-Ok.is in
    sym (length-take-le _ _ told.1.inside)

pub returns : goal.returns
returns c =
    let actor : ℕ = c.args.actor in
    let names : List ℕ = c.args.names.now in
    let told : (is_group names ≡ true) × Wrote (is_domain actor) (spell_group actor names) c.write_group-written.new.out c.in-Ok.length = wrote_group actor names _ c.in-Ok.length c.write_group-written.ensures c.in-Ok.is in
    let t = told in
    rw (t.0, t.1.was) (c.eq.ensures ∙ same_equal _ _ ∙ ap (same c.args.line.now) t.1.front)
