-- `own_mark` meets its contract.
-- Assumes nothing.
use mathlib.Core.Path.{◌≡◌, sym, ap, ◌∙◌}
use mathlib.Core.Bool.{Bool, and-false}
use borrow.Author.Tests.{eq-eqb, ne_eqb}
use Rattle.model.specs.declared.Origin.{Origin}
use Rattle.model.specs.Strike.{result_of}
use Rattle.model.specs.Table.{span}
use Rattle.model.specs.Values.{touches}
use Rattle.table.specs.Sheets.{weight, sheet_in}
use Rattle.rules.specs.Engine.{is_apart, origin_of}
use Rattle.rules.proofs.marks.own_mark.Goals as goal

pub returns-then-relation-eq1 : goal.returns-then-relation-eq1
returns-then-relation-eq1 c = rw (eq-eqb _ _ c.if-relation-eq1.true, and-false)

pub returns-then-do_touch : goal.returns-then-do_touch
returns-then-do_touch c =
    let e : touches c.args.s (span c.args.c) ≡ c.do_touch.result = sym (c.do_touch.ensures ∙ ap (touches c.args.s) c.span_of.ensures) in
    let from : c.origin_of-from.result ≡ origin_of (is_apart c.args.in_cell c.args.relation) c.args.kin = c.origin_of-from.ensures ∙ ap (λ (b : Bool). origin_of b c.args.kin) c.is_apart.ensures in
    rw (ne_eqb _ _ c.if-relation-eq1.false, e, c.if-do_touch.true) (c.result_at.ensures ∙ ap (λ (o : Origin). weight (result_of (sheet_in c.args.sheet.now) c.args.c.kind c.args.a o)) from)

pub returns-else-do_touch : goal.returns-else-do_touch
returns-else-do_touch c =
    let e : touches c.args.s (span c.args.c) ≡ c.do_touch.result = sym (c.do_touch.ensures ∙ ap (touches c.args.s) c.span_of.ensures) in
    rw (ne_eqb _ _ c.if-relation-eq1.false, e, c.if-do_touch.false)
