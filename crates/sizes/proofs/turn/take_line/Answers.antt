-- `sizes::turn::take_line` meets its contract: the event that the line spells, or refusal 2.
-- Assumes nothing.
use Rattle.std.specs.Prelude.{Err}
use mathlib.Core.Path.{◌≡◌, sym, ap, subst, ◌∙◌}
use Prim.Native.Nat.{suc}
use Rattle.model.specs.declared.Event.{Event}
use Rattle.model.specs.Answers.{number}
use Rattle.text.specs.Result.{Result, value, refused}
use Rattle.text.specs.Form.{read_form, read_form_answer}
use Rattle.sizes.specs.Taken.{memory, Takes}
use Rattle.sizes.proofs.Laws.Taken.{taken_misspelt}
use Rattle.sizes.proofs.turn.take_line.Goals as goal

pub returns-in-Ok : goal.returns-in-Ok
returns-in-Ok c =
    let a = c.args in
    let is : read_form a.line.now ≡ value c.in-Ok.event = sym c.read_form-read.ensures ∙ ap read_form_answer c.in-Ok.is in
    subst (λ (q : Result Event). Takes (memory a.table.now a.bits.now a.places.now a.names.now a.keys.now a.counts.now) a.from (suc a.client) q (memory c.take_event.new.table c.take_event.new.bits c.take_event.new.places c.take_event.new.names c.take_event.new.keys c.take_event.new.counts) c.take_event.result) (sym is) c.take_event.ensures

pub returns-in-Err : goal.returns-in-Err
returns-in-Err c =
    let a = c.args in
    let m = memory a.table.now a.bits.now a.places.now a.names.now a.keys.now a.counts.now in
    let is : read_form a.line.now ≡ refused (number c.in-Err.why) = sym c.read_form-read.ensures ∙ ap read_form_answer c.in-Err.is in
    subst (λ (q : Result Event). Takes m a.from (suc a.client) q m (record { answer = Err c.in-Err.why; standing = a.from })) (sym is) (taken_misspelt m a.from (suc a.client) c.in-Err.why)
