-- `text::form::in_form` meets its contract: in each arm the event is known.
-- Assumes nothing.
use mathlib.Core.Path.{sym, ◌∙◌}
use mathlib.Core.Logic.{inl, inr}
use Rattle.model.specs.declared.Event.TheVariants.{Read, Write, Drop}
use Rattle.text.proofs.Laws.Form.{form_in, form_of_create, form_of_borrow}
use Rattle.text.proofs.form.in_form.Goals as goal

pub returns-in-Create : goal.returns-in-Create
returns-in-Create c = rw c.in-Create.is (c.gives_plainly.ensures ∙ form_of_create _ _ _)

pub returns-in-Borrow : goal.returns-in-Borrow
returns-in-Borrow c = rw c.in-Borrow.is (c.gives_plainly-in-Borrow.ensures ∙ form_of_borrow _ _ _ _)

pub returns-in-Read : goal.returns-in-Read
returns-in-Read c =
    elim c.in-Read.is [
      | inl r ↦ rw r.2 (sym (form_in (Read _ _) tt))
      | inr rest ↦ elim rest [ inl w ↦ rw w.2 (sym (form_in (Write _ _) tt)) | inr d ↦ rw d.1 (sym (form_in (Drop _) tt)) ]
    ]
