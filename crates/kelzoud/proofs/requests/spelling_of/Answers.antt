-- `kelzoud::requests::spelling_of` meets its contract, case by case.
-- Assumes nothing.
use mathlib.Core.Path.{◌∙◌, ap, sym}
use Rattle.text.specs.Request.{spelling_of}
use Rattle.kelzoud.proofs.requests.spelling_of.Goals as goal

pub returns-in-Create : goal.returns-in-Create
returns-in-Create c = c.spelling_with.ensures ∙ ap spelling_of (sym c.in-Create.is)

pub returns-in-Borrow : goal.returns-in-Borrow
returns-in-Borrow c = c.spelling_with-in-Borrow.ensures ∙ ap spelling_of (sym c.in-Borrow.is)
