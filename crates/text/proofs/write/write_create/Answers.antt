-- `text::write::write_create` meets its contract: in each arm the new name is known, and the line is the spelling.
-- Assumes nothing.
use Rattle.text.specs.Event.{form, spell, has_spelling}
use Rattle.text.proofs.Laws.Write.{event_written}
use Rattle.text.proofs.write.write_create.Goals as goal

pub returns-in-None : goal.returns-in-None
unfolding spell form has_spelling
returns-in-None c =
    event_written _ _ _ {r = c.write_with_terms.result} (rw (← c.spells_create-spelled.ensures, c.in-None.is) c.write_with_terms.ensures)

pub returns-in-Some : goal.returns-in-Some
unfolding spell form has_spelling
returns-in-Some c =
    event_written _ _ _ {r = c.write_with_terms-in-Some.result} (rw (← c.spells_create-spelled.ensures, c.in-Some.is) c.write_with_terms-in-Some.ensures)
