-- `table::sheets::set_results` meets its contract: three results, one behind the other.
-- Assumes nothing.
use Rattle.table.proofs.sheets.set_results.Goals as goal

pub returns : goal.returns
returns c = rw (c.effect_number.ensures, c.effect_number-2.ensures, c.effect_number-3.ensures)
