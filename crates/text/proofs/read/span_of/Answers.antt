-- `text::read::span_of` meets its contract.
-- Assumes nothing.
use Rattle.text.proofs.read.span_of.Goals as goal

pub returns : goal.returns
returns c = rw (c.number.ensures, c.number-2.ensures)
