-- `sizes::report::words_of` meets its contract.
-- Assumes nothing.
use Rattle.sizes.proofs.report.words_of.Goals as goal

pub returns-in-Ok : goal.returns-in-Ok
returns-in-Ok c = rw (c.in-Ok.is, c.word_of.ensures)

pub returns-in-Err : goal.returns-in-Err
returns-in-Err c = rw (c.in-Err.is, c.number_of.ensures, c.word_of-in-Err.ensures, c.word_of-in-Err-2.ensures)
