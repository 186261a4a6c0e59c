-- `columns::words::is_event` meets its contract.
-- Assumes nothing.
use Rattle.columns.specs.Walk.{words_plain}
use Rattle.columns.proofs.Laws.Words.{event_tested}
use Rattle.columns.proofs.words.is_event.Goals as goal

pub returns : goal.returns
unfolding words_plain
returns c = rw (c.is_five.ensures, c.name_fits.ensures, c.span_fits.ensures, c.right_plain.ensures, c.holders_plain.ensures, c.rest_plain.ensures, event_tested c.args.w)
