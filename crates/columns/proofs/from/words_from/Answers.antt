-- `columns::from::words_from` meets its contract.
-- Assumes nothing.
use Rattle.columns.proofs.Laws.From.{words_from_lem}
use Rattle.columns.proofs.from.words_from.Goals as goal

pub returns : goal.returns
returns c = rw (c.kept.ensures, c.kept-2.ensures, c.kept-3.ensures, c.kept-4.ensures, c.kept-5.ensures) (words_from_lem _ _ _ _ _ c.requires)
