-- `sheet::words::word_code` meets its contract.
-- Assumes nothing.
use mathlib.Core.Path.{◌∙◌}
use Rattle.sheet.specs.Words.{holder_words, access_words, origin_words}
use Rattle.sheet.proofs.Laws.Reading.{coded}
use Rattle.sheet.proofs.words.word_code.Goals as goal

pub returns-in-Holder : goal.returns-in-Holder
returns-in-Holder c = rw c.in-Holder.is (c.code_among.ensures ∙ coded holder_words c.args.word.now)

pub returns-in-Access : goal.returns-in-Access
returns-in-Access c = rw c.in-Access.is (c.code_among-in-Access.ensures ∙ coded access_words c.args.word.now)

pub returns-in-From : goal.returns-in-From
returns-in-From c = rw c.in-From.is (c.code_among-in-From.ensures ∙ coded origin_words c.args.word.now)
