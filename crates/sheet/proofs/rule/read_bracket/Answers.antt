-- `sheet::rule::read_bracket` meets its contract.
-- Assumes nothing.
use Rattle.sheet.specs.Reading.{words_for}
use Rattle.sheet.proofs.Laws.Reading.{bracket_read}
use Rattle.sheet.proofs.rule.read_bracket.Goals as goal

pub returns : goal.returns
returns c =
    let args = c.args in
    bracket_read args.line.now args.start args.opening.now (words_for args.bracket) c.behind-at.result c.read_list.result c.behind-at.ensures c.read_list.ensures
