-- `sheet::rule::read_rule` meets its contract.
-- Assumes nothing.
use Rattle.sheet.proofs.Laws.Reading.{rule_read}
use Rattle.sheet.proofs.rule.read_rule.Goals as goal

pub returns : goal.returns
returns c =
    rule_read c.args.line.now c.behind-start.result c.read_bracket-holders.result c.read_bracket-accesses.result c.read_bracket-origins.result c.result_number-result.result c.behind-start.ensures c.read_bracket-holders.ensures c.read_bracket-accesses.ensures c.read_bracket-origins.ensures c.result_number-result.ensures
