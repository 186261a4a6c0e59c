-- `text::lines::count_through` meets its contract: the place of the first byte of the class.
-- Assumes nothing.
use Rattle.std.proofs.Common.{rules, tests, ◌≡◌, sym, ◌∙◌}
use Rattle.std.specs.List.{position}
use Rattle.std.proofs.lemmas.Iterator.{YieldsList-from_slice}
use Rattle.std.proofs.lemmas.Iterator.Search.{position_from_yields_List}
use Rattle.text.proofs.Laws.Line.{has, through_some, through_none}
use Rattle.text.proofs.lines.count_through.Goals as goal

pub returns-in-Some : goal.returns-in-Some
returns-in-Some c =
    let a = c.args in
    let found : c.position.result ≡ position (has a.class) a.text.now = position_from_yields_List (has a.class) _ _ c.position.result c.position.ensures.ran (YieldsList-from_slice _ c.iter.ensures.rest) (λ x b q k. search (rules, tests)) in
    through_some a.class a.text.now c.in-Some.i (sym found ∙ c.in-Some.is)

pub returns-in-None : goal.returns-in-None
returns-in-None c =
    let a = c.args in
    let found : c.position.result ≡ position (has a.class) a.text.now = position_from_yields_List (has a.class) _ _ c.position.result c.position.ensures.ran (YieldsList-from_slice _ c.iter.ensures.rest) (λ x b q k. search (rules, tests)) in
    through_none a.class a.text.now (sym found ∙ c.in-None.is)
