-- `sheet::words::number_among` meets its contract.
-- Assumes nothing.
use Rattle.std.proofs.Common.{rules, tests, ◌≡◌, ◌∙◌, List, ℕ, Bor}
use Rattle.std.proofs.lemmas.Iterator.{YieldsList-from_slice}
use Rattle.std.proofs.lemmas.Iterator.Search.{position_from_yields_List}
use Rattle.std.specs.List.{position}
use Rattle.std.specs.Str.{bytes_eq}
use Rattle.sheet.proofs.Laws.Reading.{found_among}
use Rattle.sheet.proofs.words.number_among.Goals as goal

pub returns : goal.returns
returns c =
    let words = c.args.words.now in
    let is_word = λ (v : Bor (List ℕ)). bytes_eq c.args.word.now v.now in
    let found : c.position.result ≡ position is_word words = position_from_yields_List is_word _ _ c.position.result c.position.ensures.ran (YieldsList-from_slice _ c.iter.ensures.rest) (λ x b q k. search (rules, tests)) in
    found_among c.args.word.now words c.unwrap_or.result (c.unwrap_or.ensures ∙ rw found)
