-- Card 7: reading a sheet's text. "A refused sheet changes nothing."
-- Assumes nothing.
use Rattle.std.specs.Prelude.{ℕ, cond, List, map, eqb, Ok, Err, Result}
use Rattle.model.specs.declared.Refusal.{Refusal}
use Rattle.model.specs.Answers.{number}
use Rattle.text.specs.Line.{lines_of}
use Rattle.sheet.specs.Rule.{Rule, read_rule}
use Rattle.sheet.specs.Rules.{judge_rules, bytes_given}

-- what its lines say
abbrev pub rules_in : List ℕ → List Rule
rules_in text = map read_rule (lines_of text)

-- the refusal of a text, 0 where it is a sheet
abbrev pub judge_text : List ℕ → ℕ
judge_text text = judge_rules (rules_in text)

-- the sheet that is lent, after a text is read into it
unfoldable pub sheet_into : List ℕ → List ℕ → List ℕ
sheet_into text lent = cond (eqb (judge_text text) 0) (bytes_given (rules_in text)) lent

-- the number of each answer
abbrev pub sheet_answer : Result (Unit {0}) Refusal → ℕ
sheet_answer (Ok done) = 0
sheet_answer (Err f) = number f
