-- Card 7: one text of a sheet, a line for each combination.
-- Assumes nothing.
use Rattle.std.specs.Prelude.{ℕ, min, true, get_or}
use mathlib.Core.List.{List, [], ◌∷◌, flat_map}
use Rattle.text.specs.Write.{Outcome, written, stored}
use Rattle.sheet.specs.Rule.{Rule, spell_rule}
use Rattle.sheet.specs.Rules.{places, holder_at, access_at, origin_at}

-- the rule that gives one combination a byte's result: 0 `keep`, 1 `lower`, anything else `end`
abbrev pub rule_with : ℕ → ℕ → Rule
rule_with place byte = record { holders = holder_at place ∷ []; accesses = access_at place ∷ []; origins = origin_at place ∷ []; result = min byte 2 }

unfoldable pub sheet_text : List ℕ → List ℕ
sheet_text sheet = flat_map (λ p. spell_rule (rule_with p (get_or sheet p 0))) places

-- a sheet written into the buffer out; it always has a text
unfoldable pub write_sheet : List ℕ → List ℕ → Outcome
write_sheet sheet out = record { answer = written true (sheet_text sheet) out; buffer = stored true (sheet_text sheet) out }
