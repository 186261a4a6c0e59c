-- Examples of sheets as text, of card 7, computed by the definitions.
-- Assumes nothing.
use mathlib.Core.Path.{◌≡◌, refl, ap, ◌∙◌}
use mathlib.Core.List.{List, [], ◌∷◌, ◌++◌, map, flat_map}
use Prim.Native.Nat.{ℕ}
use Prim.Native.String.{String}
use lib.ListN.{replicate}
use Rattle.model.specs.Sheet6.{sheet6}
use Rattle.table.specs.Sheets.{bytes6, sheet_in}
use Rattle.table.proofs.Offered.{bytes6_is}
use Rattle.text.specs.Class.{class_of}
use Rattle.text.specs.Event.{bytes}
use Rattle.text.specs.Line.{push, parts_of}
use Rattle.text.specs.Read.{same}
use Rattle.sheet.specs.Words.{number_among}
use Rattle.sheet.specs.Rule.{behind, listed, read_rule}
use Rattle.sheet.specs.Rules.{times, given_by, given, judge_rules, result_given, bytes_given}
use Rattle.sheet.specs.ReadSheet.{rules_in, judge_text}

-- ---- card 6's sheet in six lines, which examples/card6.sheet has too

abbrev pub card6_text : List ℕ
card6_text =
    bytes "(rule (holder reference cell) (access read) (from cell kin stranger) lower)\n"
    ++ (bytes "(rule (holder raw) (access read) (from cell kin stranger) keep)\n"
    ++ (bytes "(rule (holder reference raw cell) (access write) (from cell) keep)\n"
    ++ (bytes "(rule (holder raw) (access write) (from kin) keep)\n"
    ++ (bytes "(rule (holder reference cell) (access write) (from kin) end)\n"
    ++ bytes "(rule (holder reference raw cell) (access write) (from stranger) end)\n"))))

pub card6_judged : judge_text card6_text ≡ 0
unfolding parts_of push class_of read_rule behind listed number_among same flat_map judge_rules given given_by times
card6_judged = refl

pub card6_bytes : bytes_given (rules_in card6_text) ≡ bytes6
unfolding parts_of push class_of read_rule behind listed number_among same flat_map result_given given_by times
card6_bytes = refl

-- so it is card 6's sheet
pub card6_sheet : sheet_in (bytes_given (rules_in card6_text)) ≡ sheet6
card6_sheet = ap sheet_in card6_bytes ∙ bytes6_is

-- ---- a line

-- card 7: "lines such as `(rule (holder raw cell) (access write) (from kin) keep)`"
card_line : read_rule (bytes "(rule (holder raw cell) (access write) (from kin) keep)\n")
    ≡ record { holders = 1 ∷ 2 ∷ []; accesses = 1 ∷ []; origins = 1 ∷ []; result = 0 }
unfolding parts_of push class_of read_rule behind listed number_among same flat_map
card_line = refl

-- "each lists one word or more, in any order"
any_order : read_rule (bytes "(rule (holder cell raw reference) (access write read) (from stranger cell kin) end)\n")
    ≡ record { holders = 2 ∷ 1 ∷ 0 ∷ []; accesses = 1 ∷ 0 ∷ []; origins = 2 ∷ 0 ∷ 1 ∷ []; result = 2 }
unfolding parts_of push class_of read_rule behind listed number_among same flat_map
any_order = refl

-- ---- refusals

abbrev judgings : List String → List ℕ
judgings = map (λ s. judge_text (bytes s))

-- 2: an empty line, no newline at the end, something else there, bytes behind a line, two spaces, a space or none where there is one
misspelt_ends : judgings
    ("\n"
    ∷ "(rule (holder raw) (access write) (from kin) keep)"
    ∷ "(rule (holder raw) (access write) (from kin) keep) \n"
    ∷ "(rule (holder raw) (access write) (from kin) keep)\r\n"
    ∷ "(rule (holder raw) (access write) (from kin) keep\n"
    ∷ "(rule (holder raw) (access write) (from kin) keep)\n "
    ∷ "(rule (holder raw) (access write) (from kin) keep)\n\n"
    ∷ [])
    ≡ replicate 7 2
unfolding parts_of push class_of read_rule behind listed number_among same flat_map judge_rules given given_by times
misspelt_ends = refl

misspelt_spaces : judgings
    ("(rule  (holder raw) (access write) (from kin) keep)\n"
    ∷ "(rule (holder  raw) (access write) (from kin) keep)\n"
    ∷ "(rule (holder raw  cell) (access write) (from kin) keep)\n"
    ∷ "(rule (holder raw ) (access write) (from kin) keep)\n"
    ∷ "(rule (holder raw)(access write) (from kin) keep)\n"
    ∷ " (rule (holder raw) (access write) (from kin) keep)\n"
    ∷ "(rule (holder raw) (access write) (from kin) keep )\n"
    ∷ "(rule (holder raw\tcell) (access write) (from kin) keep)\n"
    ∷ [])
    ≡ replicate 8 2
unfolding parts_of push class_of read_rule behind listed number_among same flat_map judge_rules given given_by times
misspelt_spaces = refl

-- 2: brackets in another order, one missing, one twice, one empty
misspelt_brackets : judgings
    ("(rule (access write) (holder raw) (from kin) keep)\n"
    ∷ "(rule (holder raw) (from kin) (access write) keep)\n"
    ∷ "(rule (holder raw) (from kin) keep)\n"
    ∷ "(rule (holder raw) (holder cell) (access write) (from kin) keep)\n"
    ∷ "(rule (holder ) (access write) (from kin) keep)\n"
    ∷ "(rule (holder) (access write) (from kin) keep)\n"
    ∷ "(rule (holder raw) (access write) (from kin))\n"
    ∷ "(rule keep)\n"
    ∷ [])
    ≡ replicate 8 2
unfolding parts_of push class_of read_rule behind listed number_among same flat_map judge_rules given given_by times
misspelt_brackets = refl

-- 2: an unknown word, another bracket's, a capital letter, two results
misspelt_words : judgings
    ("(rule (holder row) (access write) (from kin) keep)\n"
    ∷ "(rule (holder kin) (access write) (from kin) keep)\n"
    ∷ "(rule (holder raw) (access drop) (from kin) keep)\n"
    ∷ "(rule (holder raw) (access write) (from raw) keep)\n"
    ∷ "(rule (holder raw) (access write) (from kin) raise)\n"
    ∷ "(rule (holder Raw) (access write) (from kin) keep)\n"
    ∷ "(Rule (holder raw) (access write) (from kin) keep)\n"
    ∷ "(rule (holder raw) (access write) (from kin) keep end)\n"
    ∷ [])
    ≡ replicate 8 2
unfolding parts_of push class_of read_rule behind listed number_among same flat_map judge_rules given given_by times
misspelt_words = refl

-- 15: no line, or one line; 14 comes before it: a word repeated in a bracket, of each kind, or a combination in two lines
given_twice : judgings
    (""
    ∷ "(rule (holder raw) (access write) (from kin) keep)\n"
    ∷ "(rule (holder raw raw) (access write) (from kin) keep)\n"
    ∷ "(rule (holder raw) (access write read write) (from kin) keep)\n"
    ∷ "(rule (holder raw) (access write) (from kin kin) keep)\n"
    ∷ "(rule (holder raw) (access write) (from kin) keep)\n(rule (holder cell raw) (access write) (from kin) keep)\n"
    ∷ [])
    ≡ 15 ∷ 15 ∷ 14 ∷ 14 ∷ 14 ∷ 14 ∷ []
unfolding parts_of push class_of read_rule behind listed number_among same flat_map judge_rules given given_by times
given_twice = refl

-- 2 before 14: a misspelt line behind, or before, a repeated word
misspelt_first : judgings
    ("(rule (holder raw raw) (access write) (from kin) keep)\n(rule (holder raw) (access write) (from kin) keep)"
    ∷ "\n(rule (holder raw raw) (access write) (from kin) keep)\n"
    ∷ [])
    ≡ 2 ∷ 2 ∷ []
unfolding parts_of push class_of read_rule behind listed number_among same flat_map judge_rules given given_by times
misspelt_first = refl

-- all but one of the 18, and all with one more line
missing_one : judge_text
    (bytes "(rule (holder reference cell) (access read write) (from cell kin stranger) end)\n"
    ++ (bytes "(rule (holder raw) (access read) (from cell kin stranger) end)\n"
    ++ bytes "(rule (holder raw) (access write) (from cell stranger) end)\n"))
    ≡ 15
unfolding parts_of push class_of read_rule behind listed number_among same flat_map judge_rules given given_by times
missing_one = refl

one_more : judge_text
    (bytes "(rule (holder reference raw cell) (access read write) (from cell kin stranger) end)\n"
    ++ bytes "(rule (holder raw) (access write) (from kin) end)\n")
    ≡ 14
unfolding parts_of push class_of read_rule behind listed number_among same flat_map judge_rules given given_by times
one_more = refl

-- one line can give all
one_line : (judge_text (bytes "(rule (holder reference raw cell) (access read write) (from cell kin stranger) end)\n") ≡ 0)
    × (bytes_given (rules_in (bytes "(rule (holder reference raw cell) (access read write) (from cell kin stranger) end)\n")) ≡ replicate 18 2)
unfolding parts_of push class_of read_rule behind listed number_among same flat_map judge_rules given given_by times result_given
one_line = (refl, refl)
