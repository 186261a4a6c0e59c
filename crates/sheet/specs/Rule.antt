-- Card 7: "A sheet has lines such as `(rule (holder raw cell) (access write) (from kin) keep)`, its brackets in this order; each lists one
-- word or more, in any order."
-- Assumes nothing.
use Rattle.std.specs.Prelude.{ℕ, Bool, true, cond, ◌≡◌, ltb, length, get_or}
use mathlib.Core.List.{List, [], ◌∷◌, ◌++◌, flat_map}
use Prim.Native.String.{String}
use Rattle.text.specs.Event.{bytes}
use Rattle.text.specs.Line.{words_of}
use Rattle.text.specs.Read.{same}
use Rattle.sheet.specs.Words.{holder_words, access_words, origin_words, result_words, inside, closing, ending, number_among}

-- what a line says, its words by their numbers
pub record Rule : Type 0 where
  pub holders : List ℕ
  pub accesses : List ℕ
  pub origins : List ℕ
  pub result : ℕ

-- ---- reading, word by word. Where a word is wrong no words are left; a line without its last word is no rule.

-- the words behind the first, where that is the one expected
unfoldable pub behind : List ℕ → List (List ℕ) → List (List ℕ)
behind w [] = []
behind w (v ∷ words) = cond (same v w) words []

-- what a bracket lists, and the words behind it
pub record Listed : Type 0 where
  pub numbers : List ℕ
  pub rest : List (List ℕ)

abbrev pub listed_of : List ℕ → List (List ℕ) → Listed
listed_of numbers rest = record { numbers = numbers; rest = rest }

-- "each lists one word or more, in any order": words of the bracket's own, up to one with the closing bracket
unfoldable pub listed : List (List ℕ) → List (List ℕ) → Listed
listed own [] = listed_of [] []
listed own (w ∷ words) =
    let more = listed own words in
    cond (ltb (number_among (inside own) w) (length own)) (listed_of (number_among (inside own) w ∷ more.numbers) more.rest)
    (cond (ltb (number_among (closing own) w) (length own)) (listed_of (number_among (closing own) w ∷ []) words)
    (listed_of [] []))

-- the number of the result that the words are, together; 3 for none
abbrev pub result_of : List (List ℕ) → ℕ
result_of words = number_among (ending result_words) (flat_map (λ (w : List ℕ). w) words)

abbrev pub rule_of : List (List ℕ) → Rule
rule_of words =
    let holders = listed holder_words (behind (bytes "(holder ") (behind (bytes "(rule ") words)) in
    let accesses = listed access_words (behind (bytes "(access ") holders.rest) in
    let origins = listed origin_words (behind (bytes "(from ") accesses.rest) in
    record { holders = holders.numbers; accesses = accesses.numbers; origins = origins.numbers; result = result_of origins.rest }

-- what a line is read as; it is no rule, and the line is misspelt, where it has no result
unfoldable pub read_rule : List ℕ → Rule
read_rule line = rule_of (words_of line)

abbrev pub is_rule : Rule → Bool
is_rule r = ltb r.result 3

-- ---- the same the other way round: the line of a rule

abbrev pub word_at : List (List ℕ) → ℕ → List ℕ
word_at words n = get_or words n []

-- numbers as words, each with a space before it
unfoldable pub spell_words : List (List ℕ) → List ℕ → List ℕ
spell_words own [] = []
spell_words own (n ∷ numbers) = bytes " " ++ (word_at own n ++ spell_words own numbers)

abbrev pub bracket : String → List (List ℕ) → List ℕ → List ℕ
bracket opening own numbers = bytes opening ++ (spell_words own numbers ++ bytes ")")

unfoldable pub spell_rule : Rule → List ℕ
spell_rule r =
    bytes "(rule" ++ (bracket " (holder" holder_words r.holders ++ (bracket " (access" access_words r.accesses
    ++ (bracket " (from" origin_words r.origins ++ (bytes " " ++ (word_at result_words r.result ++ bytes ")\n")))))

-- a rule that has a line: its numbers are words', and no list is empty. Exactly the lines of such rules are read as rules, and as those
-- (proofs/Laws/OneSpelling).
abbrev pub Below : ℕ → List ℕ → Type 0
Below k [] = Unit {0}
Below k (n ∷ numbers) = (ltb n k ≡ true) × Below k numbers

pub record Spelled (r : Rule) : Type 0 where
  pub holders : Below 3 r.holders
  pub accesses : Below 2 r.accesses
  pub origins : Below 3 r.origins
  pub result : ltb r.result 3 ≡ true
  pub some_holder : ltb 0 (length r.holders) ≡ true
  pub some_access : ltb 0 (length r.accesses) ≡ true
  pub some_origin : ltb 0 (length r.origins) ≡ true
