-- What the functions below the public calls promise each other.
-- Assumes nothing.
use Rattle.std.specs.Prelude.{ℕ, ◌+◌, ◌*◌, ◌≤◌, ◌<◌, min, ◌≡◌, Bool, true, cond, List, ltb, eqb, length, get_or, drop}
use Rattle.text.specs.Line.{words_of}
use Rattle.sheet.specs.Words.{holder_words, access_words, origin_words, inside, closing, number_among}
use Rattle.model.specs.Lists.{all}
use Rattle.sheet.specs.Rule.{Rule, behind, listed, is_rule}
use Rattle.sheet.specs.Rules.{holder_at, access_at, origin_at, times, given, result_given}
use Rattle.sheet.specs.ReadSheet.{rules_in}
use Rattle.sheet.specs.declared.words.Bracket.{Bracket}
use Rattle.sheet.specs.declared.words.Bracket.TheVariants.{Holder, Access, From}
use Rattle.sheet.specs.declared.rule.Found.{Found}
use Rattle.sheet.specs.declared.rule.Counted.{Counted}

abbrev pub words_for : Bracket → List (List ℕ)
words_for Holder = holder_words
words_for Access = access_words
words_for From = origin_words

-- a word of a bracket: its number where the bracket goes on, 3 more where it closes, 6 for any other word
unfoldable pub word_code : List (List ℕ) → List ℕ → ℕ
word_code own w =
    cond (ltb (number_among (inside own) w) (length own)) (number_among (inside own) w)
    (cond (ltb (number_among (closing own) w) (length own)) (3 + number_among (closing own) w) 6)

-- the same of a word among those behind which a bracket goes on, and those that close it
abbrev pub code_among : List (List ℕ) → List (List ℕ) → List ℕ → ℕ
code_among going last w = cond (ltb (number_among going w) (length going)) (number_among going w) (cond (ltb (number_among last w) (length last)) (3 + number_among last w) 6)

-- the words from a place of a line on
abbrev pub words_from : List ℕ → ℕ → List (List ℕ)
words_from line at = words_of (drop at line)

-- the words behind the one expected begin at r
pub record Behind (line : List ℕ) (at : ℕ) (expected : List ℕ) (r : ℕ) : Type 0 where
  pub fits : r ≤ length line
  pub rest : words_from line r ≡ behind expected (words_from line at)

-- how often each number below 3 is listed, at most 2
pub record Counts (numbers counts : List ℕ) : Type 0 where
  pub long : length counts ≡ 3
  pub each : (n : ℕ) → n < 3 → get_or counts n 0 ≡ min (times n numbers) 2

-- what a bracket lists, and where the words behind it begin
pub record Lists (line : List ℕ) (at : ℕ) (own : List (List ℕ)) (r : Found) : Type 0 where
  pub fits : r.at ≤ length line
  pub numbers : Counts (listed own (words_from line at)).numbers r.counts
  pub rest : words_from line r.at ≡ (listed own (words_from line at)).rest

-- a rule's lists by their counts
pub record Counting (rule : Rule) (r : Counted) : Type 0 where
  pub holders : Counts rule.holders r.holders
  pub accesses : Counts rule.accesses r.accesses
  pub origins : Counts rule.origins r.origins
  pub result : r.result ≡ rule.result

-- after some rules: how often each combination is given, at most 2, and its result
pub record Noted (rules : List Rule) (seen results : List ℕ) : Type 0 where
  pub seen_long : length seen ≡ 18
  pub results_long : length results ≡ 18
  pub seen_each : (p : ℕ) → p < 18 → get_or seen p 0 ≡ min (given rules p) 2
  pub results_each : (p : ℕ) → p < 18 → get_or results p 0 ≡ result_given rules p

-- the same of a bracket with its opening word
pub record Brackets (line : List ℕ) (at : ℕ) (opening : List ℕ) (own : List (List ℕ)) (r : Found) : Type 0 where
  pub fits : r.at ≤ length line
  pub numbers : Counts (listed own (behind opening (words_from line at))).numbers r.counts
  pub rest : words_from line r.at ≡ (listed own (behind opening (words_from line at))).rest

-- ---- lines added up

-- how often a line gives the combination at a place, up to twice, by its counts
abbrev pub counts_at : Counted → ℕ → ℕ
counts_at r p = min (min (get_or r.holders (holder_at p) 0) 2 * min (get_or r.accesses (access_at p) 0) 2 * min (get_or r.origins (origin_at p) 0) 2) 2

-- how often each combination is given, up to twice, and its result, both of their lengths
pub record Ready (seen results : List ℕ) : Type 0 where
  pub seen_long : length seen ≡ 18
  pub results_long : length results ≡ 18
  pub small : (p : ℕ) → p < 18 → get_or seen p 0 ≤ 2

-- what a line adds
pub record Adds (r : Counted) (seen results seen' results' : List ℕ) : Type 0 where
  pub seen_long : length seen' ≡ 18
  pub results_long : length results' ≡ 18
  pub seen_each : (p : ℕ) → p < 18 → get_or seen' p 0 ≡ min (get_or seen p 0 + counts_at r p) 2
  pub results_each : (p : ℕ) → p < 18 → get_or results' p 0 ≡ cond (eqb (get_or seen p 0) 0) (cond (eqb (counts_at r p) 0) (get_or results p 0) r.result) (get_or results p 0)

-- every line is a rule, and then they are added up
pub record ReadsLines (text : List ℕ) (r : Bool) (seen results : List ℕ) : Type 0 where
  pub rules : r ≡ all is_rule (rules_in text)
  pub noted : r ≡ true → Noted (rules_in text) seen results
