-- The theorems about a sheet's lines: a line is read as a rule exactly when it is the spelling of one, and as that one; and the spelling
-- is one line.
-- Assumes nothing.
use mathlib.Core.Path.{◌≡◌, refl, sym, ap, ◌∙◌}
use mathlib.Core.Bool.{Bool, true, false, cond}
use mathlib.Core.List.{List, [], ◌∷◌, ◌++◌, append_assoc, append-nil, flat_map}
use Prim.Native.Nat.{ℕ, suc, ◌<◌}
use native.Mathlib.Omega.{arith}
use lib.Dec.{ltb}
use lib.ListN.{length}
use borrow.Author.Tests.{ltb-true, lt-ltb, le-ltb}
use Rattle.model.proofs.Offered.{clash}
use Rattle.text.specs.Class.{class_of, space}
use Rattle.text.specs.Event.{bytes}
use Rattle.text.specs.Line.{push, parts_of, words_of, lines_of}
use Rattle.text.specs.Read.{same}
use Rattle.text.proofs.Offered.{Ends, parts_together, same_true, same_refl}
use Rattle.sheet.specs.Words.{holder_words, access_words, origin_words, result_words, inside, closing, ending, number_among}
use Rattle.sheet.specs.Rule.{Rule, Listed, behind, listed, listed_of, result_of, rule_of, read_rule, is_rule, word_at, spell_words, spell_rule, Below, Spelled}
use Rattle.sheet.proofs.Laws.Vocabulary.{ended_is, Vocabulary, holders_known, accesses_known, origins_known, result_back, Plain, holder_plain, access_plain, origin_plain, result_plain}

-- ---- the line of a rule, its pieces one behind the other

abbrev end_of : Rule → List ℕ
end_of r = word_at result_words r.result ++ bytes ")\n"

abbrev from_of : Rule → List ℕ
from_of r = spell_words origin_words r.origins ++ (bytes ") " ++ end_of r)

abbrev access_of : Rule → List ℕ
access_of r = spell_words access_words r.accesses ++ (bytes ") (from" ++ from_of r)

abbrev holder_of : Rule → List ℕ
holder_of r = spell_words holder_words r.holders ++ (bytes ") (access" ++ access_of r)

spell_is : (r : Rule) → spell_rule r ≡ bytes "(rule (holder" ++ holder_of r
unfolding spell_rule
spell_is r =
    let hs = spell_words holder_words r.holders in
    let xs = spell_words access_words r.accesses in
    let os = spell_words origin_words r.origins in
    rw (append_assoc hs (bytes ")"), append_assoc xs (bytes ")"), append_assoc os (bytes ")"))

-- ---- what is spelled is read

-- the words of a bracket, the first of them behind its opening word
listed_back : (own : List (List ℕ)) → Vocabulary own → (n : ℕ) (ns : List ℕ) → Below (length own) (n ∷ ns) → (t : List ℕ)
    → listed own (words_of ((word_at own n ++ spell_words own ns) ++ (bytes ") " ++ t))) ≡ listed_of (n ∷ ns) (words_of t)
unfolding listed spell_words
listed_back own known n [] b t =
    let k = known n (ltb-true n (length own) b.0) in
    rw (append-nil (word_at own n), k.closes t, k.inside_not, k.closing_is, b.0, le-ltb (length own) (length own) (omega arith))
listed_back own known n (m ∷ ms) b t =
    let k = known n (ltb-true n (length own) b.0) in
    let rest = (word_at own m ++ spell_words own ms) ++ (bytes ") " ++ t) in
    rw (append_assoc (word_at own n) (bytes " " ++ (word_at own m ++ spell_words own ms)) (bytes ") " ++ t), k.goes_on rest, k.inside_is, b.0)
    (ap (λ (l : Listed). listed_of (n ∷ l.numbers) l.rest) (listed_back own known m ms b.1 t))

-- a bracket with its opening word, of which o is all but the space
bracket_back : (own : List (List ℕ)) → Vocabulary own → (o : List ℕ) → ((t : List ℕ) → words_of (o ++ (bytes " " ++ t)) ≡ (o ++ bytes " ") ∷ words_of t)
    → (numbers : List ℕ) → Below (length own) numbers → ltb 0 (length numbers) ≡ true → (t : List ℕ)
    → listed own (behind (o ++ bytes " ") (words_of (o ++ (spell_words own numbers ++ (bytes ") " ++ t))))) ≡ listed_of numbers (words_of t)
unfolding behind spell_words
bracket_back own known o cut [] b h t = clash h refl
bracket_back own known o cut (n ∷ ns) b h t =
    rw (cut ((word_at own n ++ spell_words own ns) ++ (bytes ") " ++ t)), same_refl (o ++ bytes " ")) (listed_back own known n ns b t)

-- words, together
abbrev flat : List (List ℕ) → List ℕ
flat words = flat_map (λ (w : List ℕ). w) words

-- a line's rule, bracket by bracket
abbrev with_origins : List ℕ → List ℕ → Listed → Rule
with_origins hs xs o = record { holders = hs; accesses = xs; origins = o.numbers; result = result_of o.rest }

abbrev with_accesses : List ℕ → Listed → Rule
with_accesses hs a = with_origins hs a.numbers (listed origin_words (behind (bytes "(from ") a.rest))

abbrev with_holders : Listed → Rule
with_holders h = with_accesses h.numbers (listed access_words (behind (bytes "(access ") h.rest))

module _ (r : Rule) (s : Spelled r) where
  holders : listed holder_words (behind (bytes "(holder ") (behind (bytes "(rule ") (words_of (bytes "(rule (holder" ++ holder_of r)))) ≡ listed_of r.holders (words_of (bytes "(access" ++ access_of r))
  unfolding behind parts_of push class_of same
  holders = bracket_back holder_words holders_known (bytes "(holder") (λ t. refl) r.holders s.holders s.some_holder (bytes "(access" ++ access_of r)

  accesses : listed access_words (behind (bytes "(access ") (words_of (bytes "(access" ++ access_of r))) ≡ listed_of r.accesses (words_of (bytes "(from" ++ from_of r))
  unfolding parts_of push class_of
  accesses = bracket_back access_words accesses_known (bytes "(access") (λ t. refl) r.accesses s.accesses s.some_access (bytes "(from" ++ from_of r)

  origins : listed origin_words (behind (bytes "(from ") (words_of (bytes "(from" ++ from_of r))) ≡ listed_of r.origins (words_of (end_of r))
  unfolding parts_of push class_of
  origins = bracket_back origin_words origins_known (bytes "(from") (λ t. refl) r.origins s.origins s.some_origin (end_of r)

  result : result_of (words_of (end_of r)) ≡ r.result
  result = ap (number_among (ending result_words)) (parts_together space (end_of r)) ∙ result_back r.result (ltb-true r.result 3 s.result)

  pub rule_reads_back : read_rule (spell_rule r) ≡ r
  unfolding read_rule
  rule_reads_back =
      ap (λ (l : List ℕ). rule_of (words_of l)) (spell_is r) ∙ ap with_holders holders ∙ ap (with_accesses r.holders) accesses ∙ ap (with_origins r.holders r.accesses) origins
      ∙ (λ i. record { holders = r.holders; accesses = r.accesses; origins = r.origins; result = result i })

-- ---- what is read is spelled

-- words are left behind an expected one only where it was there
behind_is : (w : List ℕ) (words : List (List ℕ)) → 0 < length (behind w words) → (flat words ≡ w ++ flat (behind w words)) × (0 < length words)
unfolding behind flat_map
behind_is w [] h = absurd (omega arith)
behind_is w (v ∷ words) h = go (same v w) refl h
  where
    go : (b : Bool) → same v w ≡ b → 0 < length (cond b words []) → (v ++ flat words ≡ w ++ flat (cond b words [])) × (0 < suc (length words))
    go true e h = (ap (λ (l : List ℕ). l ++ flat words) (same_true v w e), omega arith)
    go false e h = absurd (omega arith)

-- and behind a bracket only where it lists words of its own
record Bracketed (own words : List (List ℕ)) (l : Listed) : Type 0 where
  text : bytes " " ++ flat words ≡ spell_words own l.numbers ++ (bytes ") " ++ flat l.rest)
  below : Below (length own) l.numbers
  some : ltb 0 (length l.numbers) ≡ true
  began : 0 < length words

-- one word more, of those that the bracket goes on behind, or the last
module _ (own : List (List ℕ)) (w : List ℕ) (words : List (List ℕ)) where
  abbrev n : ℕ
  n = number_among (inside own) w

  abbrev m : ℕ
  m = number_among (closing own) w

  goes_on : {l : Listed} → ltb n (length own) ≡ true → Bracketed own words l → Bracketed own (w ∷ words) (listed_of (n ∷ l.numbers) l.rest)
  unfolding spell_words flat_map
  goes_on {l} e b =
      let v = word_at own n in
      let rest = bytes ") " ++ flat l.rest in
      record {
        text = ap (λ (x : List ℕ). bytes " " ++ (x ++ flat words)) (ended_is own (bytes " ") w (ltb-true n (length own) e))
            ∙ ap (λ (x : List ℕ). bytes " " ++ x) (append_assoc v (bytes " ") (flat words) ∙ ap (λ (x : List ℕ). v ++ x) b.text ∙ sym (append_assoc v (spell_words own l.numbers) rest));
        below = (e, b.below);
        some = lt-ltb 0 (length (n ∷ l.numbers)) (omega arith);
        began = omega arith;
      }

  closes : ltb m (length own) ≡ true → Bracketed own (w ∷ words) (listed_of (m ∷ []) words)
  unfolding spell_words flat_map
  closes e =
      let v = word_at own m in
      record {
        text = ap (λ (x : List ℕ). bytes " " ++ (x ++ flat words)) (ended_is own (bytes ") ") w (ltb-true m (length own) e))
            ∙ ap (λ (x : List ℕ). bytes " " ++ x) (append_assoc v (bytes ") ") (flat words) ∙ ap (λ (x : List ℕ). x ++ (bytes ") " ++ flat words)) (sym (append-nil v)));
        below = (e, tt);
        some = lt-ltb 0 1 (omega arith);
        began = omega arith;
      }

listed_is : (own words : List (List ℕ)) → 0 < length (listed own words).rest → Bracketed own words (listed own words)
unfolding listed
listed_is own [] h = absurd (omega arith)
listed_is own (w ∷ words) h = go (ltb (number_among (inside own) w) (length own)) (ltb (number_among (closing own) w) (length own)) refl refl h (listed_is own words)
  where
    more : Listed
    more = listed own words

    n : ℕ
    n = number_among (inside own) w

    m : ℕ
    m = number_among (closing own) w

    go : (x y : Bool) → ltb n (length own) ≡ x → ltb m (length own) ≡ y
        → 0 < length (cond x (listed_of (n ∷ more.numbers) more.rest) (cond y (listed_of (m ∷ []) words) (listed_of [] []))).rest
        → (0 < length more.rest → Bracketed own words more)
        → Bracketed own (w ∷ words) (cond x (listed_of (n ∷ more.numbers) more.rest) (cond y (listed_of (m ∷ []) words) (listed_of [] [])))
    go true y e f h ih = goes_on own w words e (ih h)
    go false true e f h ih = closes own w words f
    go false false e f h ih = absurd (omega arith)

-- a bracket with its opening word, of which o is all but the space
record Opened (o : List ℕ) (own words : List (List ℕ)) (l : Listed) : Type 0 where
  text : flat words ≡ o ++ (spell_words own l.numbers ++ (bytes ") " ++ flat l.rest))
  below : Below (length own) l.numbers
  some : ltb 0 (length l.numbers) ≡ true
  began : 0 < length words

opened : (o : List ℕ) (own words : List (List ℕ)) → 0 < length (listed own (behind (o ++ bytes " ") words)).rest → Opened o own words (listed own (behind (o ++ bytes " ") words))
opened o own words h =
    let l = listed_is own (behind (o ++ bytes " ") words) h in
    let b = behind_is (o ++ bytes " ") words l.began in
    record {
      text = b.0 ∙ append_assoc o (bytes " ") (flat (behind (o ++ bytes " ") words)) ∙ ap (λ (x : List ℕ). o ++ x) l.text;
      below = l.below;
      some = l.some;
      began = b.1;
    }

-- the last words of a rule
result_some : (words : List (List ℕ)) → ltb (result_of words) 3 ≡ true → 0 < length words
unfolding flat_map number_among same
result_some [] h = clash h refl
result_some (w ∷ words) h = omega arith

module _ (line : List ℕ) where
  abbrev after_rule : List (List ℕ)
  after_rule = behind (bytes "(rule ") (words_of line)

  abbrev holders_in : Listed
  holders_in = listed holder_words (behind (bytes "(holder ") after_rule)

  abbrev accesses_in : Listed
  accesses_in = listed access_words (behind (bytes "(access ") holders_in.rest)

  abbrev origins_in : Listed
  origins_in = listed origin_words (behind (bytes "(from ") accesses_in.rest)

  pub read_is_spelling : is_rule (read_rule line) ≡ true → (line ≡ spell_rule (read_rule line)) × Spelled (read_rule line)
  unfolding read_rule
  read_is_spelling h =
      let o = opened (bytes "(from") origin_words accesses_in.rest (result_some origins_in.rest h) in
      let a = opened (bytes "(access") access_words holders_in.rest o.began in
      let hs = opened (bytes "(holder") holder_words after_rule a.began in
      let first = behind_is (bytes "(rule ") (words_of line) hs.began in
      let last = ended_is result_words (bytes ")\n") (flat origins_in.rest) (ltb-true (result_of origins_in.rest) 3 h) in
      let ss = spell_words holder_words holders_in.numbers in
      let xs = spell_words access_words accesses_in.numbers in
      let os = spell_words origin_words origins_in.numbers in (
        sym (parts_together space line) ∙ first.0 ∙ ap (λ (x : List ℕ). bytes "(rule " ++ x) hs.text
            ∙ ap (λ (x : List ℕ). bytes "(rule (holder" ++ (ss ++ (bytes ") " ++ x))) a.text
            ∙ ap (λ (x : List ℕ). bytes "(rule (holder" ++ (ss ++ (bytes ") (access" ++ (xs ++ (bytes ") " ++ x))))) o.text
            ∙ ap (λ (x : List ℕ). bytes "(rule (holder" ++ (ss ++ (bytes ") (access" ++ (xs ++ (bytes ") (from" ++ (os ++ (bytes ") " ++ x))))))) last
            ∙ sym (spell_is (rule_of (words_of line))),
        record {
          holders = hs.below;
          accesses = a.below;
          origins = o.below;
          result = h;
          some_holder = hs.some;
          some_access = a.some;
          some_origin = o.some;
        },
      )

-- ---- so it has one meaning

-- two rules with one spelling are equal
pub one_spelling : (r q : Rule) → Spelled r → Spelled q → spell_rule r ≡ spell_rule q → r ≡ q
one_spelling r q s t e = sym (rule_reads_back r s) ∙ ap read_rule e ∙ rule_reads_back q t

-- a line that is no rule is the spelling of none
pub misspelt_is_none : (line : List ℕ) → is_rule (read_rule line) ≡ false → (r : Rule) → Spelled r → line ≡ spell_rule r → ⊥
misspelt_is_none line h r s e = clash s.result (ap is_rule (sym (ap read_rule e ∙ rule_reads_back r s)) ∙ h)

-- ---- the spelling is one line

words_plain_lem : (own : List (List ℕ)) → ((n : ℕ) → Plain (word_at own n)) → (ns : List ℕ) → Plain (spell_words own ns)
unfolding spell_words parts_of push class_of
words_plain_lem own plain [] e ends t = ends t
words_plain_lem own plain (n ∷ ns) e ends t =
    rw (append_assoc (word_at own n) (spell_words own ns) e) (ap (push 32) (plain n (spell_words own ns ++ e) (words_plain_lem own plain ns e ends) t))

-- the pieces between them
opening_plain : Plain (bytes "(rule (holder")
unfolding parts_of push class_of
opening_plain e ends t = rw (ends t)

access_begins : Plain (bytes ") (access")
unfolding parts_of push class_of
access_begins e ends t = rw (ends t)

from_begins : Plain (bytes ") (from")
unfolding parts_of push class_of
from_begins e ends t = rw (ends t)

result_begins : Plain (bytes ") ")
unfolding parts_of push class_of
result_begins e ends t = rw (ends t)

line_ends : Ends (bytes ")\n")
unfolding parts_of push class_of
line_ends t = refl

module _ (r : Rule) where
  result_ends : Ends (bytes ") " ++ end_of r)
  result_ends = result_begins (end_of r) (result_plain r.result (bytes ")\n") line_ends)

  from_ends : Ends (bytes ") (from" ++ from_of r)
  from_ends = from_begins (from_of r) (words_plain_lem origin_words origin_plain r.origins (bytes ") " ++ end_of r) result_ends)

  access_ends : Ends (bytes ") (access" ++ access_of r)
  access_ends = access_begins (access_of r) (words_plain_lem access_words access_plain r.accesses (bytes ") (from" ++ from_of r) from_ends)

  whole_ends : Ends (bytes "(rule (holder" ++ holder_of r)
  whole_ends = opening_plain (holder_of r) (words_plain_lem holder_words holder_plain r.holders (bytes ") (access" ++ access_of r) access_ends)

  -- no newline stands inside it, so the lines of a text that begins with it are that and the lines of the rest
  pub line_is_one : (rest : List ℕ) → lines_of (spell_rule r ++ rest) ≡ spell_rule r ∷ lines_of rest
  line_is_one rest = ap (λ (l : List ℕ). lines_of (l ++ rest)) (spell_is r) ∙ whole_ends rest ∙ ap (λ (l : List ℕ). l ∷ lines_of rest) (sym (spell_is r))
