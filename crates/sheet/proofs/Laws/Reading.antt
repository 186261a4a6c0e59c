-- Laws of reading a line of a sheet: its words by their numbers, and its brackets word by word.
-- Assumes nothing.
use mathlib.Core.Path.{◌≡◌, refl, sym, ap, ◌∙◌}
use mathlib.Core.Logic.{◌⊎◌, inl, inr}
use mathlib.Core.Bool.{Bool, true, false, cond, not, ◌&&◌}
use mathlib.Core.List.{List, [], ◌∷◌, ◌++◌, map}
use Prim.Native.Nat.{ℕ, suc, ◌+◌, ◌-◌, ◌≤◌, ◌<◌, min}
use native.Mathlib.Omega.{arith}
use lib.Dec.{eqb, ltb}
use lib.ListN.{length, get_or, set, take, drop, replicate, length-drop, length-set, get_or-replicate}
use lib.Seq.{take_all, get_or-set_same, get_or-set_other}
use borrow.Author.Tests.{ltb-true, ltb-false, eq-eqb, eqb-true, eqb-false}
use Rattle.std.proofs.Common.{Bor}
use Rattle.std.proofs.lemmas.List.{length-map}
use Rattle.std.proofs.lemmas.List.Sums.{prefix_len-le-length}
use Rattle.std.specs.List.{position, position_or_len}
use Rattle.std.specs.Option.{unwrap_or}
use Rattle.std.specs.Str.{bytes_eq}
use Rattle.model.specs.Lists.{filter, cons_if}
use Rattle.model.proofs.Offered.{test}
use Rattle.text.specs.Class.{space}
use Rattle.text.specs.Event.{bytes}
use Rattle.text.specs.Line.{next_part}
use Rattle.text.specs.Read.{same}
use Rattle.text.proofs.Offered.{parts_end, part_inside, part_then, parts_together}
use Rattle.sheet.specs.declared.words.Bracket.{Bracket}
use Rattle.sheet.specs.declared.words.Bracket.TheVariants.{Holder, Access, From}
use Rattle.sheet.specs.declared.rule.Found.{Found}
use Rattle.sheet.specs.Words.{holder_words, access_words, origin_words, result_words, inside, closing, ending, number_among}
use Rattle.sheet.specs.Rule.{Listed, listed_of, listed, behind, read_rule}
use Rattle.sheet.specs.Rules.{times}
use Rattle.sheet.specs.Reading.{words_for, code_among, word_code, words_from, Behind, Counts, Lists, Brackets, Counting}

-- ---- a word among others

-- the library's test of two texts
pub same_is_eq : (s t : List ℕ) → bytes_eq s t ≡ same s t
unfolding same
same_is_eq [] [] = refl
same_is_eq [] (b ∷ t) = refl
same_is_eq (a ∷ s) [] = refl
same_is_eq (a ∷ s) (b ∷ t) = ap (λ (e : Bool). eqb a b && e) (same_is_eq s t)

module _ (w : List ℕ) where
  abbrev is_word : Bor (List ℕ) → Bool
  is_word v = bytes_eq w v.now

  first_is : (words : List (Bor (List ℕ))) → position_or_len is_word words ≡ number_among (map (λ v. v.now) words) w
  unfolding number_among
  first_is [] = refl
  first_is (v ∷ words) = go (bytes_eq w v.now) (first_is words) ∙ ap (λ (b : Bool). cond b 0 (suc (number_among (map (λ v. v.now) words) w))) (same_is_eq w v.now)
    where
      go : (b : Bool) → position_or_len is_word words ≡ number_among (map (λ v. v.now) words) w → cond (not b) (1 + position_or_len is_word words) 0 ≡ cond b 0 (suc (number_among (map (λ v. v.now) words) w))
      go true e = refl
      go false e = omega (arith, e)

  pub found_among : (words : List (Bor (List ℕ))) (r : ℕ) → r ≡ unwrap_or (position is_word words) (length words) → (r ≡ number_among (map (λ v. v.now) words) w) × (r ≤ length words)
  found_among words r e = go (test (ltb n (length words)))
    where
      n : ℕ
      n = position_or_len is_word words

      inside_them : n ≤ length words
      inside_them = prefix_len-le-length (λ v. not (is_word v)) words

      go : (ltb n (length words) ≡ true) ⊎ (ltb n (length words) ≡ false) → (r ≡ number_among (map (λ v. v.now) words) w) × (r ≤ length words)
      go (inl t) = let is : r ≡ n = e ∙ rw t in (is ∙ first_is words, omega (arith, is, inside_them))
      go (inr f) = let is : r ≡ length words = e ∙ rw f in (omega (arith, is, inside_them, ltb-false n (length words) f, first_is words), omega (arith, is))

-- a word of a bracket by the two lists of its words
pub coded : (own : List (List ℕ)) (w : List ℕ) → code_among (inside own) (closing own) w ≡ word_code own w
unfolding word_code
coded own w = rw (length-map own (λ (v : List ℕ). v ++ bytes " "), length-map own (λ (v : List ℕ). v ++ bytes ") "))

-- ---- a word, and what is behind it

module _ (s : List ℕ) (at : ℕ) (fits : at ≤ length s) (word : List ℕ) (is : word ≡ next_part space (take (length s - at) (drop at s))) (expected : List ℕ) where
  pub behind_fits : same word expected ≡ true → Behind s at expected (at + length word)
  unfolding behind
  behind_fits e = record { fits = part_inside space s at fits word is; rest = go (test (ltb at (length s))) }
    where
      go : (ltb at (length s) ≡ true) ⊎ (ltb at (length s) ≡ false) → words_from s (at + length word) ≡ behind expected (words_from s at)
      go (inl t) = rw (part_then space s at fits word is (ltb-true at (length s) t), e)
      go (inr f) = rw (parts_end space s at (ltb-false at (length s) f), parts_end space s (at + length word) (omega (arith, ltb-false at (length s) f)))

  pub behind_other : same word expected ≡ false → Behind s at expected (length s)
  unfolding behind
  behind_other e = record { fits = omega arith; rest = parts_end space s (length s) (omega arith) ∙ go (test (ltb at (length s))) }
    where
      go : (ltb at (length s) ≡ true) ⊎ (ltb at (length s) ≡ false) → [] ≡ behind expected (words_from s at)
      go (inl t) = rw (part_then space s at fits word is (ltb-true at (length s) t), e)
      go (inr f) = rw (parts_end space s at (ltb-false at (length s) f))

-- ---- a word of a bracket, by its code

pub few : (b : Bracket) → length (words_for b) ≤ 3
few Holder = omega arith
few Access = omega arith
few From = omega arith

module _ (own : List (List ℕ)) (short : length own ≤ 3) (w : List ℕ) (words : List (List ℕ)) where
  abbrev goes : Bool
  goes = ltb (number_among (inside own) w) (length own)

  abbrev closes : Bool
  closes = ltb (number_among (closing own) w) (length own)

  word_goes : word_code own w < 3 → listed own (w ∷ words) ≡ listed_of (word_code own w ∷ (listed own words).numbers) (listed own words).rest
  unfolding word_code listed
  word_goes h = go (test goes) (test closes) h
    where
      go : (goes ≡ true) ⊎ (goes ≡ false) → (closes ≡ true) ⊎ (closes ≡ false) → word_code own w < 3 → listed own (w ∷ words) ≡ listed_of (word_code own w ∷ (listed own words).numbers) (listed own words).rest
      go (inl t) q h = rw t
      go (inr f) (inl t) h = absurd (omega (arith, rw (f, t) at h))
      go (inr f) (inr g) h = absurd (omega (arith, rw (f, g) at h))

  word_closes : 3 ≤ word_code own w → word_code own w < 6 → listed own (w ∷ words) ≡ listed_of ((word_code own w - 3) ∷ []) words
  unfolding word_code listed
  word_closes h l = go (test goes) (test closes) h l
    where
      go : (goes ≡ true) ⊎ (goes ≡ false) → (closes ≡ true) ⊎ (closes ≡ false) → 3 ≤ word_code own w → word_code own w < 6 → listed own (w ∷ words) ≡ listed_of ((word_code own w - 3) ∷ []) words
      go (inl t) q h l = absurd (omega (arith, rw t at h, ltb-true (number_among (inside own) w) (length own) t))
      go (inr f) (inl t) h l = rw (f, t) (ap (λ (k : ℕ). listed_of (k ∷ []) words) (omega arith))
      go (inr f) (inr g) h l = absurd (omega (arith, rw (f, g) at l))

  word_other : 6 ≤ word_code own w → listed own (w ∷ words) ≡ listed_of [] []
  unfolding word_code listed
  word_other h = go (test goes) (test closes) h
    where
      go : (goes ≡ true) ⊎ (goes ≡ false) → (closes ≡ true) ⊎ (closes ≡ false) → 6 ≤ word_code own w → listed own (w ∷ words) ≡ listed_of [] []
      go (inl t) q h = absurd (omega (arith, rw t at h, ltb-true (number_among (inside own) w) (length own) t))
      go (inr f) (inl t) h = absurd (omega (arith, rw (f, t) at h, ltb-true (number_among (closing own) w) (length own) t))
      go (inr f) (inr g) h = rw (f, g)

-- ---- a bracket, word by word

pub times_first : (n x : ℕ) (l : List ℕ) → times n (x ∷ l) ≡ cond (eqb n x) 1 0 + times n l
unfolding times
times_first n x l = go (eqb n x)
  where
    go : (b : Bool) → length (cons_if b x (filter (eqb n) l)) ≡ cond b 1 0 + length (filter (eqb n) l)
    go true = omega arith
    go false = omega arith

-- what is counted, with what is listed from here on, is what a bracket lists
pub record Goes (whole : Listed) (counts : List ℕ) (left : Listed) : Type 0 where
  pub long : length counts ≡ 3
  pub small : (n : ℕ) → n < 3 → get_or counts n 0 ≤ 2
  pub each : (n : ℕ) → n < 3 → min (times n whole.numbers) 2 ≡ min (get_or counts n 0 + times n left.numbers) 2
  pub rest : left.rest ≡ whole.rest

pub goes_start : (whole : Listed) → Goes whole (replicate 3 0) whole
goes_start whole = record {
  long = refl;
  small = λ n l. omega (arith, get_or-replicate {A = ℕ} 3 n 0 0 l);
  each = λ n l. rw (get_or-replicate {A = ℕ} 3 n 0 0 l) (omega arith);
  rest = refl;
}

module _ (whole : Listed) (counts : List ℕ) where
  goes_one : (numbers : List ℕ) (rest : List (List ℕ)) (k : ℕ) → k < 3 → Goes whole counts (listed_of (k ∷ numbers) rest) → Goes whole (set counts k (min (get_or counts k 0 + 1) 2)) (listed_of numbers rest)
  goes_one numbers rest k low g = record {
    long = length-set counts k more ∙ g.long;
    small = λ n l. small_at n l (test (eqb n k));
    each = λ n l. each_at n l (test (eqb n k));
    rest = g.rest;
  }
    where
      more : ℕ
      more = min (get_or counts k 0 + 1) 2

      there : get_or (set counts k more) k 0 ≡ more
      there = get_or-set_same counts k more 0 (omega (arith, g.long))

      small_at : (n : ℕ) → n < 3 → (eqb n k ≡ true) ⊎ (eqb n k ≡ false) → get_or (set counts k more) n 0 ≤ 2
      small_at n l (inl t) = rw (eqb-true n k t, there) (omega arith)
      small_at n l (inr f) = rw (get_or-set_other counts k n more 0 (eqb-false n k f)) (g.small n l)

      each_at : (n : ℕ) → n < 3 → (eqb n k ≡ true) ⊎ (eqb n k ≡ false) → min (times n whole.numbers) 2 ≡ min (get_or (set counts k more) n 0 + times n numbers) 2
      each_at n l (inl t) = rw (eqb-true n k t, there) (omega (arith, g.each k low, rw (eq-eqb k k refl) at (times_first k k numbers)))
      each_at n l (inr f) = rw (get_or-set_other counts k n more 0 (eqb-false n k f)) (omega (arith, g.each n l, rw f at (times_first n k numbers)))

  goes_end : (rest : List (List ℕ)) → Goes whole counts (listed_of [] rest) → Counts whole.numbers counts
  unfolding times
  goes_end rest g = record { long = g.long; each = λ n l. omega (arith, g.each n l, g.small n l) }

-- a bracket of a line, read up to a place
module _ (line : List ℕ) (start : ℕ) (own : List (List ℕ)) (counts : List ℕ) (at : ℕ) (g : Goes (listed own (words_from line start)) counts (listed own (words_from line at))) where
  abbrev whole : Listed
  whole = listed own (words_from line start)

  pub list_ends : at ≤ length line → length line ≤ at → Lists line start own (record { counts = counts; at = at })
  unfolding listed
  list_ends fits e = record {
    fits = fits;
    numbers = goes_end whole counts [] (rw (parts_end space line at e) at g);
    rest = parts_end space line at e ∙ (rw (parts_end space line at e) at g.rest);
  }

  -- the next word, and its code
  module _ (fits : at < length line) (word : List ℕ) (is : word ≡ next_part space (take (length line - at) (drop at line))) (code : ℕ) (coded : code ≡ word_code own word) (short : length own ≤ 3) where
    abbrev after : List (List ℕ)
    after = words_from line (at + length word)

    next : words_from line at ≡ word ∷ after
    next = part_then space line at (omega arith) word is fits

    goes_as : {l : Listed} → listed own (word ∷ after) ≡ l → Goes whole counts l
    goes_as e = rw (next, e) at g

    pub list_other : 6 ≤ code → Lists line start own (record { counts = counts; at = length line })
    list_other h =
        let now : Goes whole counts (listed_of [] []) = goes_as (word_other own short word after (omega (arith, coded))) in
        record { fits = omega arith; numbers = goes_end whole counts [] now; rest = parts_end space line (length line) (omega arith) ∙ now.rest }

    pub list_closes : 3 ≤ code → code < 6 → Lists line start own (record { counts = set counts (code - 3) (min (get_or counts (code - 3) 0 + 1) 2); at = at + length word })
    list_closes h l =
        let now : Goes whole counts (listed_of ((code - 3) ∷ []) after) = goes_as (word_closes own short word after (omega (arith, coded)) (omega (arith, coded)) ∙ ap (λ (k : ℕ). listed_of ((k - 3) ∷ []) after) (sym coded)) in
        let one : Goes whole (set counts (code - 3) (min (get_or counts (code - 3) 0 + 1) 2)) (listed_of [] after) = goes_one whole counts [] after (code - 3) (omega arith) now in
        record { fits = part_inside space line at (omega arith) word is; numbers = goes_end whole _ after one; rest = one.rest }

    pub list_goes : code < 3 → Goes whole (set counts code (min (get_or counts code 0 + 1) 2)) (listed own after)
    list_goes l =
        let now : Goes whole counts (listed_of (code ∷ (listed own after).numbers) (listed own after).rest) = goes_as (word_goes own short word after (omega (arith, coded)) ∙ ap (λ (k : ℕ). listed_of (k ∷ (listed own after).numbers) (listed own after).rest) (sym coded)) in
        goes_one whole counts (listed own after).numbers (listed own after).rest code l now

-- ---- a line

pub bracket_read : (line : List ℕ) (start : ℕ) (opening : List ℕ) (own : List (List ℕ)) (at : ℕ) (r : Found) → Behind line start opening at → Lists line at own r → Brackets line start opening own r
bracket_read line start opening own at r b l = record { fits = l.fits; numbers = rw b.rest at l.numbers; rest = rw b.rest at l.rest }

module _ (line : List ℕ) (start : ℕ) (h a o : Found) (result : ℕ) where
  pub rule_read : Behind line 0 (bytes "(rule ") start → Brackets line start (bytes "(holder ") holder_words h → Brackets line h.at (bytes "(access ") access_words a
      → Brackets line a.at (bytes "(from ") origin_words o → result ≡ number_among (ending result_words) (take (length line - o.at) (drop o.at line))
      → Counting (read_rule line) (record { holders = h.counts; accesses = a.counts; origins = o.counts; result = result })
  unfolding read_rule
  rule_read first holders accesses origins last =
      let all_left : take (length line - o.at) (drop o.at line) ≡ drop o.at line = take_all (length line - o.at) (drop o.at line) (omega (arith, length-drop o.at line)) in
      record {
        holders = rw first.rest at holders.numbers;
        accesses = rw (holders.rest, first.rest) at accesses.numbers;
        origins = rw (accesses.rest, holders.rest, first.rest) at origins.numbers;
        result = last ∙ ap (number_among (ending result_words)) (all_left ∙ sym (parts_together space (drop o.at line))) ∙ (rw (origins.rest, accesses.rest, holders.rest, first.rest));
      }
