-- The words of a sheet's lines are found again: each is one word of a text, and has its own number.
-- Assumes nothing.
use mathlib.Core.Path.{◌≡◌, refl, ap, ◌∙◌}
use mathlib.Core.Bool.{Bool, true, false, cond}
use mathlib.Core.List.{List, [], ◌∷◌, ◌++◌, map}
use Prim.Native.Nat.{ℕ, zero, suc, ◌<◌}
use native.Mathlib.Omega.{arith}
use lib.ListN.{length}
use Rattle.text.specs.Class.{class_of}
use Rattle.text.specs.Event.{bytes}
use Rattle.text.specs.Line.{push, parts_of, words_of}
use Rattle.text.specs.Read.{same}
use Rattle.text.proofs.Offered.{Ends, same_true}
use Rattle.sheet.specs.Words.{holder_words, access_words, origin_words, result_words, inside, closing, ending, number_among}
use Rattle.sheet.specs.Rule.{word_at}

-- ---- a word's number

-- a number below that of all words is the place of the word
pub among_is : (words : List (List ℕ)) (w : List ℕ) → number_among words w < length words → w ≡ word_at words (number_among words w)
unfolding number_among
among_is [] w h = absurd (omega arith)
among_is (v ∷ words) w h = go (same w v) refl h (among_is words w)
  where
    go : (b : Bool) → same w v ≡ b → cond b 0 (suc (number_among words w)) < suc (length words)
        → (number_among words w < length words → w ≡ word_at words (number_among words w)) → w ≡ word_at (v ∷ words) (cond b 0 (suc (number_among words w)))
    go true e h ih = same_true w v e
    go false e h ih = ih (omega arith)

-- the word at a place, with what ends it
pub mapped_at : (words : List (List ℕ)) (e : List ℕ) (n : ℕ) → n < length words → word_at (map (λ (w : List ℕ). w ++ e) words) n ≡ word_at words n ++ e
mapped_at [] e n h = absurd (omega arith)
mapped_at (v ∷ words) e zero h = refl
mapped_at (v ∷ words) e (suc n) h = mapped_at words e n (omega arith)

pub mapped_many : (words : List (List ℕ)) (e : List ℕ) → length (map (λ (w : List ℕ). w ++ e) words) ≡ length words
mapped_many [] e = refl
mapped_many (v ∷ words) e = ap suc (mapped_many words e)

pub ended_is : (words : List (List ℕ)) (e w : List ℕ) → number_among (map (λ (v : List ℕ). v ++ e) words) w < length words
    → w ≡ word_at words (number_among (map (λ (v : List ℕ). v ++ e) words) w) ++ e
ended_is words e w h =
    among_is (map (λ (v : List ℕ). v ++ e) words) w (omega (arith, mapped_many words e)) ∙ mapped_at words e (number_among (map (λ (v : List ℕ). v ++ e) words) w) h

-- ---- the words of each bracket

-- the word w, with or without the closing bracket, is one word of a text, and n is its number
pub record Known (own : List (List ℕ)) (n : ℕ) (w : List ℕ) : Type 0 where
  pub goes_on : (t : List ℕ) → words_of (w ++ (bytes " " ++ t)) ≡ (w ++ bytes " ") ∷ words_of t
  pub closes : (t : List ℕ) → words_of (w ++ (bytes ") " ++ t)) ≡ (w ++ bytes ") ") ∷ words_of t
  pub inside_is : number_among (inside own) (w ++ bytes " ") ≡ n
  pub inside_not : number_among (inside own) (w ++ bytes ") ") ≡ length own
  pub closing_is : number_among (closing own) (w ++ bytes ") ") ≡ n

abbrev pub Vocabulary : List (List ℕ) → Type 0
Vocabulary own = (n : ℕ) → n < length own → Known own n (word_at own n)

pub holders_known : Vocabulary holder_words
unfolding parts_of push class_of number_among same
holders_known zero h = record { goes_on = λ t. refl; closes = λ t. refl; inside_is = refl; inside_not = refl; closing_is = refl }
holders_known (suc zero) h = record { goes_on = λ t. refl; closes = λ t. refl; inside_is = refl; inside_not = refl; closing_is = refl }
holders_known (suc (suc zero)) h = record { goes_on = λ t. refl; closes = λ t. refl; inside_is = refl; inside_not = refl; closing_is = refl }
holders_known (suc (suc (suc n))) h = absurd (omega arith)

pub accesses_known : Vocabulary access_words
unfolding parts_of push class_of number_among same
accesses_known zero h = record { goes_on = λ t. refl; closes = λ t. refl; inside_is = refl; inside_not = refl; closing_is = refl }
accesses_known (suc zero) h = record { goes_on = λ t. refl; closes = λ t. refl; inside_is = refl; inside_not = refl; closing_is = refl }
accesses_known (suc (suc n)) h = absurd (omega arith)

pub origins_known : Vocabulary origin_words
unfolding parts_of push class_of number_among same
origins_known zero h = record { goes_on = λ t. refl; closes = λ t. refl; inside_is = refl; inside_not = refl; closing_is = refl }
origins_known (suc zero) h = record { goes_on = λ t. refl; closes = λ t. refl; inside_is = refl; inside_not = refl; closing_is = refl }
origins_known (suc (suc zero)) h = record { goes_on = λ t. refl; closes = λ t. refl; inside_is = refl; inside_not = refl; closing_is = refl }
origins_known (suc (suc (suc n))) h = absurd (omega arith)

-- the result of a line
pub result_back : (n : ℕ) → n < 3 → number_among (ending result_words) (word_at result_words n ++ bytes ")\n") ≡ n
unfolding number_among same
result_back zero h = refl
result_back (suc zero) h = refl
result_back (suc (suc zero)) h = refl
result_back (suc (suc (suc n))) h = absurd (omega arith)

-- ---- no newline in a word

-- a text that is a line by itself, whatever follows, is so with this in front of it too
abbrev pub Plain : List ℕ → Type 0
Plain w = (e : List ℕ) → Ends e → Ends (w ++ e)

pub holder_plain : (n : ℕ) → Plain (word_at holder_words n)
unfolding parts_of push class_of
holder_plain zero e ends t = rw (ends t)
holder_plain (suc zero) e ends t = rw (ends t)
holder_plain (suc (suc zero)) e ends t = rw (ends t)
holder_plain (suc (suc (suc n))) e ends t = ends t

pub access_plain : (n : ℕ) → Plain (word_at access_words n)
unfolding parts_of push class_of
access_plain zero e ends t = rw (ends t)
access_plain (suc zero) e ends t = rw (ends t)
access_plain (suc (suc n)) e ends t = ends t

pub origin_plain : (n : ℕ) → Plain (word_at origin_words n)
unfolding parts_of push class_of
origin_plain zero e ends t = rw (ends t)
origin_plain (suc zero) e ends t = rw (ends t)
origin_plain (suc (suc zero)) e ends t = rw (ends t)
origin_plain (suc (suc (suc n))) e ends t = ends t

pub result_plain : (n : ℕ) → Plain (word_at result_words n)
unfolding parts_of push class_of
result_plain zero e ends t = rw (ends t)
result_plain (suc zero) e ends t = rw (ends t)
result_plain (suc (suc zero)) e ends t = rw (ends t)
result_plain (suc (suc (suc n))) e ends t = ends t
