-- What is written is read back: a sheet's text is a sheet, and the same one.
-- Assumes nothing.
use mathlib.Core.Path.{◌≡◌, refl, sym, ap, ap₂, ◌∙◌}
use mathlib.Core.Bool.{true, false, not}
use mathlib.Core.List.{List, [], ◌∷◌, map, flat_map}
use Prim.Native.Nat.{ℕ, zero, suc, ◌<◌, min}
use native.Mathlib.Omega.{arith}
use lib.Dec.{ltb}
use lib.ListN.{get_or, take}
use borrow.Author.Tests.{lt-ltb, ltb-true}
use Rattle.model.specs.Lists.{any, all}
use Rattle.model.proofs.Offered.{All, and_both}
use Rattle.table.specs.Sheets.{effect_in, sheet_in, weight, bytes_of}
use Rattle.text.specs.Line.{parts_of}
use Rattle.text.specs.Result.{value}
use Rattle.text.proofs.Offered.{wrote}
use Rattle.sheet.specs.Rule.{Rule, is_rule, spell_rule, Spelled}
use Rattle.sheet.specs.Rules.{places, holder_at, access_at, origin_at, times, given_by, given, judge_rules, result_given, bytes_given}
use Rattle.sheet.specs.ReadSheet.{rules_in, judge_text}
use Rattle.sheet.specs.WriteSheet.{rule_with, sheet_text, write_sheet}
use Rattle.sheet.proofs.Laws.OneSpelling.{rule_reads_back, line_is_one}

-- ---- each line is read as its rule

min_small : (b : ℕ) → ltb (min b 2) 3 ≡ true
min_small b = lt-ltb (min b 2) 3 (omega arith)

with_spelled : (p b : ℕ) → p < 18 → Spelled (rule_with p b)
with_spelled p b h =
    record {
      holders = (lt-ltb (holder_at p) 3 (omega arith), tt);
      accesses = (lt-ltb (access_at p) 2 (omega arith), tt);
      origins = (lt-ltb (origin_at p) 3 (omega arith), tt);
      result = min_small b;
      some_holder = refl;
      some_access = refl;
      some_origin = refl;
    }

below_all : (k : ℕ) (ps : List ℕ) → all (λ p. ltb p k) ps ≡ true → All (λ p. p < k) ps
below_all k [] h = tt
below_all k (p ∷ ps) h = let b = and_both (ltb p k) (all (λ p. ltb p k) ps) h in (ltb-true p k b.0, below_all k ps b.1)

-- a byte above 1 is the same as 2
effect_most : (b : ℕ) → effect_in (min b 2) ≡ effect_in b
effect_most zero = refl
effect_most (suc zero) = refl
effect_most (suc (suc b)) = let e : min (suc (suc b)) 2 ≡ 2 = omega arith in rw e

module _ (sheet : List ℕ) where
  abbrev rule : ℕ → Rule
  rule p = rule_with p (get_or sheet p 0)

  rules_back : (ps : List ℕ) → All (λ p. p < 18) ps → rules_in (flat_map (λ p. spell_rule (rule p)) ps) ≡ map rule ps
  unfolding flat_map parts_of
  rules_back [] h = refl
  rules_back (p ∷ ps) h =
      rw (line_is_one (rule p) (flat_map (λ p. spell_rule (rule p)) ps))
      (ap₂ (λ (x : Rule) (l : List Rule). x ∷ l) (rule_reads_back (rule p) (with_spelled p (get_or sheet p 0) h.0)) (rules_back ps h.1))

  pub sheet_rules : rules_in (sheet_text sheet) ≡ map rule places
  unfolding sheet_text
  sheet_rules = rules_back places (below_all 18 places refl)

  -- ---- and they are a sheet

  all_rules : (ps : List ℕ) → any (λ r. not (is_rule r)) (map rule ps) ≡ false
  all_rules [] = refl
  all_rules (p ∷ ps) = rw (min_small (get_or sheet p 0)) (all_rules ps)

  judged : judge_rules (map rule places) ≡ 0
  unfolding judge_rules given given_by times
  judged = rw (all_rules places)

  pub sheet_bytes : bytes_given (map rule places) ≡ map (λ p. min (get_or sheet p 0) 2) places
  unfolding result_given given_by times
  sheet_bytes = refl

  sheet_same : sheet_in (map (λ p. min (get_or sheet p 0) 2) places) ≡ sheet_in sheet
  unfolding sheet_in
  sheet_same =
      rw (
        effect_most (get_or sheet 0 0),
        effect_most (get_or sheet 1 0),
        effect_most (get_or sheet 2 0),
        effect_most (get_or sheet 3 0),
        effect_most (get_or sheet 4 0),
        effect_most (get_or sheet 5 0),
        effect_most (get_or sheet 6 0),
        effect_most (get_or sheet 7 0),
        effect_most (get_or sheet 8 0),
        effect_most (get_or sheet 9 0),
        effect_most (get_or sheet 10 0),
        effect_most (get_or sheet 11 0),
        effect_most (get_or sheet 12 0),
        effect_most (get_or sheet 13 0),
        effect_most (get_or sheet 14 0),
        effect_most (get_or sheet 15 0),
        effect_most (get_or sheet 16 0),
        effect_most (get_or sheet 17 0),
      )

  pub sheet_reads_back : (judge_text (sheet_text sheet) ≡ 0) × (sheet_in (bytes_given (rules_in (sheet_text sheet))) ≡ sheet_in sheet)
  sheet_reads_back = (ap judge_rules sheet_rules ∙ judged, ap (λ (rules : List Rule). sheet_in (bytes_given rules)) sheet_rules ∙ ap sheet_in sheet_bytes ∙ sheet_same)

  -- and so is what stands in the buffer
  pub written_reads_back : (out : List ℕ) (n : ℕ) → (write_sheet sheet out).answer ≡ value n
      → (judge_text (take n (write_sheet sheet out).buffer) ≡ 0) × (sheet_in (bytes_given (rules_in (take n (write_sheet sheet out).buffer))) ≡ sheet_in sheet)
  unfolding write_sheet
  written_reads_back out n h =
      let front = (wrote n (record { answer = sym h; buffer = refl }) refl).front in
      (ap judge_text front ∙ sheet_reads_back.0, ap (λ (s : List ℕ). sheet_in (bytes_given (rules_in s))) front ∙ sheet_reads_back.1)

-- ---- a sheet has one text, whichever bytes it has

same_text : (xs ys : List ℕ) → ((p : ℕ) → p < 18 → min (get_or xs p 0) 2 ≡ min (get_or ys p 0) 2) → sheet_text xs ≡ sheet_text ys
unfolding sheet_text flat_map
same_text xs ys h =
    rw (
      h 0 (omega arith),
      h 1 (omega arith),
      h 2 (omega arith),
      h 3 (omega arith),
      h 4 (omega arith),
      h 5 (omega arith),
      h 6 (omega arith),
      h 7 (omega arith),
      h 8 (omega arith),
      h 9 (omega arith),
      h 10 (omega arith),
      h 11 (omega arith),
      h 12 (omega arith),
      h 13 (omega arith),
      h 14 (omega arith),
      h 15 (omega arith),
      h 16 (omega arith),
      h 17 (omega arith),
    )

weight_most : (b : ℕ) → min b 2 ≡ min (weight (effect_in b)) 2
weight_most zero = refl
weight_most (suc zero) = refl
weight_most (suc (suc b)) = omega arith

weights : (bytes : List ℕ) (p : ℕ) → p < 18 → min (get_or bytes p 0) 2 ≡ min (get_or (bytes_of (sheet_in bytes)) p 0) 2
unfolding bytes_of sheet_in
weights bytes zero l = weight_most (get_or bytes 0 0)
weights bytes (suc zero) l = weight_most (get_or bytes 1 0)
weights bytes (suc (suc zero)) l = weight_most (get_or bytes 2 0)
weights bytes (suc (suc (suc zero))) l = weight_most (get_or bytes 3 0)
weights bytes (suc (suc (suc (suc zero)))) l = weight_most (get_or bytes 4 0)
weights bytes (suc (suc (suc (suc (suc zero))))) l = weight_most (get_or bytes 5 0)
weights bytes (suc (suc (suc (suc (suc (suc zero)))))) l = weight_most (get_or bytes 6 0)
weights bytes (suc (suc (suc (suc (suc (suc (suc zero))))))) l = weight_most (get_or bytes 7 0)
weights bytes (suc (suc (suc (suc (suc (suc (suc (suc zero)))))))) l = weight_most (get_or bytes 8 0)
weights bytes (suc (suc (suc (suc (suc (suc (suc (suc (suc zero))))))))) l = weight_most (get_or bytes 9 0)
weights bytes (suc (suc (suc (suc (suc (suc (suc (suc (suc (suc zero)))))))))) l = weight_most (get_or bytes 10 0)
weights bytes (suc (suc (suc (suc (suc (suc (suc (suc (suc (suc (suc zero))))))))))) l = weight_most (get_or bytes 11 0)
weights bytes (suc (suc (suc (suc (suc (suc (suc (suc (suc (suc (suc (suc zero)))))))))))) l = weight_most (get_or bytes 12 0)
weights bytes (suc (suc (suc (suc (suc (suc (suc (suc (suc (suc (suc (suc (suc zero))))))))))))) l = weight_most (get_or bytes 13 0)
weights bytes (suc (suc (suc (suc (suc (suc (suc (suc (suc (suc (suc (suc (suc (suc zero)))))))))))))) l = weight_most (get_or bytes 14 0)
weights bytes (suc (suc (suc (suc (suc (suc (suc (suc (suc (suc (suc (suc (suc (suc (suc zero))))))))))))))) l = weight_most (get_or bytes 15 0)
weights bytes (suc (suc (suc (suc (suc (suc (suc (suc (suc (suc (suc (suc (suc (suc (suc (suc zero)))))))))))))))) l = weight_most (get_or bytes 16 0)
weights bytes (suc (suc (suc (suc (suc (suc (suc (suc (suc (suc (suc (suc (suc (suc (suc (suc (suc zero))))))))))))))))) l = weight_most (get_or bytes 17 0)
weights bytes (suc (suc (suc (suc (suc (suc (suc (suc (suc (suc (suc (suc (suc (suc (suc (suc (suc (suc p)))))))))))))))))) l = absurd (omega arith)

pub text_of_sheet : (bytes : List ℕ) → sheet_text bytes ≡ sheet_text (bytes_of (sheet_in bytes))
text_of_sheet bytes = same_text bytes (bytes_of (sheet_in bytes)) (weights bytes)
