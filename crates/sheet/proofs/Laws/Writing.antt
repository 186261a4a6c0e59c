-- A sheet's lines as they are written, piece by piece and line by line.
-- Assumes nothing.
use Rattle.std.specs.Prelude.{Result}
use Rattle.model.specs.declared.Refusal.{Refusal}
use mathlib.Core.Path.{◌≡◌, refl, sym, ap, subst, ◌∙◌}
use mathlib.Core.Bool.{true}
use mathlib.Core.List.{List, [], ◌∷◌, ◌++◌, append_assoc, append-nil, flat_map}
use Prim.Native.Nat.{ℕ, zero, suc, ◌+◌, ◌*◌, ◌≤◌, min}
use native.Mathlib.Numerals.{add-one}
use native.Mathlib.Omega.{arith}
use lib.ListN.{length, get_or, take, length-append}
use Rattle.text.specs.Event.{bytes}
use Rattle.text.specs.Put.{Put}
use Rattle.text.specs.Write.{Writes, outcome}
use Rattle.text.proofs.Offered.{put_two, writes_put, wrote}
use Rattle.sheet.specs.Words.{holder_words, access_words, origin_words, result_words}
use Rattle.sheet.specs.Rule.{word_at, spell_words, spell_rule}
use Rattle.sheet.specs.Rules.{holder_at, access_at, origin_at}
use Rattle.sheet.specs.Writing.{front_at}
use Rattle.sheet.specs.WriteSheet.{rule_with, sheet_text, write_sheet}

-- ---- the line of one combination

-- its pieces, behind its front
abbrev pub pieces : List ℕ → List ℕ → List ℕ → List ℕ
pieces front o r = front ++ (bytes ") (from " ++ (o ++ (bytes ") " ++ (r ++ bytes ")\n"))))

abbrev pub line_pieces : ℕ → ℕ → List ℕ
line_pieces p b = pieces (front_at p) (word_at origin_words (origin_at p)) (word_at result_words (min b 2))

-- a word with the end of its list behind it, a bracket, and more
word_closed : (w s t : List ℕ) → ((w ++ []) ++ s) ++ t ≡ w ++ (s ++ t)
word_closed w s t = ap (λ (l : List ℕ). (l ++ s) ++ t) (append-nil w) ∙ append_assoc w s t

pub line_pieces_lem : (p b : ℕ) → spell_rule (rule_with p b) ≡ line_pieces p b
unfolding spell_rule spell_words front_at
line_pieces_lem p b =
    let h = word_at holder_words (holder_at p) in
    let a = word_at access_words (access_at p) in
    let o = word_at origin_words (origin_at p) in
    let rest = bytes ") (from " ++ (o ++ (bytes ") " ++ (word_at result_words (min b 2) ++ bytes ")\n"))) in
    rw (word_closed h, word_closed a, word_closed o, append_assoc h (bytes ") (access " ++ a) rest)

-- ---- how long it is

pub front_long : (p : ℕ) → length (front_at p) ≡ 24 + length (word_at holder_words (holder_at p)) + length (word_at access_words (access_at p))
unfolding front_at
front_long p = simp length-append (omega arith)

holder_long : (n : ℕ) → length (word_at holder_words n) ≤ 9
holder_long zero = omega arith
holder_long (suc zero) = omega arith
holder_long (suc (suc zero)) = omega arith
holder_long (suc (suc (suc n))) = omega arith

access_long : (n : ℕ) → length (word_at access_words n) ≤ 5
access_long zero = omega arith
access_long (suc zero) = omega arith
access_long (suc (suc n)) = omega arith

origin_long : (n : ℕ) → length (word_at origin_words n) ≤ 8
origin_long zero = omega arith
origin_long (suc zero) = omega arith
origin_long (suc (suc zero)) = omega arith
origin_long (suc (suc (suc n))) = omega arith

result_long : (n : ℕ) → length (word_at result_words n) ≤ 5
result_long zero = omega arith
result_long (suc zero) = omega arith
result_long (suc (suc zero)) = omega arith
result_long (suc (suc (suc n))) = omega arith

pub line_long : (p b : ℕ) → length (spell_rule (rule_with p b)) ≡ 12 + length (front_at p) + length (word_at origin_words (origin_at p)) + length (word_at result_words (min b 2))
line_long p b = ap length (line_pieces_lem p b) ∙ simp length-append (omega arith)

pub line_most : (p b : ℕ) → length (spell_rule (rule_with p b)) ≤ 63
line_most p b = omega (arith, line_long p b, front_long p, holder_long (holder_at p), access_long (access_at p), origin_long (origin_at p), result_long (min b 2))

-- ---- the lines of the first combinations

abbrev up_to : ℕ → List ℕ
up_to zero = []
up_to (suc n) = up_to n ++ (n ∷ [])

abbrev pub line_in : List ℕ → ℕ → List ℕ
line_in sheet p = spell_rule (rule_with p (get_or sheet p 0))

pub lines_before : List ℕ → ℕ → List ℕ
lines_before sheet n = flat_map (line_in sheet) (up_to n)

flat_append : (f : ℕ → List ℕ) (l m : List ℕ) → flat_map f (l ++ m) ≡ flat_map f l ++ flat_map f m
unfolding flat_map
flat_append f [] m = refl
flat_append f (x ∷ l) m = ap (λ (t : List ℕ). f x ++ t) (flat_append f l m) ∙ sym (append_assoc (f x) (flat_map f l) (flat_map f m))

pub lines_none : (sheet : List ℕ) → lines_before sheet 0 ≡ []
unfolding lines_before flat_map
lines_none sheet = refl

pub lines_more : (sheet : List ℕ) (n : ℕ) → lines_before sheet (n + 1) ≡ lines_before sheet n ++ line_in sheet n
unfolding lines_before flat_map
lines_more sheet n =
    rw (add-one n) (flat_append (line_in sheet) (up_to n) (n ∷ []) ∙ ap (λ (t : List ℕ). lines_before sheet n ++ t) (append-nil (line_in sheet n)))

pub lines_all : (sheet : List ℕ) → lines_before sheet 18 ≡ sheet_text sheet
unfolding sheet_text lines_before flat_map
lines_all sheet = refl

-- the lines of the first combinations stand at the first bytes of a buffer, and the writer behind them
pub record Lines (sheet out : List ℕ) (n : ℕ) (now : List ℕ) (at : ℕ) : Type 0 where
  pub put : Put out 0 (lines_before sheet n) now at
  pub most : at ≤ 63 * n

pub lines_begin : (sheet out : List ℕ) → Lines sheet out 0 out 0
lines_begin sheet out = record { put = rw (lines_none sheet) (record { moved = refl; stored = refl }); most = omega arith }

pub lines_next : {sheet out now after : List ℕ} {n at next : ℕ} → Lines sheet out n now at → Put now at (line_in sheet n) after next → Lines sheet out (n + 1) after next
lines_next {sheet} {out} {now} {after} {n} {at} {next} l p =
    record {
      put = rw (lines_more sheet n) (put_two l.put p);
      most = omega (arith, l.most, p.moved, line_most n (get_or sheet n 0));
    }

pub lines_end : {sheet out now : List ℕ} {n at : ℕ} → n ≡ 18 → Lines sheet out n now at → Put out 0 (sheet_text sheet) now at × (at ≤ 1134)
lines_end {sheet} {out} {now} {n} {at} e l =
    (subst (λ (s : List ℕ). Put out 0 s now at) (ap (lines_before sheet) e ∙ lines_all sheet) l.put, omega (arith, l.most))

-- ---- the public call

-- `Writes` of a sheet's text is its promise
pub sheet_written : (sheet : List ℕ) {out after : List ℕ} {r : Result ℕ Refusal} → Writes true (sheet_text sheet) out after r → outcome r after ≡ write_sheet sheet out
unfolding write_sheet
sheet_written sheet w = λ i. record { answer = w.answer i; buffer = w.buffer i }

-- a text that stands at the first bytes of a buffer is their first
pub front_is : {s out after : List ℕ} {r : ℕ} → Put out 0 s after r → r ≤ length out → take r after ≡ s
front_is {s} {out} {after} {r} p h = (wrote r (writes_put p (omega (arith, p.moved))) refl).front
