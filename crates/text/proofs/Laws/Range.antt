-- Events in range: the longest line of one has 75 bytes, and 86 with a written name, where that of a create has 65 and 76; and what is guessed of a
-- line by a domain is one in range.
-- Assumes nothing.
use Rattle.std.specs.Prelude.{None, Option, Some}
use mathlib.Core.Path.{◌≡◌, refl}
use mathlib.Core.Bool.{Bool, true, false, cond}
use mathlib.Core.List.{List, [], ◌∷◌, ◌++◌}
use Prim.Native.Nat.{ℕ, zero, suc, ◌+◌, ◌*◌, ◌^◌, ◌≤◌, ◌<◌}
use native.Mathlib.Omega.{arith}
use lib.Dec.{eqb}
use lib.ListN.{length, get_or, drop, length-append}
use Rattle.text.specs.Line.{after_space}
use Rattle.text.specs.Decimal.{number_of}
use Rattle.text.specs.Mask.{mask_word, hex_of, mask_at}
use Rattle.text.specs.Event.{bytes, spaced, right_word, kind_word, fresh_word, front, back, ending, span_numbers, written_numbers, form, spell, writes_name, has_spelling, Below32, InRange}
use Rattle.text.specs.Read.{kind_of, fresh_at, new_name_of, from_name, create_of, borrow_of, guess}
use Rattle.text.specs.declared.spelling.Spelling.{Spelling}
use Rattle.text.specs.declared.spelling.Spelling.TheVariants.{Plain, Named}
use Rattle.text.proofs.Laws.Digits.{decimal_short}
use Rattle.text.proofs.Laws.Number.{number_of_small}
use Rattle.text.proofs.Laws.Masks.{length_hex, hex_of_small, mask_fits}
use Rattle.text.proofs.Laws.Words.{either}
use Rattle.text.proofs.Laws.Acting.{around_short}
use Rattle.text.proofs.Laws.Terms.{root_terms_lem, child_terms_lem}
use Rattle.model.proofs.Offered.{and_both, clash}
use Rattle.model.specs.Table.{is_domain}
use Rattle.model.specs.declared.Name.{Name}
use Rattle.model.specs.declared.Span.{Span}
use Rattle.model.specs.declared.Terms.{Terms}
use Rattle.model.specs.declared.Event.{Event}
use Rattle.model.specs.declared.Event.TheVariants.{Create, Borrow, Read, Write, Drop}

spaced_short : (ns : List ℕ) → Below32 ns → length (spaced ns) ≤ 11 * length ns
unfolding spaced
spaced_short [] h = omega arith
spaced_short (n ∷ ns) h = simp length-append (omega (arith, decimal_short n h.0, spaced_short ns h.1))

pub line_short : (f w ns e : List ℕ) → Below32 ns → length (f ++ (w ++ (spaced ns ++ e))) ≤ length f + length w + 11 * length ns + length e
line_short f w ns e h = simp length-append (omega (arith, spaced_short ns h))

-- the ending of a line with a right, a kind, a mark and a mask: the right's word has 3 bytes, the kind's at most 5, the mark's at most 6, and the
-- mask's at most 17
pub right_length : (r : ℕ) → length (right_word r) ≡ 3
right_length r = either (λ s. length s ≡ 3) (eqb r 1) _ _ refl refl

pub kind_short : (k : ℕ) → length (kind_word k) ≤ 5
kind_short k =
    let short : List ℕ → Type 0 = λ s. length s ≤ 5 in
    either short (eqb k 0) _ _ (omega arith) (either short (eqb k 1) _ _ (omega arith) (omega arith))

pub fresh_short : (m : ℕ) → length (fresh_word m) ≤ 6
fresh_short m = either (λ s. length s ≤ 6) (eqb m 1) _ _ (omega arith) (omega arith)

pub mask_short : (maker mask : ℕ) → length (mask_word maker mask) ≤ 17
mask_short maker mask = either (λ s. length s ≤ 17) (eqb mask (2 ^ maker)) _ _ (omega arith) (omega (arith, length_hex 16 mask))

pub ending_length : (actor : ℕ) (r : Terms)
    → length (ending actor r) ≡ 3 + length (kind_word r.kind) + length (fresh_word r.fresh) + length (mask_word actor r.holders) + length (back actor)
ending_length actor r = simp length-append (omega (arith, right_length r.right))

-- the longest line of each spelling
abbrev pub longest : Spelling → ℕ
longest Plain = 75
longest Named = 86

pub longest_within : (k : Spelling) → (75 ≤ longest k) × (longest k ≤ 86)
longest_within Plain = (omega arith, omega arith)
longest_within Named = (omega arith, omega arith)

-- a written name is one number more, of 10 digits and a space
name_length : (k : Spelling) (w : Option Name) → writes_name k w ≡ true → 75 + 11 * length (written_numbers w) ≡ longest k
unfolding writes_name
name_length Plain None h = refl
name_length Plain (Some x) h = clash h refl
name_length Named None h = clash h refl
name_length Named (Some x) h = refl

module _ (k : Spelling) (actor : ℕ) where
  -- that of a create has 10 bytes less
  pub create_short : (w : Option Name) (s : Span) (r : Terms) → has_spelling k actor (Create w s r) ≡ true → InRange (Create w s r)
      → length (spell actor (Create w s r)) + 10 ≤ longest k
  unfolding spell form has_spelling
  create_short w s r h b =
      let ns = span_numbers s in
      let t = root_terms_lem k actor w s r h in
      let none : length (kind_word r.kind) ≡ 0 = rw t.kind in
      let line = line_short (front actor) (bytes "(create") (written_numbers w ++ ns) (ending actor r) b.0 in
      let named = name_length k w (and_both (writes_name k w) _ h).0 in
      omega (arith, ending_length actor r, fresh_short r.fresh, mask_short actor r.holders, around_short actor t.domain, length-append (written_numbers w) ns)

  pub borrow_short : (w : Option Name) (n : Name) (s : Span) (r : Terms) → has_spelling k actor (Borrow w n s r) ≡ true → InRange (Borrow w n s r)
      → length (spell actor (Borrow w n s r)) ≤ longest k
  unfolding spell form has_spelling
  borrow_short w n s r h b =
      let ns = n.0 ∷ span_numbers s in
      let t = child_terms_lem k actor w s r n h in
      let none : length (fresh_word r.fresh) ≡ 0 = rw t.fresh in
      let line = line_short (front actor) (bytes "(borrow") (written_numbers w ++ ns) (ending actor r) b.0 in
      let named = name_length k w (and_both (writes_name k w) _ h).0 in
      omega (arith, ending_length actor r, kind_short r.kind, mask_short actor r.holders, around_short actor t.domain, length-append (written_numbers w) ns)

  -- the others have at most 49
  other_short : is_domain actor ≡ true → (w ns : List ℕ) → length w ≤ 6 → length ns ≤ 3 → Below32 ns
      → length (front actor ++ (w ++ (spaced ns ++ back actor))) ≤ longest k
  other_short h w ns short few b = omega (arith, (longest_within k).0, line_short (front actor) w ns (back actor) b, around_short actor h)

  pub spell_short : (e : Event) → has_spelling k actor e ≡ true → InRange e → length (spell actor e) ≤ longest k
  unfolding spell form has_spelling
  spell_short (Create w s r) h b = omega (arith, create_short w s r h b)
  spell_short (Borrow w n s r) h b = borrow_short w n s r h b
  spell_short (Read n s) h b = other_short h (bytes "(read") (n.0 ∷ span_numbers s) (omega arith) (omega arith) b
  spell_short (Write n s) h b = other_short h (bytes "(write") (n.0 ∷ span_numbers s) (omega arith) (omega arith) b
  spell_short (Drop n) h b = other_short h (bytes "(drop") (n.0 ∷ []) (omega arith) (omega arith) b

pick : (P : Event → Type 0) (b : Bool) (x y : Event) → P x → P y → P (cond b x y)
pick P true x y hx hy = hx
pick P false x y hx hy = hy

-- the next n words of a text, as numbers
abbrev words : ℕ → List ℕ → List ℕ
words zero t = []
words (suc n) t = number_of (after_space t) ∷ words n (after_space t)

words_in_range : (n : ℕ) (t : List ℕ) → Below32 (words n t)
words_in_range zero t = tt
words_in_range (suc n) t = (number_of_small (after_space t), words_in_range n (after_space t))

new_in_range : (k : Spelling) (t ns : List ℕ) → Below32 ns → Below32 (written_numbers (new_name_of k t) ++ ns)
new_in_range Plain t ns h = h
new_in_range Named t ns h = (number_of_small t, h)

-- a mask that is found is one of 64 bits
mask_in_range : (actor : ℕ) → actor < 64 → (s : List ℕ) (k : ℕ) → mask_at actor s k < 2 ^ 64
mask_in_range actor h s k = go (eqb (get_or s k 0) 32)
  where
    go : (t : Bool) → cond t (hex_of (drop (suc k) s)) (2 ^ actor) < 2 ^ 64
    go true = hex_of_small (drop (suc k) s)
    go false = mask_fits actor h

create_in_range : (k : Spelling) (actor : ℕ) → actor < 64 → (t : List ℕ) → InRange (create_of k actor t)
create_in_range k actor h t =
    let right = after_space (after_space (after_space t)) in
    (new_in_range k t _ (words_in_range 2 t), mask_in_range actor h right (2 + length (fresh_word (fresh_at right 4))))

borrow_in_range : (k : Spelling) (actor : ℕ) → actor < 64 → (t : List ℕ) → InRange (borrow_of k actor t)
borrow_in_range k actor h t =
    let right = after_space (after_space (after_space (after_space t))) in
    (new_in_range k t _ (words_in_range 3 t), mask_in_range actor h right (2 + length (kind_word (kind_of right))))

-- what is guessed has numbers of 32 bits and a mask of 64, whatever the line is
pub guess_in_range : (k : Spelling) (actor : ℕ) → actor < 64 → (s : List ℕ) → InRange (guess k actor s)
unfolding guess
guess_in_range k actor h s =
    pick InRange (eqb (get_or s 1 0) 99) _ _ (create_in_range k actor h (from_name k s))
    (pick InRange (eqb (get_or s 1 0) 98) _ _ (borrow_in_range k actor h (from_name k s))
    (pick InRange (eqb (get_or s 1 0) 114) _ _ (words_in_range 3 s)
    (pick InRange (eqb (get_or s 1 0) 119) _ _ (words_in_range 3 s) (words_in_range 1 s))))

-- so its line, where it has one, fits into 86 bytes
pub guess_short : (k : Spelling) (actor : ℕ) → actor < 64 → (s : List ℕ) → has_spelling k actor (guess k actor s) ≡ true → length (spell actor (guess k actor s)) ≤ 86
guess_short k actor h s spelled = omega (arith, (longest_within k).1, spell_short k actor (guess k actor s) spelled (guess_in_range k actor h s))
