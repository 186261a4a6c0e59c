-- Laws of `guess` and `same`, and what is guessed of a create and of a borrow word by word.
-- Assumes nothing.
use Rattle.std.specs.Prelude.{Option}
use mathlib.Core.Path.{◌≡◌, refl, sym, ap, ap₂, ◌∙◌}
use mathlib.Core.Bool.{Bool, true, false, ◌&&◌}
use mathlib.Core.List.{List, [], ◌∷◌}
use Prim.Native.Nat.{ℕ, ◌+◌}
use lib.Dec.{eqb}
use lib.ListN.{length, get_or}
use Rattle.std.specs.Str.{bytes_eq}
use borrow.Author.Tests.{eqb-true, eq-eqb, ne_eqb}
use Rattle.model.proofs.Offered.{clash, and_both}
use Rattle.text.specs.Line.{after_space}
use Rattle.text.specs.Mask.{mask_at}
use Rattle.text.specs.Event.{kind_word, fresh_word}
use Rattle.text.specs.Read.{same, name_of, span_of, right_of, kind_of, fresh_at, from_name, new_name_of, create_of, borrow_of, guess}
use Rattle.text.specs.declared.spelling.Spelling.{Spelling}
use Rattle.model.specs.declared.Name.{Name}
use Rattle.model.specs.declared.Span.{Span}
use Rattle.model.specs.declared.Event.TheVariants.{Create, Borrow, Read, Write, Drop}

module _ (k : Spelling) (actor : ℕ) (s : List ℕ) where
  abbrev name : Name
  name = name_of (after_space s)

  abbrev span : Span
  span = span_of (after_space (after_space s)) (after_space (after_space (after_space s)))

  pub guess_create : get_or s 1 0 ≡ 99 → guess k actor s ≡ create_of k actor (from_name k s)
  unfolding guess
  guess_create e = rw e

  pub guess_borrow : get_or s 1 0 ≡ 98 → guess k actor s ≡ borrow_of k actor (from_name k s)
  unfolding guess
  guess_borrow e = rw e

  pub guess_read : get_or s 1 0 ≡ 114 → guess k actor s ≡ Read name span
  unfolding guess
  guess_read e = rw e

  pub guess_write : get_or s 1 0 ≡ 119 → guess k actor s ≡ Write name span
  unfolding guess
  guess_write e = rw e

  pub guess_drop : (get_or s 1 0 ≡ 99 → ⊥) → (get_or s 1 0 ≡ 98 → ⊥) → (get_or s 1 0 ≡ 114 → ⊥) → (get_or s 1 0 ≡ 119 → ⊥) → guess k actor s ≡ Drop name
  unfolding guess
  guess_drop c b r w = rw (ne_eqb _ _ c, ne_eqb _ _ b, ne_eqb _ _ r, ne_eqb _ _ w)

-- the words of a create and of a borrow, each with what it is
module _ (k : Spelling) (actor : ℕ) (t : List ℕ) {a b c : List ℕ} (first : a ≡ after_space t) (second : b ≡ after_space a) (third : c ≡ after_space b) {w : Option Name}
    (new : w ≡ new_name_of k t) where
  pub create_is : {f l m r : ℕ} {s : Span} → s ≡ span_of a b → r ≡ right_of c → f ≡ fresh_at c 4 → l ≡ length (fresh_word f) → m ≡ mask_at actor c (2 + l)
      → Create w s (record { right = r; kind = 0; fresh = f; holders = m }) ≡ create_of k actor t
  create_is span right fresh width mask = rw (new, span, right, mask, width, fresh, third, second, first)

  pub borrow_is : {d : List ℕ} {g l m r : ℕ} {n : Name} {s : Span} → d ≡ after_space c → n ≡ name_of a → s ≡ span_of b c → r ≡ right_of d → g ≡ kind_of d → l ≡ length (kind_word g)
      → m ≡ mask_at actor d (2 + l) → Borrow w n s (record { right = r; kind = g; fresh = 0; holders = m }) ≡ borrow_of k actor t
  borrow_is fourth name span right kind width mask = rw (new, name, span, right, mask, width, kind, fourth, third, second, first)

pub same_refl : (s : List ℕ) → same s s ≡ true
unfolding same
same_refl [] = refl
same_refl (a ∷ s) = rw (eq-eqb a a refl) (same_refl s)

pub same_true : (s t : List ℕ) → same s t ≡ true → s ≡ t
unfolding same
same_true [] [] h = refl
same_true [] (b ∷ t) h = clash h refl
same_true (a ∷ s) [] h = clash h refl
same_true (a ∷ s) (b ∷ t) h =
    let both = and_both (eqb a b) (same s t) h in
    ap₂ (λ (x : ℕ) (l : List ℕ). x ∷ l) (eqb-true a b both.0) (same_true s t both.1)

-- a test that tells whether two texts are equal is `same`
pub same_is : (r : Bool) (s t : List ℕ) → (r ≡ true → s ≡ t) → (s ≡ t → r ≡ true) → r ≡ same s t
same_is r s t to back = go r (same s t) refl refl
  where
    go : (x y : Bool) → r ≡ x → same s t ≡ y → r ≡ same s t
    go true y p q = cc (to p, same_refl s)
    go false true p q = p ∙ sym (sym (back (same_true s t q)) ∙ p) ∙ cc
    go false false p q = cc

-- as the test of equal elements one by one is
pub same_equal : (s t : List ℕ) → bytes_eq s t ≡ same s t
unfolding same
same_equal [] [] = refl
same_equal [] (b ∷ t) = refl
same_equal (a ∷ s) [] = refl
same_equal (a ∷ s) (b ∷ t) = ap (λ (r : Bool). eqb a b && r) (same_equal s t)
