-- Who acts by a line, and its form, are found again; what stands around a form of a domain has at most 10 bytes.
-- Assumes nothing.
use mathlib.Core.Path.{◌≡◌, refl, sym, ap, ◌∙◌}
use mathlib.Core.Bool.{Bool, true, false, cond}
use mathlib.Core.List.{List, [], ◌∷◌, ◌++◌, append_assoc}
use Prim.Native.Nat.{ℕ, ◌+◌, ◌^◌, ◌≤◌, ◌<◌}
use native.Mathlib.Omega.{arith}
use lib.Dec.{eqb}
use lib.ListN.{length, get_or, length-append}
use borrow.Author.Tests.{eqb-true, ne_eqb, ltb-true}
use Rattle.model.specs.Table.{is_domain}
use Rattle.text.specs.Class.{class_of}
use Rattle.text.specs.Line.{through, after_space}
use Rattle.text.specs.Decimal.{decimal, number_from, number_of}
use Rattle.text.specs.Event.{bytes, front, back}
use Rattle.text.specs.Read.{actor_of, form_of}
use Rattle.text.proofs.Laws.Digits.{decimal_under}
use Rattle.text.proofs.Laws.Number.{Stops, number_decimal}
use Rattle.text.proofs.Laws.Words.{either, plain_decimal}

-- what ends a line begins with no digit
pub back_stops : (actor : ℕ) → Stops (back actor)
unfolding number_from class_of
back_stops actor = either Stops (eqb actor 0) _ _ (λ v. refl) (λ v. refl)

-- the longest are `(as 63 ` and `))` with its newline
pub around_short : (actor : ℕ) → is_domain actor ≡ true → length (front actor) + length (back actor) ≤ 10
around_short actor h =
    let short : length (decimal actor) ≤ 2 = decimal_under actor 1 (omega (arith, ltb-true actor 64 h)) in
    let before : length (front actor) ≤ 7 = either (λ s. length s ≤ 7) (eqb actor 0) _ _ (omega arith) (simp length-append (omega arith)) in
    let behind : length (back actor) ≤ 3 = either (λ s. length s ≤ 3) (eqb actor 0) _ _ (omega arith) (omega arith) in
    omega arith

-- a form that is not taken for an `as`
module _ (actor : ℕ) (small : actor < 2 ^ 32) (f : List ℕ) (other : get_or f 1 0 ≡ 97 → ⊥) where
  pub actor_back : actor_of (front actor ++ f) ≡ actor
  unfolding through class_of number_from
  actor_back = go (eqb actor 0) refl
    where
      go : (t : Bool) → eqb actor 0 ≡ t → actor_of (cond t [] (bytes "(as " ++ (decimal actor ++ bytes " ")) ++ f) ≡ actor
      go true e = rw (ne_eqb _ _ other) (sym (eqb-true actor 0 e))
      go false e = ap number_of (append_assoc (decimal actor) (bytes " ") f) ∙ number_decimal actor (32 ∷ f) small (λ v. refl)

  pub form_back : form_of (front actor ++ f) ≡ f
  unfolding through class_of
  form_back = go (eqb actor 0)
    where
      go : (t : Bool) → form_of (cond t [] (bytes "(as " ++ (decimal actor ++ bytes " ")) ++ f) ≡ f
      go true = rw (ne_eqb _ _ other)
      go false = ap after_space (append_assoc (decimal actor) (bytes " ") f) ∙ plain_decimal actor (32 ∷ f)
