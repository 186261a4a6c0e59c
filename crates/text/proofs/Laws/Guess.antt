-- What is guessed of the form in an event's spelling is that event: each of its words is found again.
-- Assumes nothing.
use Rattle.std.specs.Prelude.{None, Option, Some}
use mathlib.Core.Path.{◌≡◌, refl, sym, ap, ◌∙◌}
use mathlib.Core.Bool.{true}
use mathlib.Core.List.{List, [], ◌∷◌, ◌++◌}
use Prim.Native.Nat.{ℕ, ◌+◌, ◌^◌, ◌<◌}
use lib.ListN.{length, get_or}
use borrow.Author.Tests.{eqb-false}
use Rattle.text.specs.Class.{class_of}
use Rattle.text.specs.Line.{through, after_space}
use Rattle.text.specs.Decimal.{decimal}
use Rattle.text.specs.Mask.{mask_word, mask_at}
use Rattle.model.specs.Table.{is_right}
use Rattle.model.proofs.Offered.{clash}
use Rattle.text.specs.Event.{bytes, spaced, right_word, kind_word, fresh_word, back, ending, span_numbers, form, writes_name, has_spelling, Below32, InRange}
use Rattle.text.specs.Read.{name_of, span_of, right_of, kind_of, fresh_at, new_name_of, create_of, borrow_of, guess}
use Rattle.text.specs.declared.spelling.Spelling.{Spelling}
use Rattle.text.specs.declared.spelling.Spelling.TheVariants.{Plain as Unnamed, Named}
use Rattle.text.proofs.Laws.Number.{Stops}
use Rattle.text.proofs.Laws.Words.{Plain, plain_decimal, next, number_is, right_stops, right_back, kind_back, fresh_back, no_kind, no_mark, mask_behind_kind, mask_behind_mark}
use Rattle.text.proofs.Laws.Acting.{back_stops}
use Rattle.text.proofs.Laws.Terms.{RootTerms, root_terms_lem, ChildTerms, child_terms_lem}
use Rattle.text.proofs.Laws.Read.{guess_create, guess_borrow, guess_read, guess_write, guess_drop}
use Rattle.model.specs.declared.Name.{Name}
use Rattle.model.specs.declared.Span.{Span}
use Rattle.model.specs.declared.Terms.{Terms}
use Rattle.model.specs.declared.Event.{Event}
use Rattle.model.specs.declared.Event.TheVariants.{Create, Borrow, Read, Write, Drop}

-- the words of a line whose numbers are followed by e, as a name and as a span
module _ (e : List ℕ) (stop : Stops e) where
  name_is : (n : Name) (ns : List ℕ) → n.0 < 2 ^ 32 → {t : List ℕ} → t ≡ decimal n.0 ++ (spaced ns ++ e) → name_of t ≡ n
  name_is n ns h is = λ i. record { 0 = number_is e stop n.0 ns h is i }

  span_is : (s : Span) (ns : List ℕ) → s.start.0 < 2 ^ 32 → s.length < 2 ^ 32 → {t u : List ℕ} → t ≡ decimal s.start.0 ++ (spaced (s.length ∷ ns) ++ e)
      → u ≡ decimal s.length ++ (spaced ns ++ e) → span_of t u ≡ s
  span_is s ns h k one two = λ i. record { start = record { 0 = number_is e stop s.start.0 (s.length ∷ ns) h one i }; length = number_is e stop s.length ns k two i }

  module _ (w : List ℕ) (p : Plain w) (a : ℕ) where
    first : (ns : List ℕ) → after_space (w ++ (spaced (a ∷ ns) ++ e)) ≡ decimal a ++ (spaced ns ++ e)
    first ns = next e stop w p a ns

    second : (b : ℕ) (ns : List ℕ) → after_space (after_space (w ++ (spaced (a ∷ b ∷ ns) ++ e))) ≡ decimal b ++ (spaced ns ++ e)
    second b ns = ap after_space (first (b ∷ ns)) ∙ next e stop (decimal a) (plain_decimal a) b ns

    third : (b c : ℕ) (ns : List ℕ) → after_space (after_space (after_space (w ++ (spaced (a ∷ b ∷ c ∷ ns) ++ e)))) ≡ decimal c ++ (spaced ns ++ e)
    third b c ns = ap after_space (second b (c ∷ ns)) ∙ next e stop (decimal b) (plain_decimal b) c ns

ending_stops : (actor : ℕ) (r : Terms) → Stops (ending actor r)
ending_stops actor r = right_stops r.right (kind_word r.kind ++ (fresh_word r.fresh ++ (mask_word actor r.holders ++ back actor)))

-- the right, the kind, the mark and the mask behind the numbers of a create and of a borrow
module _ (actor : ℕ) (r : Terms) (small : r.holders < 2 ^ 64) {t : List ℕ} (is : t ≡ after_space (ending actor r)) where
  abbrev last : List ℕ
  last = mask_word actor r.holders ++ back actor

  right_found : is_right r.right ≡ true → right_of t ≡ r.right
  right_found h = ap right_of is ∙ right_back r.right (kind_word r.kind ++ (fresh_word r.fresh ++ last)) h

  root_back : RootTerms actor r
      → record { right = right_of t; kind = 0; fresh = fresh_at t 4; holders = mask_at actor t (2 + length (fresh_word (fresh_at t 4))) } ≡ r
  root_back f =
      let fresh : fresh_at t 4 ≡ r.fresh =
      ap (λ (k : ℕ). fresh_at t (4 + length (kind_word k))) (sym f.kind)
      ∙ ap (λ (x : List ℕ). fresh_at x (4 + length (kind_word r.kind))) is
      ∙ fresh_back last (no_mark actor r.holders) r.fresh f.fresh r.right r.kind
      in
      let plain : t ≡ after_space (right_word r.right ++ (fresh_word r.fresh ++ last)) =
      is ∙ ap (λ (k : ℕ). after_space (right_word r.right ++ (kind_word k ++ (fresh_word r.fresh ++ last)))) f.kind
      in
      let mask : mask_at actor t (2 + length (fresh_word (fresh_at t 4))) ≡ r.holders =
      ap (λ (m : ℕ). mask_at actor t (2 + length (fresh_word m))) fresh
      ∙ ap (λ (x : List ℕ). mask_at actor x (2 + length (fresh_word r.fresh))) plain
      ∙ mask_behind_mark actor r.holders small r.right r.fresh
      in
      λ i. record { right = right_found f.right i; kind = sym f.kind i; fresh = fresh i; holders = mask i }

  child_back : ChildTerms actor r
      → record { right = right_of t; kind = kind_of t; fresh = 0; holders = mask_at actor t (2 + length (kind_word (kind_of t))) } ≡ r
  child_back f =
      let plain : t ≡ after_space (right_word r.right ++ (kind_word r.kind ++ last)) =
      is ∙ ap (λ (m : ℕ). after_space (right_word r.right ++ (kind_word r.kind ++ (fresh_word m ++ last)))) f.fresh
      in
      let kind : kind_of t ≡ r.kind = ap kind_of plain ∙ kind_back last (no_kind actor r.holders) r.right r.kind f.right f.kind in
      let mask : mask_at actor t (2 + length (kind_word (kind_of t))) ≡ r.holders =
      ap (λ (k : ℕ). mask_at actor t (2 + length (kind_word k))) kind
      ∙ ap (λ (x : List ℕ). mask_at actor x (2 + length (kind_word r.kind))) plain
      ∙ mask_behind_kind actor r.holders small r.right r.kind
      in
      λ i. record { right = right_found f.right i; kind = kind i; fresh = sym f.fresh i; holders = mask i }

-- the name and the span of a line that has both
module _ (e w : List ℕ) (stop : Stops e) (plain : Plain w) (n : Name) (s : Span) (h : Below32 (n.0 ∷ span_numbers s)) where
  abbrev named : List ℕ
  named = w ++ (spaced (n.0 ∷ span_numbers s) ++ e)

  name_back : name_of (after_space named) ≡ n
  name_back = name_is e stop n _ h.0 (first e stop w plain n.0 (s.start.0 ∷ s.length ∷ []))

  span_back : span_of (after_space (after_space named)) (after_space (after_space (after_space named))) ≡ s
  span_back =
      span_is e stop s [] h.1.0 h.1.1.0 (second e stop w plain n.0 s.start.0 (s.length ∷ [])) (third e stop w plain n.0 s.start.0 s.length [])

-- a create and a borrow from their new names on, or whole: w is the new name or the word
module _ (k : Spelling) (new : Option Name) (w : List ℕ) (plain : Plain w) (actor : ℕ) (r : Terms) where
  abbrev part : List ℕ → List ℕ
  part ns = w ++ (spaced ns ++ ending actor r)

  create_back : RootTerms actor r → (s : Span) → Below32 (span_numbers s) → r.holders < 2 ^ 64 → new_name_of k (part (span_numbers s)) ≡ new
      → create_of k actor (part (span_numbers s)) ≡ Create new s r
  unfolding spaced
  create_back f s b small is =
      let e = ending actor r in
      let stop = ending_stops actor r in
      let one = first e stop w plain s.start.0 (s.length ∷ []) in
      let two = second e stop w plain s.start.0 s.length [] in
      let three = ap after_space two ∙ plain_decimal s.length e in
      λ i. Create (is i) (span_is e stop s [] b.0 b.1.0 one two i) (root_back actor r small three f i)

  borrow_back : ChildTerms actor r → (n : Name) (s : Span) → Below32 (n.0 ∷ span_numbers s) → r.holders < 2 ^ 64
      → new_name_of k (part (n.0 ∷ span_numbers s)) ≡ new → borrow_of k actor (part (n.0 ∷ span_numbers s)) ≡ Borrow new n s r
  unfolding spaced
  borrow_back f n s b small is =
      let e = ending actor r in
      let stop = ending_stops actor r in
      let three = third e stop w plain n.0 s.start.0 s.length [] in
      let four = ap after_space three ∙ plain_decimal s.length e in
      λ i. Borrow (is i) (name_back e w stop plain n s b i) (span_back e w stop plain n s b i) (child_back actor r small four f i)

-- the new name of a form, at its front
new_back : (x : Name) (actor : ℕ) (r : Terms) (ns : List ℕ) → x.0 < 2 ^ 32 → new_name_of Named (decimal x.0 ++ (spaced ns ++ ending actor r)) ≡ Some x
new_back x actor r ns h = ap Some (name_is (ending actor r) (ending_stops actor r) x ns h refl)

-- what is guessed of a form is its event
pub guess_spell : (k : Spelling) (actor : ℕ) (e : Event) → has_spelling k actor e ≡ true → InRange e → guess k actor (form actor e) ≡ e
unfolding form has_spelling writes_name spaced through class_of
guess_spell Unnamed actor (Create None s r) h b =
    guess_create Unnamed actor (form actor (Create None s r)) refl
    ∙ create_back Unnamed None (bytes "(create") (λ t. refl) actor r (root_terms_lem Unnamed actor None s r h) s b.0 b.1 refl
guess_spell Unnamed actor (Create (Some x) s r) h b = clash h refl
guess_spell Named actor (Create None s r) h b = clash h refl
guess_spell Named actor (Create (Some x) s r) h b =
    let ns = span_numbers s in
    guess_create Named actor (form actor (Create (Some x) s r)) refl
    ∙ ap (create_of Named actor) (next (ending actor r) (ending_stops actor r) (bytes "(create") (λ t. refl) x.0 ns)
    ∙ create_back Named (Some x) (decimal x.0) (plain_decimal x.0) actor r (root_terms_lem Named actor (Some x) s r h) s b.0.1 b.1
    (new_back x actor r ns b.0.0)
guess_spell Unnamed actor (Borrow None n s r) h b =
    guess_borrow Unnamed actor (form actor (Borrow None n s r)) refl
    ∙ borrow_back Unnamed None (bytes "(borrow") (λ t. refl) actor r (child_terms_lem Unnamed actor None s r n h) n s b.0 b.1 refl
guess_spell Unnamed actor (Borrow (Some x) n s r) h b = clash h refl
guess_spell Named actor (Borrow None n s r) h b = clash h refl
guess_spell Named actor (Borrow (Some x) n s r) h b =
    let ns = n.0 ∷ span_numbers s in
    guess_borrow Named actor (form actor (Borrow (Some x) n s r)) refl
    ∙ ap (borrow_of Named actor) (next (ending actor r) (ending_stops actor r) (bytes "(borrow") (λ t. refl) x.0 ns)
    ∙ borrow_back Named (Some x) (decimal x.0) (plain_decimal x.0) actor r (child_terms_lem Named actor (Some x) s r n h) n s b.0.1 b.1
    (new_back x actor r ns b.0.0)
guess_spell k actor (Read n s) h b =
    let e = back actor in
    let w = bytes "(read" in
    let stop = back_stops actor in
    guess_read k actor (form actor (Read n s)) refl
    ∙ (λ i. Read (name_back e w stop (λ t. refl) n s b i) (span_back e w stop (λ t. refl) n s b i))
guess_spell k actor (Write n s) h b =
    let e = back actor in
    let w = bytes "(write" in
    let stop = back_stops actor in
    guess_write k actor (form actor (Write n s)) refl
    ∙ (λ i. Write (name_back e w stop (λ t. refl) n s b i) (span_back e w stop (λ t. refl) n s b i))
guess_spell k actor (Drop n) h b =
    let e = back actor in
    let w = bytes "(drop" in
    let stop = back_stops actor in
    guess_drop k actor (form actor (Drop n)) (eqb-false 100 99 refl) (eqb-false 100 98 refl) (eqb-false 100 114 refl) (eqb-false 100 119 refl)
    ∙ ap Drop (name_is e stop n [] b.0 (first e stop w (λ t. refl) n.0 []))

-- no form is taken for an `as`
pub form_other : (actor : ℕ) (e : Event) → get_or (form actor e) 1 0 ≡ 97 → ⊥
unfolding form
form_other actor (Create w s r) = eqb-false 99 97 refl
form_other actor (Borrow w n s r) = eqb-false 98 97 refl
form_other actor (Read n s) = eqb-false 114 97 refl
form_other actor (Write n s) = eqb-false 119 97 refl
form_other actor (Drop n) = eqb-false 100 97 refl
