-- Which values an event has that has a spelling in document 01's form, and that it has one where it has these; and the theorems about lines in that
-- form.
-- Assumes nothing.
use Rattle.std.specs.Prelude.{None, Option, Some}
use mathlib.Core.Path.{◌≡◌, refl, sym, ap, ◌∙◌}
use mathlib.Core.Logic.{◌⊎◌, inl, inr}
use mathlib.Core.Bool.{Bool, true, false, not, cond, ◌&&◌, ◌||◌}
use mathlib.Core.List.{List, ◌∷◌, ◌++◌}
use Prim.Native.Nat.{ℕ, suc, ◌≤◌}
use native.Mathlib.Omega.{arith}
use lib.Dec.{eqb}
use lib.ListN.{length, length-append}
use borrow.Author.Tests.{eqb-true, eqb-false, leb-true}
use Rattle.model.specs.declared.Name.{Name}
use Rattle.model.specs.declared.Span.{Span}
use Rattle.model.specs.declared.Terms.{Terms}
use Rattle.model.specs.declared.Event.{Event}
use Rattle.model.specs.declared.Event.TheVariants.{Create, Borrow, Read, Write, Drop}
use Rattle.model.specs.Bits.{has_bit}
use Rattle.model.specs.Table.{is_right, is_kind, is_mark}
use Rattle.model.specs.Refusals.{unfit_mask, unfit_root, unfit_child}
use Rattle.model.proofs.Offered.{test, clash, and_both}
use Rattle.text.specs.Event.{bytes, spaced, line, span_numbers, right_word, kind_word, fresh_word, ending, form, spell, writes_name, has_spelling, InRange}
use Rattle.text.specs.Mask.{mask_word, hex}
use Rattle.text.specs.Read.{same, read_event}
use Rattle.text.specs.Result.{Result, value, refused}
use Rattle.text.specs.declared.spelling.Spelling.TheVariants.{Plain}
use Rattle.text.proofs.Laws.Read.{same_refl, same_true}
use Rattle.text.proofs.Laws.OneSpelling.{spelling_reads_back, read_is_spelling, refused_is_2, only_2}
use Rattle.text.specs.Form.{form01, in_form, plain_terms, gives_plainly, formed, read_form}

-- what such an event gives to what it makes: no name is written, the right is one, and all else is as document 01 has it
pub record PlainlyGiven (w : Option Name) (r : Terms) : Type 0 where
  pub unwritten : w ≡ None
  pub right : is_right r.right ≡ true
  pub terms : r ≡ plain_terms r.right

abbrev pub InForm : Event → Type 0
InForm (Create w s r) = PlainlyGiven w r
InForm (Borrow w n s r) = PlainlyGiven w r
InForm (Read n s) = Unit {0}
InForm (Write n s) = Unit {0}
InForm (Drop n) = Unit {0}

-- ---- a line that has no more words than document 01's has no kind, no mark and no mask

kind_word_lem : (k : ℕ) → length (kind_word k) ≡ 0 → k ≡ 0
kind_word_lem k h = go (test (eqb k 0))
  where
    long : (b : Bool) → length (cond b (bytes " raw") (bytes " cell")) ≡ 0 → ⊥
    long true z = omega arith
    long false z = omega arith

    go : (eqb k 0 ≡ true) ⊎ (eqb k 0 ≡ false) → k ≡ 0
    go (inl t) = eqb-true k 0 t
    go (inr f) = absurd (long (eqb k 1) (rw f at h))

fresh_word_lem : (m : ℕ) → m ≤ 1 → length (fresh_word m) ≡ 0 → m ≡ 0
fresh_word_lem m l h = go (test (eqb m 1))
  where
    go : (eqb m 1 ≡ true) ⊎ (eqb m 1 ≡ false) → m ≡ 0
    go (inl t) = absurd (let z : length (bytes " fresh") ≡ 0 = rw t at h in omega arith)
    go (inr f) = let ne = eqb-false m 1 f in under m l ne
      where
        under : (m : ℕ) → m ≤ 1 → (m ≡ 1 → ⊥) → m ≡ 0
        under m l ne = omega arith

mask_word_lem : (mask : ℕ) → length (mask_word 0 mask) ≡ 0 → mask ≡ 1
mask_word_lem mask h = go (test (eqb mask 1))
  where
    go : (eqb mask 1 ≡ true) ⊎ (eqb mask 1 ≡ false) → mask ≡ 1
    go (inl t) = eqb-true mask 1 t
    go (inr f) = absurd (let z : suc (length (hex 16 mask)) ≡ 0 = rw f at h in omega arith)

-- lines of the same words and numbers, one with three words more
no_more : (a b c k f m e : List ℕ) → a ++ (b ++ (c ++ (k ++ (f ++ (m ++ e))))) ≡ a ++ (b ++ (c ++ e)) → (length k ≡ 0) × (length f ≡ 0) × (length m ≡ 0)
no_more a b c k f m e h =
    let n = simp length-append at (ap length h) in
    (omega (arith, n), omega (arith, n), omega (arith, n))

-- where none of four tests holds that stand before a create or borrow, it gives a right, and its mark is as it should be
right_and_mark : (a b c d : Bool) → not (not a || (b || (not c || d))) ≡ true → (a ≡ true) × (c ≡ true)
right_and_mark true false true false h = (refl, refl)
right_and_mark true false true true h = clash h refl
right_and_mark true false false d h = clash h refl
right_and_mark true true c d h = clash h refl
right_and_mark false b c d h = clash h refl

unwritten : (w : Option Name) → writes_name Plain w ≡ true → w ≡ None
unfolding writes_name
unwritten None h = refl
unwritten (Some x) h = clash h refl

given : (word numbers : List ℕ) (w : Option Name) (r : Terms) → writes_name Plain w ≡ true → is_right r.right ≡ true → r.fresh ≤ 1
    → word ++ (numbers ++ ending 0 r) ≡ word ++ (numbers ++ (right_word r.right ++ bytes ")\n")) → PlainlyGiven w r
given word numbers w r plain right mark line =
    let none = no_more word numbers (right_word r.right) (kind_word r.kind) (fresh_word r.fresh) (mask_word 0 r.holders) (bytes ")\n") line in
    record {
      unwritten = unwritten w plain;
      right = right;
      terms = λ j. record { right = r.right; kind = kind_word_lem r.kind none.0 j; fresh = fresh_word_lem r.fresh mark none.1 j; holders = mask_word_lem r.holders none.2 j };
    }

-- an event of document 01's form has these values
pub in_form_lem : (e : Event) → in_form e ≡ true → InForm e
unfolding in_form has_spelling spell form form01
in_form_lem (Create w s r) h =
    let p = and_both (writes_name Plain w && not (unfit_root 0 r)) (same (spell 0 (Create w s r)) (form01 (Create w s r))) h in
    let q = and_both (writes_name Plain w) (not (unfit_root 0 r)) p.0 in
    let fit = right_and_mark (is_right r.right) (not (eqb r.kind 0)) (is_mark r.fresh) (unfit_mask 0 r) q.1 in
    let line = same_true (spell 0 (Create w s r)) (form01 (Create w s r)) p.1 in
    given (bytes "(create") (spaced (span_numbers s)) w r q.0 fit.0 (leb-true r.fresh 1 fit.1) (rw (unwritten w q.0) at line)
in_form_lem (Borrow w n s r) h =
    let p = and_both (writes_name Plain w && not (unfit_child 0 r)) (same (spell 0 (Borrow w n s r)) (form01 (Borrow w n s r))) h in
    let q = and_both (writes_name Plain w) (not (unfit_child 0 r)) p.0 in
    let fit = right_and_mark (is_right r.right) (not (is_kind r.kind)) (eqb r.fresh 0) (unfit_mask 0 r) q.1 in
    let line = same_true (spell 0 (Borrow w n s r)) (form01 (Borrow w n s r)) p.1 in
    given (bytes "(borrow") (spaced (n.0 ∷ span_numbers s)) w r q.0 fit.0 (omega (arith, eqb-true r.fresh 0 fit.1)) (rw (unwritten w q.0) at line)
in_form_lem (Read n s) h = tt
in_form_lem (Write n s) h = tt
in_form_lem (Drop n) h = tt

-- and an event with these values is of that form
pub form_in : (e : Event) → InForm e → in_form e ≡ true
unfolding in_form has_spelling writes_name spell form form01 has_bit
form_in (Create w s r) g = rw (g.unwritten, g.terms, g.right) (same_refl (form01 (Create None s (plain_terms r.right))))
form_in (Borrow w n s r) g = rw (g.unwritten, g.terms, g.right) (same_refl (form01 (Borrow None n s (plain_terms r.right))))
form_in (Read n s) g = same_refl (form01 (Read n s))
form_in (Write n s) g = same_refl (form01 (Write n s))
form_in (Drop n) g = same_refl (form01 (Drop n))

-- So document 01's line of such an event is a line of the text, and reads back as the event, by domain 0.
pub form_reads_back : (e : Event) → in_form e ≡ true → InRange e → read_event Plain (form01 e) ≡ value (0, e)
unfolding in_form
form_reads_back e h r =
    let p = and_both (has_spelling Plain 0 e) (same (spell 0 e) (form01 e)) h in
    ap (read_event Plain) (sym (same_true (spell 0 e) (form01 e) p.1)) ∙ spelling_reads_back Plain 0 e p.0 r

-- ---- the test of the code, value by value

one_test : (a b : Bool) → (a ≡ true → b ≡ true) → (b ≡ true → a ≡ true) → a ≡ b
one_test true b to back = sym (to refl)
one_test false true to back = back refl
one_test false false to back = refl

gives : (w : Option Name) (r : Terms) → PlainlyGiven w r → gives_plainly w r ≡ true
unfolding writes_name
gives w r g = rw (g.unwritten, g.terms, g.right)

given_so : (w : Option Name) (r : Terms) → gives_plainly w r ≡ true → PlainlyGiven w r
given_so w r h =
    let a = and_both (writes_name Plain w) (is_right r.right && (eqb r.kind 0 && (eqb r.fresh 0 && eqb r.holders 1))) h in
    let b = and_both (is_right r.right) (eqb r.kind 0 && (eqb r.fresh 0 && eqb r.holders 1)) a.1 in
    let c = and_both (eqb r.kind 0) (eqb r.fresh 0 && eqb r.holders 1) b.1 in
    let d = and_both (eqb r.fresh 0) (eqb r.holders 1) c.1 in
    record {
      unwritten = unwritten w a.0;
      right = b.0;
      terms = λ j. record { right = r.right; kind = eqb-true r.kind 0 c.0 j; fresh = eqb-true r.fresh 0 d.0 j; holders = eqb-true r.holders 1 d.1 j };
    }

-- a create and a borrow are in the form by what they give, and the other events always
pub form_of_create : (w : Option Name) (s : Span) (r : Terms) → gives_plainly w r ≡ in_form (Create w s r)
form_of_create w s r = one_test (gives_plainly w r) (in_form (Create w s r)) (λ h. form_in (Create w s r) (given_so w r h)) (λ h. gives w r (in_form_lem (Create w s r) h))

pub form_of_borrow : (w : Option Name) (n : Name) (s : Span) (r : Terms) → gives_plainly w r ≡ in_form (Borrow w n s r)
form_of_borrow w n s r = one_test (gives_plainly w r) (in_form (Borrow w n s r)) (λ h. form_in (Borrow w n s r) (given_so w r h)) (λ h. gives w r (in_form_lem (Borrow w n s r) h))

-- ---- the theorems about lines in document 01's form

-- a line that reads as an event in the form, by domain 0, is that of the form
lined : (line : List ℕ) (actor : ℕ) (e : Event) → read_event Plain line ≡ value (actor, e) → actor ≡ 0 → in_form e ≡ true → line ≡ form01 e
unfolding in_form
lined line actor e read none h =
    let p = and_both (has_spelling Plain 0 e) (same (spell 0 e) (form01 e)) h in
    (read_is_spelling Plain line actor e read).2 ∙ ap (λ (a : ℕ). spell a e) none ∙ same_true (spell 0 e) (form01 e) p.1

-- what is read is an event in the form, and the line is the one that the form has for it
pub form_read : (line : List ℕ) (e : Event) → read_form line ≡ value e → (in_form e ≡ true) × (line ≡ form01 e)
form_read line e h = go (read_event Plain line) refl h
  where
    tested : (actor : ℕ) (d : Event) → read_event Plain line ≡ value (actor, d) → (z f : Bool) → eqb actor 0 ≡ z → in_form d ≡ f
        → cond (z && f) (value d) (refused 2) ≡ value e → (in_form e ≡ true) × (line ≡ form01 e)
    tested actor d q true true z f h = let is : d ≡ e = cc in (ap in_form (sym is) ∙ f, lined line actor d q (eqb-true actor 0 z) f ∙ ap form01 is)
    tested actor d q true false z f h = absurd (let z : ◌≡◌ {A = ℕ} 0 1 = cc in omega arith)
    tested actor d q false f z g h = absurd (let z : ◌≡◌ {A = ℕ} 0 1 = cc in omega arith)

    go : (a : Result (ℕ × Event)) → read_event Plain line ≡ a → formed a ≡ value e → (in_form e ≡ true) × (line ≡ form01 e)
    go (value a) q h = tested a.0 a.1 q (eqb a.0 0) (in_form a.1) refl refl h
    go (refused k) q h = absurd (let z : ◌≡◌ {A = ℕ} 0 1 = cc in omega arith)

-- the line of an event in the form reads as that event
pub form_reads : (e : Event) → in_form e ≡ true → InRange e → read_form (form01 e) ≡ value e
form_reads e h r = rw (form_reads_back e h r, h)

-- a line that is not read is refusal 2
pub form_refused : (line : List ℕ) (k : ℕ) → read_form line ≡ refused k → k ≡ 2
form_refused line k h = go (read_event Plain line) refl h
  where
    go : (a : Result (ℕ × Event)) → read_event Plain line ≡ a → formed a ≡ refused k → k ≡ 2
    go (value a) q h = only_2 a.1 k (eqb a.0 0 && in_form a.1) h
    go (refused n) q h = refused_is_2 Plain line k (q ∙ cc)
