-- The twelve words of an event of document 01's form stand for it, and no others do; which they are, kind by kind.
-- Assumes nothing.
use Rattle.std.specs.Prelude.{None}
use mathlib.Core.Path.{◌≡◌, refl, sym, ap, ◌∙◌}
use mathlib.Core.Logic.{◌⊎◌, inl, inr}
use mathlib.Core.Bool.{Bool, true, false, not, cond, ◌&&◌, ◌||◌}
use mathlib.Core.List.{List, [], ◌∷◌}
use Prim.Native.Nat.{ℕ, zero, suc, ◌≤◌}
use native.Mathlib.Omega.{arith}
use lib.Dec.{eqb, leb, ltb}
use lib.ListN.{get_or}
use borrow.Author.Tests.{eqb-true, leb-true}
use Rattle.model.specs.declared.Name.{Name}
use Rattle.model.specs.declared.Span.{Span}
use Rattle.model.specs.declared.Event.{Event}
use Rattle.model.specs.declared.Event.TheVariants.{Create, Borrow, Read, Write, Drop}
use Rattle.model.specs.Table.{is_right}
use Rattle.model.proofs.Offered.{test, clash, and_both}
use Rattle.text.specs.Read.{same}
use Rattle.text.specs.Form.{in_form, plain_terms}
use Rattle.text.proofs.Offered.{InForm, PlainlyGiven, form_in, in_form_lem, same_refl, same_true}
use Rattle.kelzoud_events.specs.Interface.{name_of, span_of, event_with, event_in, words_of}
use Rattle.columns.specs.Form.{event_words, twelve, is_event}
use Rattle.columns.specs.Walk.{is_five, name_fits, span_fits, right_plain, holders_plain, rest_plain, words_plain}

-- what holds of each of the five kinds holds of any
pub five_is : (A : ℕ → Type 0) → A 1 → A 2 → A 3 → A 4 → A 5 → (k : ℕ) → is_five k ≡ true → A k
five_is A a b c d e k h = go k (leb-true 1 k (and_both (leb 1 k) (leb k 5) h).0) (leb-true k 5 (and_both (leb 1 k) (leb k 5) h).1)
  where
    go : (k : ℕ) → 1 ≤ k → k ≤ 5 → A k
    go zero l m = absurd (omega arith)
    go (suc zero) l m = a
    go (suc (suc zero)) l m = b
    go (suc (suc (suc zero))) l m = c
    go (suc (suc (suc (suc zero)))) l m = d
    go (suc (suc (suc (suc (suc zero))))) l m = e
    go (suc (suc (suc (suc (suc (suc k)))))) l m = absurd (omega arith)

-- a right is 1 or 2
pub right_is : (r : ℕ) → is_right r ≡ true → (r ≡ 1) ⊎ (r ≡ 2)
right_is r h = go (test (eqb r 1)) (test (eqb r 2))
  where
    go : (eqb r 1 ≡ true) ⊎ (eqb r 1 ≡ false) → (eqb r 2 ≡ true) ⊎ (eqb r 2 ≡ false) → (r ≡ 1) ⊎ (r ≡ 2)
    go (inl a) b = inl (eqb-true r 1 a)
    go (inr a) (inl b) = inr (eqb-true r 2 b)
    go (inr a) (inr b) = clash h (rw (a, b))

-- ---- an event and its words

module _ (s : Span) where
  create_words : (r : ℕ) → is_right r ≡ true → event_in (event_words (Create None s (plain_terms r))) ≡ Create None s (plain_terms r)
  unfolding words_of event_in event_with
  create_words r h = go (right_is r h)
    where
      go : (r ≡ 1) ⊎ (r ≡ 2) → event_in (event_words (Create None s (plain_terms r))) ≡ Create None s (plain_terms r)
      go (inl e) = rw e
      go (inr e) = rw e

  borrow_words : (n : Name) (r : ℕ) → is_right r ≡ true → event_in (event_words (Borrow None n s (plain_terms r))) ≡ Borrow None n s (plain_terms r)
  unfolding words_of event_in event_with
  borrow_words n r h = go (right_is r h)
    where
      go : (r ≡ 1) ⊎ (r ≡ 2) → event_in (event_words (Borrow None n s (plain_terms r))) ≡ Borrow None n s (plain_terms r)
      go (inl e) = rw e
      go (inr e) = rw e

-- its words are read as it
pub words_back : (e : Event) → InForm e → event_in (event_words e) ≡ e
unfolding words_of event_in event_with
words_back (Create w s r) g = rw (g.unwritten, g.terms) (create_words s r.right g.right)
words_back (Borrow w n s r) g = rw (g.unwritten, g.terms) (borrow_words s n r.right g.right)
words_back (Read n s) g = refl
words_back (Write n s) g = refl
words_back (Drop n) g = refl

twelve_words : (e : Event) → twelve (event_words e) ≡ event_words e
unfolding words_of
twelve_words (Create w s r) = refl
twelve_words (Borrow w n s r) = refl
twelve_words (Read n s) = refl
twelve_words (Write n s) = refl
twelve_words (Drop n) = refl

-- and stand for it
pub words_are : (e : Event) → InForm e → is_event (event_words e) ≡ true
unfolding is_event
words_are e g = rw (words_back e g, form_in e g, twelve_words e) (same_refl (event_words e))

-- words that stand for an event are those of the event that they are read as, which is of that form
pub are_words : (w : List ℕ) → is_event w ≡ true → InForm (event_in w) × (event_words (event_in w) ≡ twelve w)
unfolding is_event
are_words w h =
    let p = and_both (in_form (event_in w)) (same (event_words (event_in w)) (twelve w)) h in
    (in_form_lem (event_in w) p.0, same_true (event_words (event_in w)) (twelve w) p.1)

-- ---- the words that an event has, by its kind

-- words are looked at by their places alone
event_places : (w : List ℕ) → is_event (twelve w) ≡ is_event w
unfolding is_event event_in
event_places w = refl

plain_places : (w : List ℕ) → words_plain (twelve w) ≡ words_plain w
unfolding words_plain
plain_places w = refl

-- an event's words are such
words_plain_lem : (e : Event) → InForm e → words_plain (event_words e) ≡ true
unfolding words_plain words_of
words_plain_lem (Create w s r) g = rw (g.unwritten, g.terms, g.right)
words_plain_lem (Borrow w n s r) g = rw (g.unwritten, g.terms, g.right)
words_plain_lem (Read n s) g = refl
words_plain_lem (Write n s) g = refl
words_plain_lem (Drop n) g = refl

module _ (w : List ℕ) where
  -- one word of them, and the tests of the others
  word : (k x : ℕ) {b : Bool} → eqb (get_or w k 0) x && b ≡ true → (get_or w k 0 ≡ x) × (b ≡ true)
  word k x {b} h = let p = and_both (eqb (get_or w k 0) x) b h in (eqb-true (get_or w k 0) x p.0, p.1)

  record Rest : Type 0 where
    named : get_or w 5 0 ≡ 0
    written : get_or w 6 0 ≡ 0
    kind : get_or w 7 0 ≡ 0
    fresh : get_or w 8 0 ≡ 0
    actor : get_or w 9 0 ≡ 0
    high : get_or w 11 0 ≡ 0

  rest : rest_plain w ≡ true → Rest
  rest h =
      let a = word 5 0 h in
      let b = word 6 0 a.1 in
      let c = word 7 0 b.1 in
      let d = word 8 0 c.1 in
      let e = word 9 0 d.1 in
      record { named = a.0; written = b.0; kind = c.0; fresh = d.0; actor = e.0; high = eqb-true (get_or w 11 0) 0 e.1 }

  -- the words that are tested by the kind, and the rest
  record Tested : Type 0 where
    five : is_five (get_or w 0 0) ≡ true
    name : name_fits w ≡ true
    span : span_fits w ≡ true
    right : right_plain w ≡ true
    holders : holders_plain w ≡ true
    others : Rest

  tested : words_plain w ≡ true → Tested
  unfolding words_plain
  tested h =
      let a = and_both (is_five (get_or w 0 0)) (name_fits w && (span_fits w && (right_plain w && (holders_plain w && rest_plain w)))) h in
      let b = and_both (name_fits w) (span_fits w && (right_plain w && (holders_plain w && rest_plain w))) a.1 in
      let c = and_both (span_fits w) (right_plain w && (holders_plain w && rest_plain w)) b.1 in
      let d = and_both (right_plain w) (holders_plain w && rest_plain w) c.1 in
      let e = and_both (holders_plain w) (rest_plain w) d.1 in
      record { five = a.0; name = b.0; span = c.0; right = d.0; holders = e.0; others = rest e.1 }

  -- such words are those of an event, whichever it is
  stands : (e : Event) → InForm e → twelve w ≡ event_words e → is_event w ≡ true
  stands e g is = sym (event_places w) ∙ ap is_event is ∙ words_are e g

  -- they are the first five words and the lower half of the holders, and zeros
  zeros : Rest → {a b c d e f : ℕ} → get_or w 0 0 ≡ a → get_or w 1 0 ≡ b → get_or w 2 0 ≡ c → get_or w 3 0 ≡ d → get_or w 4 0 ≡ e → get_or w 10 0 ≡ f
      → twelve w ≡ a ∷ b ∷ c ∷ d ∷ e ∷ 0 ∷ 0 ∷ 0 ∷ 0 ∷ 0 ∷ f ∷ 0 ∷ []
  zeros r a b c d e f = λ j. a j ∷ b j ∷ c j ∷ d j ∷ e j ∷ r.named j ∷ r.written j ∷ r.kind j ∷ r.fresh j ∷ r.actor j ∷ f j ∷ r.high j ∷ []

  abbrev zero_at : (k : ℕ) → eqb (get_or w k 0) 0 ≡ true → get_or w k 0 ≡ 0
  zero_at k h = eqb-true (get_or w k 0) 0 h

  made : is_right (get_or w 4 0) ≡ true → PlainlyGiven None (plain_terms (get_or w 4 0))
  made h = record { unwritten = refl; right = h; terms = refl }

  plain_create : get_or w 0 0 ≡ 1 → Tested → is_event w ≡ true
  unfolding words_of
  plain_create k t =
      stands (Create None (span_of (get_or w 2 0) (get_or w 3 0)) (plain_terms (get_or w 4 0))) (made (rw k at t.right))
      (zeros t.others k (zero_at 1 (rw k at t.name)) refl refl refl (eqb-true (get_or w 10 0) 1 (rw k at t.holders)))

  plain_borrow : get_or w 0 0 ≡ 2 → Tested → is_event w ≡ true
  unfolding words_of
  plain_borrow k t =
      stands (Borrow None (name_of (get_or w 1 0)) (span_of (get_or w 2 0) (get_or w 3 0)) (plain_terms (get_or w 4 0))) (made (rw k at t.right))
      (zeros t.others k refl refl refl refl (eqb-true (get_or w 10 0) 1 (rw k at t.holders)))

  plain_read : get_or w 0 0 ≡ 3 → Tested → is_event w ≡ true
  unfolding words_of
  plain_read k t =
      stands (Read (name_of (get_or w 1 0)) (span_of (get_or w 2 0) (get_or w 3 0))) tt
      (zeros t.others k refl refl refl (zero_at 4 (rw k at t.right)) (zero_at 10 (rw k at t.holders)))

  plain_write : get_or w 0 0 ≡ 4 → Tested → is_event w ≡ true
  unfolding words_of
  plain_write k t =
      stands (Write (name_of (get_or w 1 0)) (span_of (get_or w 2 0) (get_or w 3 0))) tt
      (zeros t.others k refl refl refl (zero_at 4 (rw k at t.right)) (zero_at 10 (rw k at t.holders)))

  plain_drop : get_or w 0 0 ≡ 5 → Tested → is_event w ≡ true
  unfolding words_of
  plain_drop k t =
      let span = and_both (eqb (get_or w 2 0) 0) (eqb (get_or w 3 0) 0) (rw k at t.span) in
      stands (Drop (name_of (get_or w 1 0))) tt
      (zeros t.others k refl (zero_at 2 span.0) (zero_at 3 span.1) (zero_at 4 (rw k at t.right)) (zero_at 10 (rw k at t.holders)))

  plain_event : words_plain w ≡ true → is_event w ≡ true
  plain_event h =
      let t = tested h in
      five_is (λ k. get_or w 0 0 ≡ k → is_event w ≡ true)
      (λ k. plain_create k t)
      (λ k. plain_borrow k t)
      (λ k. plain_read k t)
      (λ k. plain_write k t)
      (λ k. plain_drop k t)
      (get_or w 0 0)
      t.five
      refl

  event_plain : is_event w ≡ true → words_plain w ≡ true
  event_plain h = let p = are_words w h in sym (plain_places w) ∙ ap words_plain (sym p.1) ∙ words_plain_lem (event_in w) p.0

  -- the test that the code makes
  pub event_tested : is_event w ≡ words_plain w
  event_tested = go (test (is_event w)) (test (words_plain w))
    where
      go : (is_event w ≡ true) ⊎ (is_event w ≡ false) → (words_plain w ≡ true) ⊎ (words_plain w ≡ false) → is_event w ≡ words_plain w
      go (inl a) b = a ∙ sym (event_plain a)
      go (inr a) (inl b) = clash (plain_event b) a
      go (inr a) (inr b) = a ∙ sym b

  -- so the kind and the right of an event are bytes
  pub bytes_small : is_event w ≡ true → (get_or w 0 0 ≤ 5) × (get_or w 4 0 ≤ 2)
  bytes_small h =
      let t = tested (event_plain h) in
      (leb-true (get_or w 0 0) 5 (and_both (leb 1 (get_or w 0 0)) (leb (get_or w 0 0) 5) t.five).1, small (ltb (get_or w 0 0) 3) t.right)
    where
      small : (m : Bool) → cond m (is_right (get_or w 4 0)) (eqb (get_or w 4 0) 0) ≡ true → get_or w 4 0 ≤ 2
      small true r = either (right_is (get_or w 4 0) r)
        where
          either : (get_or w 4 0 ≡ 1) ⊎ (get_or w 4 0 ≡ 2) → get_or w 4 0 ≤ 2
          either (inl e) = omega arith
          either (inr e) = omega arith
      small false r = omega (arith, eqb-true (get_or w 4 0) 0 r)

-- one of two tests, chosen by a third, as the code works it out
pub chosen : (m a b : Bool) → (m && a) || (not m && b) ≡ cond m a b
chosen true true b = refl
chosen true false b = refl
chosen false a b = refl
