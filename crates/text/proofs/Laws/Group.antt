-- Laws of the reader and the writer of names that are dropped together: the names of a line one after the other, and what the writer's answer
-- tells.
-- Assumes nothing.
use Rattle.std.specs.Prelude.{Err, Ok, Result}
use mathlib.Core.Path.{◌≡◌, refl, sym, ap, ap₂, ◌∙◌}
use mathlib.Core.Bool.{Bool, true, false, cond, ◌&&◌}
use mathlib.Core.List.{List, [], ◌∷◌, ◌++◌}
use Prim.Native.Nat.{ℕ, zero, suc, ◌+◌, ◌-◌, ◌≤◌, ◌<◌}
use native.Mathlib.Nat.{zero-add}
use native.Mathlib.Numerals.{add-one}
use native.Mathlib.Omega.{arith}
use lib.Dec.{leb}
use lib.ListN.{length, take, drop, set, length-drop, drop_of_length-le}
use lib.Seq.{drop-drop, append_snoc, take-suc-set, sets-eq}
use borrow.Author.Tests.{leb-true, le-leb}
use Rattle.model.proofs.Offered.{and_both}
use Rattle.model.specs.declared.Refusal.{Refusal}
use Rattle.model.specs.Table.{is_domain}
use Rattle.model.specs.Requests.{is_group, rises_strictly}
use Rattle.text.specs.Result.{value, refused}
use Rattle.text.specs.Class.{space}
use Rattle.text.specs.Line.{through, after_space}
use Rattle.text.specs.Decimal.{number_of}
use Rattle.text.specs.Event.{bytes, front, back, Below32}
use Rattle.text.specs.Read.{actor_of, form_of}
use Rattle.text.specs.Write.{written_answer, Writes, Outcome, outcome}
use Rattle.text.specs.Group.{spell_group, names_from, guess_names, is_group_spelling, read_group, names_after, write_group}
use Rattle.text.proofs.Laws.Number.{number_of_small}
use Rattle.text.proofs.Laws.Acting.{around_short}
use Rattle.text.proofs.Laws.Range.{line_short}
use Rattle.text.proofs.Laws.Write.{Wrote, wrote, wrote_nothing}

-- ---- the names of a line

pub names_step : (k : ℕ) (s : List ℕ) → 1 ≤ length s → names_from (suc k) s ≡ number_of s ∷ names_from k (after_space s)
unfolding names_from
names_step k s h = rw (le-leb 1 (length s) h)

pub names_none_lem : (k : ℕ) → names_from k [] ≡ []
unfolding names_from
names_none_lem zero = refl
names_none_lem (suc k) = refl

-- the word at a position, and what is guessed behind it
names_on : (k : ℕ) (s : List ℕ) (at : ℕ) → at < length s → names_from (suc k) (drop at s) ≡ number_of (drop at s) ∷ names_from k (drop (at + through space (drop at s)) s)
names_on k s at h =
    names_step k (drop at s) (omega (arith, length-drop at s))
    ∙ ap (λ (t : List ℕ). number_of (drop at s) ∷ names_from k t) (drop-drop (through space (drop at s)) at s)

-- one more name in the array, and one word further in the line
pub guess_on : (s names : List ℕ) (at count v e : ℕ) → count < 64 → length names ≡ 64 → at < length s → v ≡ number_of (drop at s) → e ≡ through space (drop at s)
    → take (count + 1) (set names count v) ++ names_from (64 - (count + 1)) (drop (at + e) s) ≡ take count names ++ names_from (64 - count) (drop at s)
guess_on s names at count v e h full more is moved =
    let k = 64 - (count + 1) in
    let left : 64 - count ≡ suc k = omega arith in
    let rest = names_from k (drop (at + e) s) in
    let step : names_from (suc k) (drop at s) ≡ v ∷ rest =
    names_on k s at more ∙ ap₂ (λ (x y : ℕ). x ∷ names_from k (drop (at + y) s)) (sym is) (sym moved) in
    ap (λ (j : ℕ). take j (set names count v) ++ rest) (add-one count)
    ∙ ap (λ (l : List ℕ). l ++ rest) (take-suc-set names count v (omega arith))
    ∙ append_snoc (take count names) v rest
    ∙ ap (λ (l : List ℕ). take count names ++ l) (sym step)
    ∙ ap (λ (j : ℕ). take count names ++ names_from j (drop at s)) (sym left)

pub guess_end : (s : List ℕ) (at k : ℕ) → length s ≤ at → names_from k (drop at s) ≡ []
guess_end s at k h = ap (names_from k) (drop_of_length-le s h) ∙ names_none_lem k

-- no more than k names of 32 bits are found
names_few : (k : ℕ) (s : List ℕ) → length (names_from k s) ≤ k
unfolding names_from
names_few zero s = omega arith
names_few (suc k) s = go (leb 1 (length s)) (names_few k (after_space s))
  where
    go : (t : Bool) → length (names_from k (after_space s)) ≤ k → length (cond t (number_of s ∷ names_from k (after_space s)) []) ≤ suc k
    go true h = omega arith
    go false h = omega arith

names_below : (k : ℕ) (s : List ℕ) → Below32 (names_from k s)
unfolding names_from
names_below zero s = tt
names_below (suc k) s = go (leb 1 (length s)) (names_below k (after_space s))
  where
    go : (t : Bool) → Below32 (names_from k (after_space s)) → Below32 (cond t (number_of s ∷ names_from k (after_space s)) [])
    go true h = (number_of_small s, h)
    go false h = tt

pub guess_below : (s : List ℕ) → Below32 (guess_names s)
unfolding guess_names
guess_below s = names_below 64 (after_space s)

pub guess_few : (s : List ℕ) → length (guess_names s) ≤ 64
unfolding guess_names
guess_few s = names_few 64 (after_space s)

pub group_short : (actor : ℕ) (names : List ℕ) → is_domain actor ≡ true → length names ≤ 64 → Below32 names → length (spell_group actor names) ≤ 719
unfolding spell_group
group_short actor names d h b = omega (arith, line_short (front actor) (bytes "(drop") names (back actor) b, around_short actor d)

pub guess_short : (actor : ℕ) (s : List ℕ) → is_domain actor ≡ true → length (spell_group actor (guess_names s)) ≤ 719
guess_short actor s d = group_short actor (guess_names s) d (guess_few s) (guess_below s)

-- names that are read stand first among the lent ones, and the later ones stay
pub names_after_lem : (actor : ℕ) (names before : List ℕ) → length names ≤ length before → names_after (value (actor, names)) before ≡ names ++ drop (length names) before
names_after_lem actor names before h = sets-eq names before 0 (omega arith) ∙ ap (λ (k : ℕ). names ++ drop k before) (zero-add (length names))

-- ---- the reader

module _ (s : List ℕ) where
  abbrev by : ℕ
  by = actor_of s

  abbrev found : List ℕ
  found = guess_names (form_of s)

  pub read_found : is_group_spelling s by found ≡ true → read_group s ≡ value (by, found)
  unfolding read_group
  read_found h = rw h

  pub read_none : is_group_spelling s by found ≡ false → read_group s ≡ refused 2
  unfolding read_group
  read_none h = rw h

-- ---- the writer

pub group_few : (names : List ℕ) → is_group names ≡ true → length names ≤ 64
unfolding is_group
group_few names h =
    let few = (and_both (leb 1 (length names) && leb (length names) 64) (rises_strictly names) h).0 in
    leb-true (length names) 64 (and_both (leb 1 (length names)) (leb (length names) 64) few).1

pub misgrouped_written : (actor : ℕ) (names out : List ℕ) → is_group names ≡ false → write_group actor names out ≡ record { answer = refused 13; buffer = out }
unfolding write_group
misgrouped_written actor names out h = rw h

module _ (actor : ℕ) (names out : List ℕ) {after : List ℕ} {r : Result ℕ Refusal} where
  pub group_written : is_group names ≡ true → Writes (is_domain actor) (spell_group actor names) out after r → outcome r after ≡ write_group actor names out
  unfolding write_group
  group_written h w = rw h (λ i. record { answer = w.answer i; buffer = w.buffer i })

  written_group : is_group names ≡ true → outcome r after ≡ write_group actor names out → Writes (is_domain actor) (spell_group actor names) out after r
  unfolding write_group
  written_group h e =
      let is = rw h at e in
      record { answer = ap (λ (o : Outcome). o.answer) is; buffer = ap (λ (o : Outcome). o.buffer) is }

  -- an answer of n bytes tells that the names are a group, that who acts is a domain, and that the buffer begins with the spelling
  pub wrote_group : (n : ℕ) → outcome r after ≡ write_group actor names out → r ≡ Ok n
      → (is_group names ≡ true) × Wrote (is_domain actor) (spell_group actor names) after n
  wrote_group n e is = go (is_group names) refl
    where
      go : (t : Bool) → is_group names ≡ t → (is_group names ≡ true) × Wrote (is_domain actor) (spell_group actor names) after n
      go true g = (g, wrote n (written_group g e) is)
      go false g =
          let answer : value n ≡ refused 13 = ap written_answer (sym is) ∙ ap (λ (o : Outcome). o.answer) (e ∙ misgrouped_written actor names out g) in
          absurd (let z : ◌≡◌ {A = ℕ} 0 1 = cc in omega arith)

  -- a refusal where there is room tells that they are none, or that who acts is no domain
  pub wrote_no_group : (f : Refusal) → outcome r after ≡ write_group actor names out → (is_domain actor ≡ true → length (spell_group actor names) ≤ length out)
      → r ≡ Err f → (x : Bool) → (is_group names && (is_domain actor && x)) ≡ false
  wrote_no_group f e room is x = go (is_group names) refl
    where
      go : (t : Bool) → is_group names ≡ t → (t && (is_domain actor && x)) ≡ false
      go true g = rw (wrote_nothing f (written_group g e) room is)
      go false g = refl
