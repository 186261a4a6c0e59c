-- Events by other names: what an ended name is answered, and which names are left after an event.
-- Assumes nothing.
use mathlib.Core.Path.{◌≡◌, refl, sym, ap, ◌∙◌}
use mathlib.Core.Logic.{◌⊎◌, inl, inr}
use mathlib.Core.Bool.{Bool, true, false, not, cond, ◌||◌}
use mathlib.Core.List.{List, [], ◌∷◌, map}
use Prim.Native.Nat.{ℕ, suc, ◌≤◌, ◌<◌}
use native.Mathlib.Omega.{arith}
use lib.Dec.{eqb, ltb}
use borrow.Author.Tests.{eqb-true, ne_eqb, le-ltb}
use Rattle.model.specs.declared.Cap.{Cap}
use Rattle.model.specs.declared.Sheet.{Sheet}
use Rattle.model.specs.declared.Event.{Event}
use Rattle.model.specs.declared.Event.TheVariants.{Create, Borrow, Read, Write, Drop}
use Rattle.model.specs.Lists.{cons_if, filter, any, first}
use Rattle.model.specs.Slots.{Slot}
use Rattle.model.specs.Table.{named}
use Rattle.model.specs.Refusals.{illegal_span, unfit_child, checks}
use Rattle.model.specs.Effects.{lowered, revoke, after_access, rows_without, rows_after, new_name, issued_after}
use Rattle.model.proofs.Offered.{test}
use Rattle.sizes.specs.Clients.{known, translated}
use Rattle.sizes.specs.Names.{name_in, renamed, ended_for}
use Rattle.sizes.proofs.Laws.Fewer.{ask}

-- translation is renaming
pub translated_renamed : (names : List ℕ) (e : Event) → translated names e ≡ renamed (known names (name_in e)) e
unfolding translated
translated_renamed names (Create w s r) = refl
translated_renamed names (Borrow w u s r) = refl
translated_renamed names (Read u s) = refl
translated_renamed names (Write u s) = refl
translated_renamed names (Drop u) = refl

-- ---- an ended name

-- it is answered as 0 is, with 5 in the place of 4
module _ (rows : List Cap) (i : ℕ) (is_written : ℕ → Bool) (slot : ℕ → Slot (List Cap)) (n y : ℕ) (p : 0 < y) (l : y ≤ i) (gone : any (named y) rows ≡ false) where
  issued_name : eqb y 0 || ltb i y ≡ false
  issued_name = rw (ne_eqb y 0 (λ (z : y ≡ 0). omega arith), le-ltb i y l)

  two : (b : Bool) → cond b 3 5 ≡ ended_for (cond b 3 4)
  two true = refl
  two false = refl

  three : (a b : Bool) → cond a 2 (cond b 3 5) ≡ ended_for (cond a 2 (cond b 3 4))
  three true b = refl
  three false b = two b

  not_legal : (b : Bool) → ◌≡◌ {A = ℕ} (cond b 3 5) 0 → ⊥
  not_legal true z = omega arith
  not_legal false z = omega arith

  not_allowed : (a b : Bool) → ◌≡◌ {A = ℕ} (cond a 2 (cond b 3 5)) 0 → ⊥
  not_allowed true b z = omega arith
  not_allowed false b z = not_legal b z

  pub ended_answer : (e : Event) → 0 < name_in e → first (checks rows i is_written slot n (ask (renamed y e))) ≡ ended_for (first (checks rows i is_written slot n (ask (renamed 0 e))))
  ended_answer (Create w s r) h = absurd (omega arith)
  ended_answer (Borrow w u s r) h = rw (issued_name, gone) (three (unfit_child 0 r) (illegal_span s))
  ended_answer (Read u s) h = rw (issued_name, gone) (two (illegal_span s))
  ended_answer (Write u s) h = rw (issued_name, gone) (two (illegal_span s))
  ended_answer (Drop u) h = rw (issued_name, gone)

  -- and is refused
  pub ended_refused : (e : Event) → 0 < name_in e → first (checks rows i is_written slot n (ask (renamed y e))) ≡ 0 → ⊥
  ended_refused (Create w s r) h = absurd (omega arith)
  ended_refused (Borrow w u s r) h = rw (issued_name, gone) (not_allowed (unfit_child 0 r) (illegal_span s))
  ended_refused (Read u s) h = rw (issued_name, gone) (not_legal (illegal_span s))
  ended_refused (Write u s) h = rw (issued_name, gone) (not_legal (illegal_span s))
  ended_refused (Drop u) h = rw (issued_name, gone) (λ (z : ◌≡◌ {A = ℕ} 5 0). omega arith)

-- ---- names after an event

or_right : (a b : Bool) → b ≡ true → a || b ≡ true
or_right true b e = refl
or_right false b e = e

or_map : (a b d : Bool) → a || b ≡ true → (b ≡ true → d ≡ true) → a || d ≡ true
or_map true b d e f = refl
or_map false b d e f = f e

any_filter : (x : ℕ) (p : Cap → Bool) (rows : List Cap) → any (named x) (filter p rows) ≡ true → any (named x) rows ≡ true
any_filter x p [] h = h
any_filter x p (c ∷ rows) h = go (p c) h (any_filter x p rows)
  where
    go : (b : Bool) → any (named x) (cons_if b c (filter p rows)) ≡ true → (any (named x) (filter p rows) ≡ true → any (named x) rows ≡ true) → named x c || any (named x) rows ≡ true
    go true e ih = or_map (named x c) (any (named x) (filter p rows)) (any (named x) rows) e ih
    go false e ih = or_right (named x c) (any (named x) rows) (ih e)

any_lowered : (x : ℕ) (lowers : ℕ → Bool) (rows : List Cap) → any (named x) (map (λ c. lowered (lowers c.name.0) c) rows) ≡ any (named x) rows
any_lowered x lowers [] = refl
any_lowered x lowers (c ∷ rows) = ap (λ (b : Bool). named x c || b) (any_lowered x lowers rows)

any_revoke : (x : ℕ) (ends lowers : ℕ → Bool) (rows : List Cap) → any (named x) (revoke ends lowers rows) ≡ true → any (named x) rows ≡ true
unfolding revoke
any_revoke x ends lowers rows h =
    any_filter x (λ c. not (ends c.name.0)) rows (sym (any_lowered x lowers (filter (λ c. not (ends c.name.0)) rows)) ∙ h)

-- a name after an event is the new one, or was there before
pub names_after_lem : (sheet : Sheet) (x i : ℕ) (rows : List Cap) (e : Event) → any (named x) (rows_after sheet i rows (ask e)) ≡ true → (x ≡ new_name i (ask e)) ⊎ (any (named x) rows ≡ true)
unfolding rows_after after_access rows_without
names_after_lem sheet x i rows (Create w s r) h = go (test (eqb x (suc i)))
  where
    go : (eqb x (suc i) ≡ true) ⊎ (eqb x (suc i) ≡ false) → (x ≡ suc i) ⊎ (any (named x) rows ≡ true)
    go (inl t) = inl (eqb-true x (suc i) t)
    go (inr f) = inr (any_revoke x _ _ rows (rw f at h))
names_after_lem sheet x i rows (Borrow w u s r) h = go (test (eqb x (suc i)))
  where
    go : (eqb x (suc i) ≡ true) ⊎ (eqb x (suc i) ≡ false) → (x ≡ suc i) ⊎ (any (named x) rows ≡ true)
    go (inl t) = inl (eqb-true x (suc i) t)
    go (inr f) = inr (rw f at h)
names_after_lem sheet x i rows (Read u s) h = inr (any_revoke x _ _ rows h)
names_after_lem sheet x i rows (Write u s) h = inr (any_revoke x _ _ rows h)
names_after_lem sheet x i rows (Drop u) h = inr (any_revoke x _ _ rows h)

-- an event makes no name, or the next one
pub data Makes (i : ℕ) (e : Event) : Type 0 where
  none : new_name i (ask e) ≡ 0 → issued_after i (ask e) ≡ i → Makes i e
  next : new_name i (ask e) ≡ suc i → issued_after i (ask e) ≡ suc i → Makes i e

pub makes : (i : ℕ) (e : Event) → Makes i e
makes i (Create w s r) = next refl refl
makes i (Borrow w u s r) = next refl refl
makes i (Read u s) = none refl refl
makes i (Write u s) = none refl refl
makes i (Drop u) = none refl refl
