-- Demand 3: a read is allowed exactly when it is legal, inside its own span, and its name lives; a write exactly when, besides, its name is `rw`.
-- Assumes nothing.
use mathlib.Core.Path.{◌≡◌, refl, sym, ap, ◌∙◌}
use mathlib.Core.Logic.{◌⊎◌, inl, inr}
use mathlib.Core.Bool.{Bool, true, false, not, cond, ◌&&◌, ◌||◌, or-false, and-true, and-false}
use mathlib.Core.List.{List, [], ◌∷◌}
use Prim.Native.Nat.{ℕ, suc, ◌<◌, ◌≤◌}
use native.Mathlib.Omega.{arith}
use lib.ListN.{length}
use lib.Dec.{eqb, ltb, leb}
use borrow.Author.Tests.{eqb-true, ne_eqb, le-ltb}
use Rattle.model.specs.declared.Name.{Name}
use Rattle.model.specs.declared.Span.{Span}
use Rattle.model.specs.declared.Event.TheVariants.{Read, Write}
use Rattle.model.specs.Requests.{Caller, Request, Single}
use Rattle.model.specs.Slots.{Slot}
use Rattle.model.specs.declared.Sheet.{Sheet}
use Rattle.model.specs.Lists.{filter, any}
use Rattle.model.specs.Derivation.{Derivation}
use Rattle.model.specs.Values.{legal, inside}
use Rattle.model.specs.Table.{span, derivation, is_marked, is_domain, holds, named, live_rows, lookup, in_order}
use Rattle.model.specs.Refusals.{not_written, refusals, judge}
use Rattle.model.specs.Step.{State, is_allowed}
use Rattle.model.specs.Bits.{span_written}
use Rattle.model.specs.Limits.{refused_sheet}
use Rattle.model.specs.Step
use Rattle.model.specs.History.{Note, New, Accessed, Dropped, derived_by, derivations, makes, later, ends, hits, lives, writable, noted_as, covers, written, is_readable, is_holder, may_use, may_read, may_write, row_of, alive, rows, table, view}
use Rattle.model.specs.History
use Rattle.model.proofs.Lists.{All, All_of, All_map, test, clash, unless, and_both, any_map, any_kept, first_zero}
use Rattle.model.proofs.Ancestries.{Falling, same, not_zero, below_differs}
use Rattle.model.proofs.Notes.{falling, rows_all}
use Rattle.model.proofs.Agree.{present_lives}
use Rattle.model.proofs.Lent.{lookup_found, lookup_named}
use Rattle.model.proofs.Judged.{numbered}
use Rattle.model.proofs.Match.{Kept, Match, live_rows_lem, rows_fit, same_judge}

-- ---- derivations are found by their names

makes_derivations : (x : ℕ) (notes : List Note) → any (makes x) notes ≡ any (λ b. eqb x b.name) (derivations notes)
unfolding makes derivations derived_by
makes_derivations x [] = refl
makes_derivations x (New b r ∷ notes) = ap (λ t. eqb x b.name || t) (makes_derivations x notes)
makes_derivations x (Accessed a u s ∷ notes) = makes_derivations x notes
makes_derivations x (Dropped u ∷ notes) = makes_derivations x notes

derived_by_between : (n : ℕ) (B : List Derivation) (x : ℕ) → Falling n B → any (λ b. eqb x b.name) B ≡ true → (0 < x) × (x < n)
derived_by_between n [] x f h = clash h refl
derived_by_between n (b ∷ B) x f h = go (test (eqb x b.name)) (derived_by_between b.name B x f.2)
  where
    go : (eqb x b.name ≡ true) ⊎ (eqb x b.name ≡ false) → (any (λ b. eqb x b.name) B ≡ true → (0 < x) × (x < b.name)) → (0 < x) × (x < n)
    go (inl t) ih = let e = eqb-true x b.name t in omega arith
    go (inr t) ih = let r = ih (rw t at h) in omega arith

-- the one derivation of a name
module _ (p : Derivation → Bool) where
  abbrev Passing : List Derivation → ℕ → Bool
  Passing B x = any (λ d. eqb x d.name && p d) B

  passing_none : (n : ℕ) (B : List Derivation) (x : ℕ) → Falling n B → n ≤ x → Passing B x ≡ false
  passing_none n [] x f l = refl
  passing_none n (b ∷ B) x f l = rw (ne_eqb x b.name (λ (e : x ≡ b.name). omega arith)) (passing_none b.name B x f.2 (omega arith))

  passing : (n : ℕ) (B : List Derivation) → Falling n B → All (λ b. (b.name < n) × (p b ≡ Passing B b.name)) B
  passing n [] f = tt
  passing n (c ∷ B) f = (
    (f.0, sym (rw (same c.name, passing_none c.name B c.name f.2 (omega arith)) (or-false (p c)))),
    All_map _ _ up B (passing c.name B f.2),
  )
    where
      up : (b : Derivation) → (b.name < c.name) × (p b ≡ Passing B b.name) → (b.name < n) × (p b ≡ Passing (c ∷ B) b.name)
      up b (l, e) = (omega arith, rw (below_differs l) e)

module _ (sheet : Sheet) where
  module _ (n i : ℕ) (notes : List Note) (k : Kept sheet n i notes) where
    B_falls : Falling (suc i) (derivations notes)
    B_falls = falling (suc i) notes k.sound

    noted : (x : ℕ) → lives sheet notes x ≡ true → any (λ b. eqb x b.name) (derivations notes) ≡ true
    unfolding lives
    noted x h = sym (makes_derivations x notes) ∙ (and_both (any (makes x) notes) (not (later x (hits (ends sheet) (derivations notes) x) notes)) h).0

    pub lives_given : (x : ℕ) → lives sheet notes x ≡ true → (0 < x) × (x < suc i)
    lives_given x h = derived_by_between (suc i) (derivations notes) x B_falls (noted x h)

    lives_present : (x : ℕ) → lives sheet notes x ≡ true → any (named x) (rows sheet notes) ≡ true
    unfolding rows row_of
    lives_present x h =
        any_map (row_of sheet notes) (named x) (filter (alive sheet notes) (derivations notes)) ∙ any_kept (λ b. b.name) (lives sheet notes) x h (derivations notes) ∙ noted x h

    present : (x : ℕ) → any (named x) (live_rows (table sheet n notes)) ≡ lives sheet notes x
    present x = rw (live_rows_lem sheet n i notes k) (go (test (lives sheet notes x)))
      where
        go : (lives sheet notes x ≡ true) ⊎ (lives sheet notes x ≡ false) → any (named x) (rows sheet notes) ≡ lives sheet notes x
        go (inl t) = lives_present x t ∙ sym t
        go (inr f) = unless (any (named x) (rows sheet notes)) (λ e. clash (present_lives sheet (suc i) notes k.sound k.closed x e) f) ∙ sym f

    -- the row of a living name has what is noted of it, its span among that, and its right
    noted_found : (p : Derivation → Bool) (x : ℕ) → lives sheet notes x ≡ true → p (derivation (lookup x (live_rows (table sheet n notes)))) ≡ noted_as p notes x
    unfolding row_of
    noted_found p x h =
        rw (live_rows_lem sheet n i notes k)
        (lookup_found (λ c. p (derivation c) ≡ Passing p (derivations notes) c.name.0) x (rows sheet notes) (lives_present x h)
        (rows_all sheet notes (λ c. p (derivation c) ≡ Passing p (derivations notes) c.name.0) (All_map _ _ (λ b q e. q.1) (derivations notes) (passing p (suc i) (derivations notes) B_falls)))
        ∙ ap (Passing p (derivations notes)) (lookup_named x (rows sheet notes) (lives_present x h)))

    covers_found : (x : ℕ) (s : Span) → lives sheet notes x ≡ true → inside s (span (lookup x (live_rows (table sheet n notes)))) ≡ covers notes x s
    unfolding covers
    covers_found x s = noted_found (λ d. inside s d.span) x

    right_found : (x : ℕ) → lives sheet notes x ≡ true → (lookup x (live_rows (table sheet n notes))).right ≡ cond (writable sheet notes x) 2 1
    unfolding row_of
    right_found x h =
        rw (live_rows_lem sheet n i notes k)
        (lookup_found (λ c. c.right ≡ cond (writable sheet notes c.name.0) 2 1) x (rows sheet notes) (lives_present x h) (rows_all sheet notes (λ c. c.right ≡ cond (writable sheet notes c.name.0) 2 1) (All_of _ (λ b e. refl) (derivations notes)))
        ∙ ap {B = ℕ} (λ y. cond (writable sheet notes y) 2 1) (lookup_named x (rows sheet notes) (lives_present x h)))

    -- a living name passes refusal 4
    given_passes : (x : ℕ) → lives sheet notes x ≡ true → eqb x 0 || ltb i x ≡ false
    given_passes x h = let p = lives_given x h in rw (not_zero p.0) (le-ltb i x (omega arith))

    reads : (slots : List (Slot (List Note))) → length slots ≡ 8 → in_order (table sheet n notes) i ≡ true → (by : Caller) (u : Name) (s : Span) → eqb (judge (view sheet n slots notes i) (Single by (Read u s))) 0 ≡ may_read sheet n by notes u.0 s
    unfolding judge refusals not_written may_use may_read
    reads slots e8 o by u s = first_zero (refusals (view sheet n slots notes i) (Single by (Read u s))) (numbered (view sheet n slots notes i) (Single by (Read u s))) ∙ rw (o, e8, present u.0) (go (test (lives sheet notes u.0)))
      where
        row : Derivation
        row = derivation (lookup u.0 (live_rows (table sheet n notes)))

        all_written_lem : Bool
        all_written_lem = span_written (written notes) s

        refused : Bool
        refused = refused_sheet (table sheet n notes) by.limits

        regroup : (r d l h v m w : Bool) → not (r || false) && (not (not d) && (not (not l) && (not false && (not (not true) && (not (not h) && (not (not v) && (not (m && not w) && true))))))) ≡ l && v && true && (d && h) && not r && (not m || w)
        regroup true d l h v m w = simp and-false
        regroup false false l h v m w = simp and-false
        regroup false true false h v m w = refl
        regroup false true true false v m w = simp and-false
        regroup false true true true false m w = refl
        regroup false true true true true true true = refl
        regroup false true true true true true false = refl
        regroup false true true true true false w = refl

        go : (lives sheet notes u.0 ≡ true) ⊎ (lives sheet notes u.0 ≡ false)
            → not (refused || false) && (not (not (is_domain by.actor)) && (not (not (legal s)) && (not (eqb u.0 0 || ltb i u.0) && (not (not (lives sheet notes u.0)) && (not (not (holds row by.actor)) && (not (not (inside s row.span)) && (not (is_marked row && not all_written_lem) && true)))))))
            ≡ legal s && covers notes u.0 s && lives sheet notes u.0 && noted_as (is_holder by) notes u.0 && not refused && noted_as (is_readable notes s) notes u.0
        go (inl t) =
            rw (given_passes u.0 t, covers_found u.0 s t, t, ← (noted_found (is_holder by) u.0 t), ← (noted_found (is_readable notes s) u.0 t))
            (regroup refused (is_domain by.actor) (legal s) (holds row by.actor) (covers notes u.0 s) (is_marked row) all_written_lem)
        go (inr f) = rw f (simp and-false)

    writes : (slots : List (Slot (List Note))) → length slots ≡ 8 → in_order (table sheet n notes) i ≡ true → (by : Caller) (u : Name) (s : Span) → eqb (judge (view sheet n slots notes i) (Single by (Write u s))) 0 ≡ may_write sheet n by notes u.0 s
    unfolding judge refusals may_use may_write
    writes slots e8 o by u s = first_zero (refusals (view sheet n slots notes i) (Single by (Write u s))) (numbered (view sheet n slots notes i) (Single by (Write u s))) ∙ rw (o, e8, present u.0) (go (test (lives sheet notes u.0)))
      where
        row : Derivation
        row = derivation (lookup u.0 (live_rows (table sheet n notes)))

        refused : Bool
        refused = refused_sheet (table sheet n notes) by.limits

        rw_right : (w : Bool) → not (ltb (cond w 2 1) 2) ≡ w
        rw_right true = refl
        rw_right false = refl

        regroup : (r d l h v w : Bool) → not (r || false) && (not (not d) && (not (not l) && (not false && (not (not true) && (not (not h) && (not (not v) && (w && true))))))) ≡ l && v && true && (d && h) && not r && w
        regroup true d l h v w = simp and-false
        regroup false false l h v w = simp and-false
        regroup false true false h v w = refl
        regroup false true true false v w = simp and-false
        regroup false true true true false w = refl
        regroup false true true true true w = and-true w

        go : (lives sheet notes u.0 ≡ true) ⊎ (lives sheet notes u.0 ≡ false)
            → not (refused || false) && (not (not (is_domain by.actor)) && (not (not (legal s)) && (not (eqb u.0 0 || ltb i u.0) && (not (not (lives sheet notes u.0)) && (not (not (holds row by.actor)) && (not (not (inside s row.span)) && (not (ltb (lookup u.0 (live_rows (table sheet n notes))).right 2) && true)))))))
            ≡ legal s && covers notes u.0 s && lives sheet notes u.0 && noted_as (is_holder by) notes u.0 && not refused && writable sheet notes u.0
        go (inl t) =
            rw (given_passes u.0 t, covers_found u.0 s t, right_found u.0 t, rw_right (writable sheet notes u.0), t, ← (noted_found (is_holder by) u.0 t))
            (regroup refused (is_domain by.actor) (legal s) (holds row by.actor) (covers notes u.0 s) (writable sheet notes u.0))
        go (inr f) = rw f (simp and-false)

  -- ---- above 1,024 rows every request is refused, and nothing is noted

  too_many : (n : ℕ) (slots : List (Slot (List Note))) (i : ℕ) (notes : List Note) → Kept sheet n i notes → leb n 1024 ≡ false → (by : Caller) (u : Name) (s : Span) → (judge (view sheet n slots notes i) (Single by (Read u s)) ≡ 1) × (judge (view sheet n slots notes i) (Single by (Write u s)) ≡ 1)
  unfolding judge refusals in_order
  too_many n slots i notes k f by u s = (rw (rows_fit sheet n i notes k, f), rw (rows_fit sheet n i notes k, f))

  -- no access goes through a name that is not noted
  unnoted : (n : ℕ) (by : Caller) (u : ℕ) (s : Span) → (may_read sheet n by [] u s ≡ false) × (may_write sheet n by [] u s ≡ false)
  unfolding may_read may_write may_use covers derivations
  unnoted n by u s = (rw (and-false (legal s)), rw (and-false (legal s)))

  -- ---- at every match of what is lent and the history

  module _ (n : ℕ) (h : State) (H : History.History) (m : Match sheet n h H) (eight : length H.kept ≡ 8) where
    -- what is so of a history in order, and so where nothing is noted, is so
    either_way : (q : Request) (may : List Note → Bool) → may [] ≡ false → (leb n 1024 ≡ false → judge (view sheet n H.kept H.notes H.count) q ≡ 1)
        → (in_order (table sheet n H.notes) H.count ≡ true → eqb (judge (view sheet n H.kept H.notes H.count) q) 0 ≡ may H.notes)
        → is_allowed (Step.answer h q) ≡ may H.notes
    unfolding Step.answer
    either_way q may none many law = rw (same_judge sheet n h H m q) (go (test (leb n 1024)))
      where
        go : (leb n 1024 ≡ true) ⊎ (leb n 1024 ≡ false) → eqb (judge (view sheet n H.kept H.notes H.count) q) 0 ≡ may H.notes
        go (inl y) = law (m.memory.is_ordered y)
        go (inr f) = rw (many f) (sym (ap may (m.memory.nothing_noted f) ∙ none))

    pub read_allowed : (by : Caller) (u : Name) (s : Span) → is_allowed (Step.answer h (Single by (Read u s))) ≡ may_read sheet n by H.notes u.0 s
    read_allowed by u s = either_way (Single by (Read u s)) (λ notes. may_read sheet n by notes u.0 s) (unnoted n by u.0 s).0 (λ f. (too_many n H.kept H.count H.notes m.memory.kept f by u s).0) (λ o. reads n H.count H.notes m.memory.kept H.kept eight o by u s)

    pub write_allowed : (by : Caller) (u : Name) (s : Span) → is_allowed (Step.answer h (Single by (Write u s))) ≡ may_write sheet n by H.notes u.0 s
    write_allowed by u s = either_way (Single by (Write u s)) (λ notes. may_write sheet n by notes u.0 s) (unnoted n by u.0 s).1 (λ f. (too_many n H.kept H.count H.notes m.memory.kept f by u s).1) (λ o. writes n H.count H.notes m.memory.kept H.kept eight o by u s)
