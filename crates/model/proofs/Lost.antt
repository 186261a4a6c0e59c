-- Lost rights never come back.
-- Assumes nothing.
use mathlib.Core.Path.{◌≡◌, refl, sym, ◌∙◌}
use mathlib.Core.Bool.{Bool, true, false, not}
use mathlib.Core.List.{List, [], ◌∷◌, ◌++◌, map}
use Prim.Native.Nat.{ℕ, zero, suc, ◌<◌, ◌≤◌}
use native.Mathlib.Omega.{arith}
use borrow.Author.Tests.{not-true}
use Rattle.model.specs.declared.Event.TheVariants.{Create, Borrow, Read, Write, Drop}
use Rattle.model.specs.Requests.{Request, Single, Group, Mark, Back, is_back}
use Rattle.model.specs.declared.Sheet.{Sheet}
use Rattle.model.specs.Lists.{final}
use Rattle.model.specs.Refusals.{judge}
use Rattle.model.specs.Effects.{issued_after}
use Rattle.model.specs.History.{Note, Dropped, derivations, ends, lowers, hits, lives, writable, lives_rw, view, notes_of, History, notes_after, outcome, after, empty_history, history_after}
use Rattle.model.specs.Step.{State, initial}
use Rattle.model.specs.Step
use Rattle.model.specs.Demand3.{no_back}
use Rattle.model.specs.declared.Tally.{Tally}
use Rattle.model.proofs.Lists.{clash, unless, and_both, final_append}
use Rattle.model.proofs.Notes.{Sound, floor, floor_below, lives_older, writable_older}
use Rattle.model.proofs.Match.{count_raised, Kept, Match, kept_next, run, at_first, match_after}
use Rattle.model.proofs.Allowed.{lives_given}

-- names given out before some notes are below this bound
abbrev floors : ℕ → List Note → ℕ
floors n [] = n
floors n (w ∷ notes) = floors (floor n w) notes

-- a name given out is below the floor of each later note
floors_next : (notes : List Note) (i : ℕ) (q : Request) {x : ℕ} → x < suc i → x < floors (suc (issued_after i q)) (notes_of notes i q)
unfolding notes_of
floors_next notes i (Single by (Create w s r)) l = l
floors_next notes i (Single by (Borrow w u s r)) l = l
floors_next notes i (Single by (Read u s)) l = l
floors_next notes i (Single by (Write u s)) l = l
floors_next notes i (Single by (Drop u)) l = l
floors_next notes i (Group by names) {x} l = dropped names
  where
    dropped : (names : List ℕ) → x < floors (suc i) (map Dropped names)
    dropped [] = l
    dropped (u ∷ names) = dropped names
floors_next notes i (Mark by k) l = l
floors_next notes i (Back by k) l = l

module _ (sheet : Sheet) where
  -- ---- the count never falls

  module _ (n : ℕ) where
    count_outcome : (H : History) (q : Request) (j : ℕ) → H.count ≤ (outcome j H q).count
    count_outcome H q zero = count_raised H.count q
    count_outcome H q (suc j) = omega arith

    count_after : (H : History) (q : Request) → H.count ≤ (after sheet n H q).count
    unfolding after
    count_after H q = count_outcome H q (judge (view sheet n H.kept H.notes H.count) q)

    count_final : (qs : List Request) (H : History) → H.count ≤ (final (after sheet n) H qs).count
    count_final [] H = omega arith
    count_final (q ∷ qs) H = omega (arith, count_after H q, count_final qs (after sheet n H q))

  -- ---- a right of a name, which no note gives back

  module _ (x : ℕ) (has : List Note → Bool) (back : (n : ℕ) (w : Note) (notes : List Note) → Sound n (w ∷ notes) → x < floor n w → has (w ∷ notes) ≡ true → has notes ≡ true) (n : ℕ) where
    had_noted : (m : ℕ) (later notes : List Note) → Sound m (later ++ notes) → x < floors m later → has (later ++ notes) ≡ true → has notes ≡ true
    had_noted m [] notes s l h = h
    had_noted m (w ∷ later) notes s l h = had_noted (floor m w) later notes s.2 l (back m w (later ++ notes) s (below later (floor m w) (sound_first later (floor m w) s.2) l) h)
      where
        sound_first : (later : List Note) (m : ℕ) → Sound m (later ++ notes) → Sound m later
        sound_first [] m s = tt
        sound_first (w ∷ later) m s = (s.0, s.1, sound_first later (floor m w) s.2)

        below : (later : List Note) (m : ℕ) → Sound m later → x < floors m later → x < m
        below [] m s l = l
        below (w ∷ later) m s l = omega (arith, floor_below m w s.0, below later (floor m w) s.2 l)

    -- only a back brings it back
    had_allowed : (h : State) (H : History) → Match sheet n h H → x < suc H.count → (q : Request) → is_back q ≡ false → judge (view sheet n H.kept H.notes H.count) q ≡ 0 → has (notes_after H q) ≡ true → has H.notes ≡ true
    had_allowed h H m l (Single by e) b z v = had_noted (suc (issued_after H.count (Single by e))) (notes_of H.notes H.count (Single by e)) H.notes (kept_next sheet n H.count H.notes m.memory.kept H.kept (Single by e) z).sound (floors_next H.notes H.count (Single by e) l) v
    had_allowed h H m l (Group by names) b z v = had_noted (suc H.count) (notes_of H.notes H.count (Group by names)) H.notes (kept_next sheet n H.count H.notes m.memory.kept H.kept (Group by names) z).sound (floors_next H.notes H.count (Group by names) l) v
    had_allowed h H m l (Mark by k) b z e = e
    had_allowed h H m l (Back by k) b z e = clash refl b

    had_outcome : (h : State) (H : History) → Match sheet n h H → x < suc H.count → (q : Request) → is_back q ≡ false → (j : ℕ) → judge (view sheet n H.kept H.notes H.count) q ≡ j → has (outcome j H q).notes ≡ true → has H.notes ≡ true
    had_outcome h H m l q b zero z e = had_allowed h H m l q b z e
    had_outcome h H m l q b (suc j) z e = e

    had_after : (h : State) (H : History) → Match sheet n h H → x < suc H.count → (q : Request) → is_back q ≡ false → has (after sheet n H q).notes ≡ true → has H.notes ≡ true
    unfolding after
    had_after h H m l q b e = had_outcome h H m l q b (judge (view sheet n H.kept H.notes H.count) q) refl e

    had_final : (qs : List Request) (h : State) (H : History) → Match sheet n h H → x < suc H.count → no_back qs ≡ true → has (final (after sheet n) H qs).notes ≡ true → has H.notes ≡ true
    had_final [] h H m l b e = e
    had_final (q ∷ qs) h H m l b e =
        let p = and_both (not (is_back q)) (no_back qs) b in
        had_after h H m l q (not-true (is_back q) p.0) (had_final qs (Step.after sheet h q) (after sheet n H q) (match_after sheet n h H m q) (omega (arith, count_after n H q)) p.1 e)

    -- had after a first part of the list, and not after a longer part: not had however the list goes on without a back
    never_again : ((i : ℕ) (notes : List Note) → Kept sheet n i notes → has notes ≡ true → x < suc i) → (t : Tally) → t.issued ≡ 0
        → (qs fs gs : List Request) → no_back gs ≡ true → has (history_after sheet n qs).notes ≡ true → has (history_after sheet n (qs ++ fs)).notes ≡ false → has (history_after sheet n (qs ++ fs ++ gs)).notes ≡ false
    never_again new_name t z qs fs gs b h lost =
        unless (has (history_after sheet n (qs ++ fs ++ gs)).notes)
        (λ e. clash (had_final gs (final (Step.after sheet) (initial n t) (qs ++ fs)) (history_after sheet n (qs ++ fs)) (run sheet n (qs ++ fs) (initial n t) empty_history (at_first sheet n t z)).1 issued b (rw (final_append (after sheet n) empty_history (qs ++ fs) gs) at e)) lost)
      where
        issued : x < suc (history_after sheet n (qs ++ fs)).count
        issued = rw (final_append (after sheet n) empty_history qs fs) (omega (arith, new_name (history_after sheet n qs).count (history_after sheet n qs).notes (run sheet n qs (initial n t) empty_history (at_first sheet n t z)).1.memory.kept h, count_final n fs (history_after sheet n qs)))

  -- ---- life, and the right to write

  lives_back : (x n : ℕ) (w : Note) (notes : List Note) → Sound n (w ∷ notes) → x < floor n w → lives sheet (w ∷ notes) x ≡ true → lives sheet notes x ≡ true
  lives_back x n w notes s l h = (and_both (lives sheet notes x) (not (hits (ends sheet) (derivations (w ∷ notes)) x w)) (sym (lives_older sheet n w notes s x l) ∙ h)).0

  writable_back : (x n : ℕ) (w : Note) (notes : List Note) → Sound n (w ∷ notes) → x < floor n w → writable sheet (w ∷ notes) x ≡ true → writable sheet notes x ≡ true
  writable_back x n w notes s l h = (and_both (writable sheet notes x) (not (hits (lowers sheet) (derivations (w ∷ notes)) x w)) (sym (writable_older sheet n w notes s x l) ∙ h)).0

  -- A name that lives after some first part of the list, and not after a longer part, never lives again.
  pub never_lives_again : (n : ℕ) (t : Tally) → t.issued ≡ 0 → (x : ℕ) (qs fs gs : List Request) → no_back gs ≡ true → lives sheet (history_after sheet n qs).notes x ≡ true → lives sheet (history_after sheet n (qs ++ fs)).notes x ≡ false → lives sheet (history_after sheet n (qs ++ fs ++ gs)).notes x ≡ false
  never_lives_again n t z x = never_again x (λ notes. lives sheet notes x) (lives_back x) n (λ i notes k h. (lives_given sheet n i notes k x h).1) t z

  -- A name that is `rw` after some first part, and not after a longer part, is never `rw` again.
  pub never_rw_again : (n : ℕ) (t : Tally) → t.issued ≡ 0 → (x : ℕ) (qs fs gs : List Request) → no_back gs ≡ true → lives_rw sheet (history_after sheet n qs).notes x ≡ true → lives_rw sheet (history_after sheet n (qs ++ fs)).notes x ≡ false → lives_rw sheet (history_after sheet n (qs ++ fs ++ gs)).notes x ≡ false
  never_rw_again n t z x = never_again x (λ notes. lives_rw sheet notes x) back n (λ i notes k h. (lives_given sheet n i notes k x (and_both (lives sheet notes x) (writable sheet notes x) h).0).1) t z
    where
      back : (n : ℕ) (w : Note) (notes : List Note) → Sound n (w ∷ notes) → x < floor n w → lives_rw sheet (w ∷ notes) x ≡ true → lives_rw sheet notes x ≡ true
      back n w notes s l h = let p = and_both (lives sheet (w ∷ notes) x) (writable sheet (w ∷ notes) x) h in rw (lives_back x n w notes s l p.0, writable_back x n w notes s l p.1)
