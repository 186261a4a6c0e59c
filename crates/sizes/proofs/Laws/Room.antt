-- The list of names when it is full: one pass over names and rows, both of which rise, keeps the names that live.
-- Assumes nothing.
use mathlib.Core.Path.{◌≡◌, refl, sym, ap, ◌∙◌}
use mathlib.Core.Logic.{◌⊎◌, inl, inr}
use mathlib.Core.Bool.{Bool, true, false, cond, ◌&&◌}
use mathlib.Core.List.{List}
use Prim.Native.Nat.{ℕ, ◌+◌, ◌≤◌, ◌<◌}
use native.Mathlib.Omega.{arith}
use lib.Dec.{eqb, ltb}
use lib.ListN.{length, get_or, set, length-set}
use lib.Seq.{get_or-set_same, get_or-set_other}
use borrow.Author.Tests.{eqb-true, eqb-false, eq-eqb, ltb-true, ltb-false, lt-ltb}
use Rattle.model.specs.declared.Cap.{Cap}
use Rattle.model.proofs.Offered.{test, clash, and_both}
use Rattle.table.specs.Rows.{name_at, Rise}
use Rattle.table.proofs.Offered.{last}
use Rattle.sizes.specs.Names.{Listed, From, Kept}

-- x is one of the names of the list from i on
pub record Ahead (names : List ℕ) (used i x : ℕ) : Type 0 where
  pub place : ℕ
  pub from : i ≤ place
  pub inside : place < used
  pub is : get_or names place 0 ≡ x

-- i entries are passed, and j of them kept: those of the first j rows
pub record Keeping (T : List Cap) (live : ℕ) (names keys : List ℕ) (used : ℕ) (names' keys' : List ℕ) (j i : ℕ) : Type 0 where
  pub behind : j ≤ i
  pub within : i ≤ used
  pub below : j ≤ live
  pub long_names : length names' ≡ 2048
  pub long_keys : length keys' ≡ 2048
  pub same_names : (k : ℕ) → i ≤ k → get_or names' k 0 ≡ get_or names k 0
  pub same_keys : (k : ℕ) → i ≤ k → get_or keys' k 0 ≡ get_or keys k 0
  pub rows : (k : ℕ) → k < j → get_or names' k 0 ≡ name_at T k
  pub old : (k : ℕ) → k < j → From names keys used (get_or names' k 0) (get_or keys' k 0)
  pub ahead : (k : ℕ) → j ≤ k → k < live → Ahead names used i (name_at T k)

module _ (T : List Cap) (live : ℕ) (names keys : List ℕ) (used : ℕ) (rise : Rise T live) (listed : Listed T live names used) where
  pub keeping_none : length keys ≡ 2048 → Keeping T live names keys used names keys 0 0
  keeping_none e = record {
    behind = omega arith;
    within = omega arith;
    below = omega arith;
    long_names = listed.room;
    long_keys = e;
    same_names = λ k l. refl;
    same_keys = λ k l. refl;
    rows = λ k l. absurd (omega arith);
    old = λ k l. absurd (omega arith);
    ahead = λ k l m. let a = listed.living k m in record { place = a.place; from = omega arith; inside = a.inside; is = a.is };
  }

  module _ (names' keys' : List ℕ) (j i : ℕ) (s : Keeping T live names keys used names' keys' j i) (more : i < used) where
    abbrev name : ℕ
    name = get_or names' i 0

    abbrev key : ℕ
    key = get_or keys' i 0

    abbrev hit : Bool
    hit = ltb j live && eqb (name_at T j) name

    room_names : j < length names'
    room_names = omega (arith, s.behind, s.long_names, listed.fits)

    room_keys : j < length keys'
    room_keys = omega (arith, s.behind, s.long_keys, listed.fits)

    -- what is put at j changes nothing else
    other_name : (k : ℕ) → (k ≡ j → ⊥) → get_or (set names' j name) k 0 ≡ get_or names' k 0
    other_name k n = get_or-set_other names' j k name 0 n

    other_key : (k : ℕ) → (k ≡ j → ⊥) → get_or (set keys' j key) k 0 ≡ get_or keys' k 0
    other_key k n = get_or-set_other keys' j k key 0 n

    early : (k : ℕ) → k < j → k ≡ j → ⊥
    early k l e = omega arith

    late : (k : ℕ) → i + 1 ≤ k → k ≡ j → ⊥
    late k l e = omega (arith, s.behind)

    -- the entry is an old one
    from_here : From names keys used name key
    from_here = record { place = i; inside = more; name_is = sym (s.same_names i (omega arith)); key_is = sym (s.same_keys i (omega arith)) }

    rows_so_far : (k : ℕ) → k < j → get_or (set names' j name) k 0 ≡ name_at T k
    rows_so_far k l = other_name k (early k l) ∙ s.rows k l

    old_so_far : (k : ℕ) → k < j → From names keys used (get_or (set names' j name) k 0) (get_or (set keys' j key) k 0)
    old_so_far k l = rw (other_name k (early k l), other_key k (early k l)) (s.old k l)

    -- a name that is ahead, and is not this entry's, is ahead of the next
    further : (k : ℕ) → Ahead names used i (name_at T k) → (get_or names i 0 ≡ name_at T k → ⊥) → Ahead names used (i + 1) (name_at T k)
    further k a n = record { place = a.place; from = past a.place a.from a.is; inside = a.inside; is = a.is }
      where
        past : (p : ℕ) → i ≤ p → get_or names p 0 ≡ name_at T k → i + 1 ≤ p
        past p l e = go (test (eqb p i))
          where
            go : (eqb p i ≡ true) ⊎ (eqb p i ≡ false) → i + 1 ≤ p
            go (inl t) = absurd (n (ap (λ (q : ℕ). get_or names q 0) (sym (eqb-true p i t)) ∙ e))
            go (inr f) = omega (arith, eqb-false p i f)

    module _ (h : hit ≡ true) where
      in_row : j < live
      in_row = ltb-true j live (and_both (ltb j live) (eqb (name_at T j) name) h).0

      row_is : name_at T j ≡ name
      row_is = eqb-true (name_at T j) name (and_both (ltb j live) (eqb (name_at T j) name) h).1

      more_rows : (k : ℕ) → k < j + 1 → get_or (set names' j name) k 0 ≡ name_at T k
      more_rows k l = go (last k j l)
        where
          go : (k < j) ⊎ (k ≡ j) → get_or (set names' j name) k 0 ≡ name_at T k
          go (inl w) = rows_so_far k w
          go (inr e) = rw e (get_or-set_same names' j name 0 room_names ∙ sym row_is)

      more_old : (k : ℕ) → k < j + 1 → From names keys used (get_or (set names' j name) k 0) (get_or (set keys' j key) k 0)
      more_old k l = go (last k j l)
        where
          go : (k < j) ⊎ (k ≡ j) → From names keys used (get_or (set names' j name) k 0) (get_or (set keys' j key) k 0)
          go (inl w) = old_so_far k w
          go (inr e) = rw (e, get_or-set_same names' j name 0 room_names, get_or-set_same keys' j key 0 room_keys) from_here

      kept_one : Keeping T live names keys used (set names' j name) (set keys' j key) (j + 1) (i + 1)
      kept_one = record {
        behind = omega (arith, s.behind);
        within = omega arith;
        below = omega (arith, in_row);
        long_names = length-set names' j name ∙ s.long_names;
        long_keys = length-set keys' j key ∙ s.long_keys;
        same_names = λ k l. other_name k (late k l) ∙ s.same_names k (omega arith);
        same_keys = λ k l. other_key k (late k l) ∙ s.same_keys k (omega arith);
        rows = more_rows;
        old = more_old;
        ahead = λ k l m. further k (s.ahead k (omega arith) m) (λ e. omega (arith, rise.sorted j k (omega arith) m, row_is, s.same_names i (omega arith), e));
      }

    module _ (h : hit ≡ false) where
      -- this entry is the name of no row that is left
      gone : (k : ℕ) → j ≤ k → k < live → get_or names i 0 ≡ name_at T k → ⊥
      gone k l m e = go (test (eqb k j))
        where
          no_hit : (j < live) → name_at T j ≡ name → ⊥
          no_hit w q = clash (rw (lt-ltb j live w, eq-eqb (name_at T j) name q)) h

          go : (eqb k j ≡ true) ⊎ (eqb k j ≡ false) → ⊥
          go (inl t) = let q = eqb-true k j t in no_hit (omega arith) (ap (name_at T) (sym q) ∙ sym e ∙ sym (s.same_names i (omega arith)))
          go (inr f) =
              let n = eqb-false k j f in
              let w : j < k = omega arith in
              let a = further j (s.ahead j (omega arith) (omega arith)) (λ q. no_hit (omega arith) (sym q ∙ sym (s.same_names i (omega arith)))) in
              omega (arith, listed.rising i a.place (omega (arith, a.from)) a.inside, a.is, e, rise.sorted j k w m)

      kept_none : Keeping T live names keys used (set names' j name) (set keys' j key) j (i + 1)
      kept_none = record {
        behind = omega (arith, s.behind);
        within = omega arith;
        below = s.below;
        long_names = length-set names' j name ∙ s.long_names;
        long_keys = length-set keys' j key ∙ s.long_keys;
        same_names = λ k l. other_name k (late k l) ∙ s.same_names k (omega arith);
        same_keys = λ k l. other_key k (late k l) ∙ s.same_keys k (omega arith);
        rows = rows_so_far;
        old = old_so_far;
        ahead = λ k l m. further k (s.ahead k l m) (gone k l m);
      }

    pub keeping_more : Keeping T live names keys used (set names' j name) (set keys' j key) (cond hit (j + 1) j) (i + 1)
    keeping_more = go (test hit)
      where
        go : (hit ≡ true) ⊎ (hit ≡ false) → Keeping T live names keys used (set names' j name) (set keys' j key) (cond hit (j + 1) j) (i + 1)
        go (inl t) = rw t (kept_one t)
        go (inr f) = rw f (kept_none f)

  pub keeping_all : live ≤ 1024 → (names' keys' : List ℕ) (j i : ℕ) → Keeping T live names keys used names' keys' j i → used ≤ i → Kept T live names keys used names' keys' j
  keeping_all few names' keys' j i s end = record {
    listed = record {
      fits = omega (arith, s.below);
      room = s.long_names;
      rising = λ a b l m. omega (arith, s.rows a (omega arith), s.rows b m, rise.sorted a b l (omega (arith, s.below)));
      living = λ k l. record { place = k; inside = all_rows k l; is = s.rows k (all_rows k l) };
    };
    long = s.long_keys;
    old = s.old;
  }
    where
      all_rows : (k : ℕ) → k < live → k < j
      all_rows k l = go (test (ltb k j))
        where
          go : (ltb k j ≡ true) ⊎ (ltb k j ≡ false) → k < j
          go (inl t) = ltb-true k j t
          go (inr f) = let a = s.ahead k (ltb-false k j f) l in absurd (omega (arith, a.from, a.inside))
