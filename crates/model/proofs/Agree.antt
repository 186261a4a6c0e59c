-- A parent lives as long as its children, so the live rows have the ancestries that the notes have:
-- an event does to the rows what its note does to the history.
-- Assumes nothing.
use mathlib.Core.Path.{◌≡◌, refl, sym, ap, ap₂, ◌∙◌}
use mathlib.Core.Logic.{◌⊎◌, inl, inr}
use mathlib.Core.Bool.{Bool, true, false, not, ◌&&◌, ◌||◌, and-true, or-true}
use mathlib.Core.List.{List, ◌∷◌, ◌++◌, map, map-map}
use Prim.Native.Nat.{ℕ, ◌<◌}
use native.Mathlib.Omega.{arith}
use lib.Dec.{eqb}
use borrow.Author.Tests.{ne_eqb, not-true}
use Rattle.model.specs.declared.Access.TheVariants.{Writing}
use Rattle.model.specs.declared.Sheet.{Sheet}
use Rattle.model.specs.Lists.{filter, any}
use Rattle.model.specs.Derivation.{Derivation, ancestry, in_subtree, on_ancestry}
use Rattle.model.specs.Strike.{is_end, strike, reached, reclaimed}
use Rattle.model.specs.Table.{named, derivation}
use Rattle.model.specs.Table
use Rattle.model.specs.History.{Note, New, Accessed, Dropped, derived_by, derivations, user, Takes, ends, hits, lives, row_of, alive, rows}
use Rattle.model.proofs.Lists.{All, All_map, All_zip, All_of, All_append, All_last, test, clash, and_both, or_neither, any_false, map_id}
use Rattle.model.proofs.Ancestries.{Closed, Falling, Step, ancestry_step, ancestry_kept, falling_kept}
use Rattle.model.proofs.Notes.{Sound, floor, falling, named_before, ancestry_older, lives_older, rows_all, revoked_by, revoked_by_cong, rows_noted}

-- ---- a parent lives as long as its children

and_or : (a p q : Bool) → a && (p || q) ≡ false → a && q ≡ false
and_or true p q h = (or_neither p q h).1
and_or false p q h = refl

module _ (sheet : Sheet) where
  -- what ends an ancestor ends its descendants
  ends_up : (w : Note) (through above : List Derivation) (b : Derivation) → ends sheet w through (b ∷ above) ≡ false → ends sheet w through above ≡ false
  unfolding ends reached reclaimed on_ancestry
  ends_up (New c r) through above b h = and_or (eqb c.parent 0) (is_end (strike sheet Writing c.span through (b ∷ above))) (reached sheet is_end Writing c.span through above) h
  ends_up (Accessed a u s) through above b h = (or_neither (is_end (strike sheet a s through (b ∷ above))) (reached sheet is_end a s through above) h).1
  ends_up (Dropped u) through above b h = (or_neither (eqb u b.name) (in_subtree u above) h).1

  -- a note goes through a living name, or through none
  abbrev pub Through : List Note → Note → Type 0
  Through notes w = eqb (user w) 0 || lives sheet notes (user w) ≡ true

  pub closed_noted : (n : ℕ) (w : Note) (notes : List Note) → Sound n (w ∷ notes) → Through notes w → Closed (lives sheet notes) (derivations notes) → Closed (lives sheet (w ∷ notes)) (derivations (w ∷ notes))
  unfolding derivations derived_by hits ends reclaimed
  closed_noted n w notes s p c =
      All_append _ (derived_by w) (derivations notes) (made w s p)
      (All_map _ _ stays (derivations notes)
      (All_zip _ _ (derivations notes) c
      (All_zip _ _ (derivations notes) (named_before sheet n w notes s) (All_last (Step n (derivations (w ∷ notes))) (derived_by w) (derivations notes) (ancestry_step n (derivations (w ∷ notes)) (falling n (w ∷ notes) s))))))
    where
      Under : List Note → Derivation → Type 0
      Under notes b = eqb b.parent 0 || lives sheet notes b.parent ≡ true

      parent_lives : (w : Note) → Sound n (w ∷ notes) → (b : Derivation) → b.parent < floor n w → Under notes b → hits (ends sheet) (derivations (w ∷ notes)) b.parent w ≡ false → Under (w ∷ notes) b
      parent_lives w s b l u e = rw (lives_older sheet n w notes s b.parent l, e, and-true (lives sheet notes b.parent)) u

      made : (w : Note) → Sound n (w ∷ notes) → Through notes w → All (λ b. lives sheet (w ∷ notes) b.name ≡ true → Under (w ∷ notes) b) (derived_by w)
      -- a create's parent is 0, and a borrow ends nothing
      made (New b r) s p = (λ e. go (test (eqb b.parent 0)), tt)
        where
          go : (eqb b.parent 0 ≡ true) ⊎ (eqb b.parent 0 ≡ false) → Under (New b r ∷ notes) b
          go (inl t) = rw t
          go (inr f) = parent_lives (New b r) s b s.1 p (rw f)
      made (Accessed a u t) s p = tt
      made (Dropped u) s p = tt

      stays : (b : Derivation) → (lives sheet notes b.name ≡ true → Under notes b) × ((b.name < floor n w) × Step n (derivations (w ∷ notes)) b) → lives sheet (w ∷ notes) b.name ≡ true → Under (w ∷ notes) b
      stays b (row_fits_parent, (l, step)) e =
          let p = and_both (lives sheet notes b.name) (not (hits (ends sheet) (derivations (w ∷ notes)) b.name w)) (rw (lives_older sheet n w notes s b.name l) at e) in
          parent_lives w s b (omega (arith, l, step.1)) (row_fits_parent p.0) (ends_up w (ancestry (derivations (w ∷ notes)) (user w)) (ancestry (derivations (w ∷ notes)) b.parent) b (rw step.2 at (not-true (hits (ends sheet) (derivations (w ∷ notes)) b.name w) p.1)))

  -- ---- the ancestries of the rows

  module _ (n : ℕ) (notes : List Note) (s : Sound n notes) (c : Closed (lives sheet notes) (derivations notes)) where
    derivations_rows : Table.derivations (rows sheet notes) ≡ filter (alive sheet notes) (derivations notes)
    unfolding rows row_of
    derivations_rows = map-map derivation (row_of sheet notes) (filter (alive sheet notes) (derivations notes)) ∙ map_id (filter (alive sheet notes) (derivations notes))

    pub falling_rows : Falling n (Table.derivations (rows sheet notes))
    falling_rows = rw derivations_rows (falling_kept (alive sheet notes) n (derivations notes) (falling n notes s))

    pub ancestry_rows : (x : ℕ) → eqb x 0 || lives sheet notes x ≡ true → ancestry (derivations notes) x ≡ ancestry (Table.derivations (rows sheet notes)) x
    ancestry_rows x h = sym (rw derivations_rows (ancestry_kept (lives sheet notes) n (derivations notes) (falling n notes s) c x h))

    pub rows_live : All (λ r. lives sheet notes r.name.0 ≡ true) (rows sheet notes)
    unfolding row_of
    rows_live = rows_all sheet notes (λ r. lives sheet notes r.name.0 ≡ true) (All_of (λ b. lives sheet notes b.name ≡ true → lives sheet notes b.name ≡ true) (λ b e. e) (derivations notes))

    pub present_lives : (x : ℕ) → any (named x) (rows sheet notes) ≡ true → lives sheet notes x ≡ true
    present_lives x h = go (test (lives sheet notes x))
      where
        go : (lives sheet notes x ≡ true) ⊎ (lives sheet notes x ≡ false) → lives sheet notes x ≡ true
        go (inl e) = e
        go (inr e) = clash h (any_false (named x) (rows sheet notes) (All_map _ _ (λ r l. ne_eqb x r.name.0 (λ (q : x ≡ r.name.0). clash l (ap (lives sheet notes) (sym q) ∙ e))) (rows sheet notes) rows_live))

    -- ---- a note takes from the rows what it takes by their own ancestries

    hits_rows : (m : ℕ) (w : Note) → Sound m (w ∷ notes) → Through notes w → (x : ℕ) → lives sheet notes x ≡ true → x < floor m w
        → (takes : Takes) → hits takes (derivations (w ∷ notes)) x w ≡ hits takes (Table.derivations (rows sheet notes)) x w
    unfolding hits
    hits_rows m w q t x h l takes =
        ap₂ (takes w) (ancestry_older sheet m w notes q (user w) q.1 ∙ ancestry_rows (user w) t) (ancestry_older sheet m w notes q x l ∙ ancestry_rows x (rw h (or-true (eqb x 0))))

    -- the rows after a note, by their own ancestries
    pub rows_after_lem : (m : ℕ) (w : Note) → Sound m (w ∷ notes) → Through notes w
        → rows sheet (w ∷ notes) ≡ map (row_of sheet (w ∷ notes)) (derived_by w) ++ revoked_by sheet (Table.derivations (rows sheet notes)) w (rows sheet notes)
    unfolding row_of
    rows_after_lem m w q t =
        rows_noted sheet m w notes q
        ∙ ap (λ l. map (row_of sheet (w ∷ notes)) (derived_by w) ++ l)
        (revoked_by_cong sheet (derivations (w ∷ notes)) (Table.derivations (rows sheet notes)) w (rows sheet notes)
        (rows_all sheet notes (λ r. (takes : Takes) → hits takes (derivations (w ∷ notes)) r.name.0 w ≡ hits takes (Table.derivations (rows sheet notes)) r.name.0 w)
        (All_map _ _ (λ b l h. hits_rows m w q t b.name h l) (derivations notes) (named_before sheet m w notes q))))
