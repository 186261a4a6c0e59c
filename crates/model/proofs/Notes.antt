-- What one more note changes in the history: it makes at most one row, and takes from the others what `ends` and `lowers` say.
-- Assumes nothing.
use mathlib.Core.Path.{◌≡◌, refl, sym, ap, ap₂, ◌∙◌}
use mathlib.Core.Bool.{Bool, true, false, not, cond, ◌&&◌, and-true, or-false}
use mathlib.Core.List.{List, [], ◌∷◌, ◌++◌, map, map-map, map-append}
use Prim.Native.Nat.{ℕ, suc, ◌<◌, ◌≤◌}
use native.Mathlib.Omega.{arith}
use lib.Dec.{eqb}
use lib.ListN.{length}
use borrow.Author.Tests.{ne_eqb}
use Rattle.model.specs.declared.Cap.{Cap}
use Rattle.model.specs.declared.Sheet.{Sheet}
use Rattle.model.specs.Lists.{filter, any}
use Rattle.model.specs.Derivation.{Derivation, ancestry}
use Rattle.model.specs.Table.{row}
use Rattle.model.specs.Effects.{lowered}
use Rattle.model.specs.History.{Note, New, Accessed, Dropped, derived_by, derivations, makes, makes_writable, later, user, Takes, ends, lowers, hits, lives, writable, row_of, alive, rows}
use Rattle.model.proofs.Lists.{All, All_map, All_sub, All_filter, All_mapped, and_neither, filter_cong, filter_filter, filter_map, filter_append, map_cong}
use Rattle.model.proofs.Ancestries.{Falling, same, below_differs, ancestry_here, ancestry_past, ancestry_step}

-- ---- notes in order

-- names given out before a note are below this bound, if those after it are below n
abbrev pub floor : ℕ → Note → ℕ
floor n (New b r) = b.name
floor n (Accessed a u s) = n
floor n (Dropped u) = n

abbrev pub Fresh : ℕ → Note → Type 0
Fresh n (New b r) = b.name < n
Fresh n (Accessed a u s) = Unit {0}
Fresh n (Dropped u) = Unit {0}

-- new names rise with the notes, up to a bound, and each note goes through a name given out before
abbrev pub Sound : ℕ → List Note → Type 0
Sound n [] = Unit {0}
Sound n (w ∷ notes) = Fresh n w × (user w < floor n w) × Sound (floor n w) notes

pub floor_below : (n : ℕ) (w : Note) → Fresh n w → floor n w ≤ n
floor_below n (New b r) h = omega arith
floor_below n (Accessed a u s) h = omega arith
floor_below n (Dropped u) h = omega arith

-- Card 11: notes that stood at a mark are in order under a later bound
pub sound_wider : (n m : ℕ) (notes : List Note) → n ≤ m → Sound n notes → Sound m notes
sound_wider n m [] l s = tt
sound_wider n m (New b r ∷ notes) l s = (omega arith, s.1, s.2)
sound_wider n m (Accessed a u t ∷ notes) l s = (tt, omega arith, sound_wider n m notes l s.2)
sound_wider n m (Dropped u ∷ notes) l s = (tt, omega arith, sound_wider n m notes l s.2)

users_below : (n m : ℕ) (notes : List Note) → n ≤ m → Sound n notes → All (λ w. user w < m) notes
users_below n m [] h s = tt
users_below n m (w ∷ notes) h s = let l = floor_below n w s.0 in (omega arith, users_below (floor n w) m notes (omega arith) s.2)

pub falling : (n : ℕ) (notes : List Note) → Sound n notes → Falling n (derivations notes)
unfolding derivations derived_by
falling n [] s = tt
falling n (New b r ∷ notes) s = (s.0, s.1, falling b.name notes s.2)
falling n (Accessed a u t ∷ notes) s = falling n notes s.2
falling n (Dropped u ∷ notes) s = falling n notes s.2

later_cong : (x : ℕ) (p q : Note → Bool) (notes : List Note) → All (λ w. p w ≡ q w) notes → later x p notes ≡ later x q notes
unfolding later
later_cong x p q [] h = refl
later_cong x p q (w ∷ notes) h = cc (later_cong x p q notes h.1)

-- ---- a name given out before the note

makes_older : (n x : ℕ) (w : Note) → x < floor n w → makes x w ≡ false
unfolding makes
makes_older n x (New b r) h = below_differs h
makes_older n x (Accessed a u s) h = refl
makes_older n x (Dropped u) h = refl

makes_writable_older : (n x : ℕ) (w : Note) → x < floor n w → makes_writable x w ≡ false
unfolding makes_writable
makes_writable_older n x (New b r) h = rw (below_differs h)
makes_writable_older n x (Accessed a u s) h = refl
makes_writable_older n x (Dropped u) h = refl

unmade : (n : ℕ) (notes : List Note) → Sound n notes → any (makes_writable n) notes ≡ false
unfolding makes_writable
unmade n notes s = go n notes (omega arith) s
  where
    go : (m : ℕ) (notes : List Note) → m ≤ n → Sound m notes → any (makes_writable n) notes ≡ false
    go m [] l s = refl
    go m (New b r ∷ notes) l s = rw (ne_eqb n b.name (λ (e : n ≡ b.name). omega arith)) (go b.name notes (omega arith) s.2)
    go m (Accessed a u t ∷ notes) l s = go m notes l s.2
    go m (Dropped u ∷ notes) l s = go m notes l s.2

-- a right taken from a row that had it or not
right_left : (writable hit : Bool) → ◌≡◌ {A = ℕ} (cond (writable && not hit) 2 1) (cond hit 1 (cond writable 2 1))
right_left true true = refl
right_left true false = refl
right_left false true = refl
right_left false false = refl

-- ---- by a conflict sheet

-- what is taken from rows is the same where the same names end and the same are lowered
pub taken_cong : (end lower end' lower' : ℕ → Bool) (rows : List Cap) → All (λ c. (end c.name.0 ≡ end' c.name.0) × (lower c.name.0 ≡ lower' c.name.0)) rows
    → map (λ c. lowered (lower c.name.0) c) (filter (λ c. not (end c.name.0)) rows) ≡ map (λ c. lowered (lower' c.name.0) c) (filter (λ c. not (end' c.name.0)) rows)
taken_cong end lower end' lower' rows h =
    ap (map (λ c. lowered (lower c.name.0) c)) (filter_cong (λ c. not (end c.name.0)) (λ c. not (end' c.name.0)) rows (All_map _ _ (λ c e. ap not e.0) rows h))
    ∙ map_cong (λ c. lowered (lower c.name.0) c) (λ c. lowered (lower' c.name.0) c) (filter (λ c. not (end' c.name.0)) rows)
    (All_sub (λ c. not (end' c.name.0)) _ rows (All_map _ _ (λ c e. ap (λ hit. lowered hit c) e.1) rows h))

module _ (sheet : Sheet) where
  -- what holds of the row of each living name holds of every row
  pub rows_all : (notes : List Note) (P : Cap → Type 0) → All (λ b. lives sheet notes b.name ≡ true → P (row_of sheet notes b)) (derivations notes) → All P (rows sheet notes)
  unfolding rows
  rows_all notes P h = All_mapped (row_of sheet notes) P (filter (alive sheet notes) (derivations notes)) (All_filter (alive sheet notes) (λ b. P (row_of sheet notes b)) (derivations notes) h)

  module _ (n : ℕ) (w : Note) (notes : List Note) (s : Sound n (w ∷ notes)) where
    pub ancestry_older : (x : ℕ) → x < floor n w → ancestry (derivations (w ∷ notes)) x ≡ ancestry (derivations notes) x
    unfolding derivations derived_by
    ancestry_older x h = go w h
      where
        go : (w : Note) → x < floor n w → ancestry (derivations (w ∷ notes)) x ≡ ancestry (derivations notes) x
        go (New b r) h = ancestry_past b (derivations notes) x (below_differs h)
        go (Accessed a u t) h = refl
        go (Dropped u) h = refl

    hits_older : (takes : Takes) (x : ℕ) → x < floor n w → (v : Note) → user v < floor n w → hits takes (derivations (w ∷ notes)) x v ≡ hits takes (derivations notes) x v
    unfolding hits
    hits_older takes x h v l = ap₂ (takes v) (ancestry_older (user v) l) (ancestry_older x h)

    older : All (λ v. user v < floor n w) notes
    older = users_below (floor n w) (floor n w) notes (omega arith) s.2

    pub lives_older : (x : ℕ) → x < floor n w → lives sheet (w ∷ notes) x ≡ lives sheet notes x && not (hits (ends sheet) (derivations (w ∷ notes)) x w)
    unfolding lives later
    lives_older x h =
        rw (makes_older n x w h, later_cong x (hits (ends sheet) (derivations (w ∷ notes)) x) (hits (ends sheet) (derivations notes) x) notes (All_map _ _ (hits_older (ends sheet) x h) notes older))
        (and_neither (any (makes x) notes) (hits (ends sheet) (derivations (w ∷ notes)) x w) (later x (hits (ends sheet) (derivations notes) x) notes))

    pub writable_older : (x : ℕ) → x < floor n w → writable sheet (w ∷ notes) x ≡ writable sheet notes x && not (hits (lowers sheet) (derivations (w ∷ notes)) x w)
    unfolding writable later
    writable_older x h =
        rw (makes_older n x w h, makes_writable_older n x w h, later_cong x (hits (lowers sheet) (derivations (w ∷ notes)) x) (hits (lowers sheet) (derivations notes) x) notes (All_map _ _ (hits_older (lowers sheet) x h) notes older))
        (and_neither (any (makes_writable x) notes) (hits (lowers sheet) (derivations (w ∷ notes)) x w) (later x (hits (lowers sheet) (derivations notes) x) notes))

    row_of_older : (b : Derivation) → b.name < floor n w → row_of sheet (w ∷ notes) b ≡ lowered (hits (lowers sheet) (derivations (w ∷ notes)) b.name w) (row_of sheet notes b)
    unfolding row_of
    row_of_older b h = rw (ancestry_older b.name h, writable_older b.name h, right_left (writable sheet notes b.name) (hits (lowers sheet) (derivations (w ∷ notes)) b.name w))

    pub named_before : All (λ b. b.name < floor n w) (derivations notes)
    named_before = All_map _ _ (λ b h. h.0) (derivations notes) (ancestry_step (floor n w) (derivations notes) (falling (floor n w) notes s.2))

  -- ---- the new name

  module _ (n : ℕ) (b : Derivation) (r : ℕ) (notes : List Note) (s : Sound n (New b r ∷ notes)) where
    lives_new : lives sheet (New b r ∷ notes) b.name ≡ true
    unfolding lives makes later
    lives_new = rw (same b.name)

    writable_new : writable sheet (New b r ∷ notes) b.name ≡ eqb r 2
    unfolding writable makes makes_writable later
    writable_new = rw (same b.name, unmade b.name notes s.2) (and-true _ ∙ or-false _)

    -- it stands in its row as given, one deeper than its parent
    pub row_of_new : row_of sheet (New b r ∷ notes) b ≡ row b (cond (eqb r 2) 2 1) (suc (length (ancestry (derivations notes) b.parent)))
    unfolding row_of derivations derived_by
    row_of_new = rw (writable_new, ancestry_here b (derivations notes) b.name (same b.name))

  derived_by_live : (n : ℕ) (w : Note) (notes : List Note) → Sound n (w ∷ notes) → filter (alive sheet (w ∷ notes)) (derived_by w) ≡ derived_by w
  unfolding derived_by
  derived_by_live n (New b r) notes s = rw (lives_new n b r notes s)
  derived_by_live n (Accessed a u t) notes s = refl
  derived_by_live n (Dropped u) notes s = refl

  -- ---- the rows after the note

  -- what a note takes from a row, by the ancestries of these derivations
  abbrev pub lower : List Derivation → Note → Cap → Cap
  lower B w c = lowered (hits (lowers sheet) B c.name.0 w) c

  abbrev pub left : List Derivation → Note → Cap → Bool
  left B w c = not (hits (ends sheet) B c.name.0 w)

  -- the rows without what the note takes from them
  abbrev pub revoked_by : List Derivation → Note → List Cap → List Cap
  revoked_by B w rows = map (lower B w) (filter (left B w) rows)

  -- so by other derivations with the same ancestries
  pub revoked_by_cong : (B C : List Derivation) (w : Note) (rows : List Cap) → All (λ c. (takes : Takes) → hits takes B c.name.0 w ≡ hits takes C c.name.0 w) rows → revoked_by B w rows ≡ revoked_by C w rows
  revoked_by_cong B C w rows h =
      taken_cong (λ x. hits (ends sheet) B x w) (λ x. hits (lowers sheet) B x w) (λ x. hits (ends sheet) C x w) (λ x. hits (lowers sheet) C x w) rows (All_map _ _ (λ c e. (e (ends sheet), e (lowers sheet))) rows h)

  -- the row that a note makes, and the others without what it takes from them
  module _ (n : ℕ) (w : Note) (notes : List Note) (s : Sound n (w ∷ notes)) where
    spared : Derivation → Bool
    spared b = not (hits (ends sheet) (derivations (w ∷ notes)) b.name w)

    -- a name lives on when it lived and the note does not end it
    alive_older : filter (alive sheet (w ∷ notes)) (derivations notes) ≡ filter spared (filter (alive sheet notes) (derivations notes))
    unfolding spared
    alive_older =
        filter_cong (alive sheet (w ∷ notes)) (λ b. alive sheet notes b && spared b) (derivations notes) (All_map _ _ (λ b. lives_older n w notes s b.name) (derivations notes) (named_before n w notes s))
        ∙ sym (filter_filter (alive sheet notes) spared (derivations notes))

    rows_older : map (row_of sheet (w ∷ notes)) (filter (alive sheet (w ∷ notes)) (derivations notes)) ≡ revoked_by (derivations (w ∷ notes)) w (rows sheet notes)
    unfolding rows row_of spared
    rows_older =
        ap (map (row_of sheet (w ∷ notes))) alive_older
        ∙ map_cong (row_of sheet (w ∷ notes)) (λ b. lower (derivations (w ∷ notes)) w (row_of sheet notes b)) living
        (All_sub spared _ (filter (alive sheet notes) (derivations notes)) (All_sub (alive sheet notes) _ (derivations notes) (All_map _ _ (row_of_older n w notes s) (derivations notes) (named_before n w notes s))))
        ∙ sym (map-map (lower (derivations (w ∷ notes)) w) (row_of sheet notes) living)
        ∙ ap (map (lower (derivations (w ∷ notes)) w)) (sym (filter_map (row_of sheet notes) (left (derivations (w ∷ notes)) w) (filter (alive sheet notes) (derivations notes))))
      where
        living : List Derivation
        living = filter spared (filter (alive sheet notes) (derivations notes))

    pub rows_noted : rows sheet (w ∷ notes) ≡ map (row_of sheet (w ∷ notes)) (derived_by w) ++ revoked_by (derivations (w ∷ notes)) w (rows sheet notes)
    unfolding rows derivations
    rows_noted =
        ap (map (row_of sheet (w ∷ notes))) (filter_append (alive sheet (w ∷ notes)) (derived_by w) (derivations notes) ∙ ap (λ l. l ++ filter (alive sheet (w ∷ notes)) (derivations notes)) (derived_by_live n w notes s))
        ∙ map-append (row_of sheet (w ∷ notes)) (derived_by w) (filter (alive sheet (w ∷ notes)) (derivations notes))
        ∙ ap (λ l. map (row_of sheet (w ∷ notes)) (derived_by w) ++ l) rows_older
