-- Rows after their marks: the gaps close, and the rest is cleared.
-- Assumes nothing.
use mathlib.Core.Path.{◌≡◌, refl, sym, ap, subst, ◌∙◌}
use mathlib.Core.Logic.{◌⊎◌, inl, inr}
use mathlib.Core.Bool.{Bool, true, false, cond}
use mathlib.Core.List.{List, ◌∷◌}
use Prim.Native.Nat.{ℕ, zero, suc, ◌+◌, ◌≤◌, ◌<◌}
use native.Mathlib.Numerals.{add-one}
use native.Mathlib.Omega.{arith}
use lib.Dec.{eqb, ltb}
use lib.ListN.{length, get_or, set, length-set}
use lib.Seq.{get_or-set_same, get_or-set_other}
use borrow.Author.Tests.{ltb-true, ltb-false, lt-ltb}
use Rattle.model.specs.declared.Cap.{Cap}
use Rattle.model.specs.Lists.{any}
use Rattle.model.specs.Table.{empty_row, named, lent_table}
use Rattle.model.specs.Effects.{lowered, revoke}
use Rattle.table.specs.Rows.{name_at, parent_at, before, Filled, Found, Places}
use Rattle.rules.specs.Engine.{mark, Marked, Downward, Stays, kept, Closes, Clears, Lowers, Settled}
use Rattle.model.proofs.Offered.{All, test, or_neither}
use Rattle.table.proofs.Offered.{last, before_suc, before_same, at_before, Alike, places_same, places_more, places_past, before_lent}

-- ---- closing up

pub record Closing (marks : List ℕ) (T U : List Cap) (i left : ℕ) : Type 0 where
  pub fits : left ≤ i
  pub rows : before U left ≡ kept marks T i
  pub rest : (j : ℕ) → i ≤ j → get_or U j empty_row ≡ get_or T j empty_row

-- what one turn does: the row i goes to `left`, if its mark is below 2
abbrev pub moved : List ℕ → List Cap → ℕ → ℕ → List Cap
moved marks U i left = cond (ltb (get_or marks i 0) 2) (set U left (lowered (eqb (get_or marks i 0) 1) (get_or U i empty_row))) U

abbrev pub count_allowed : List ℕ → ℕ → ℕ → ℕ
count_allowed marks i left = cond (ltb (get_or marks i 0) 2) (left + 1) left

-- rows that have no mark stay as and where they are
kept_quiet : (marks : List ℕ) (T : List Cap) (i : ℕ) → ((j : ℕ) → j < i → get_or marks j 0 ≡ 0) → before T i ≡ kept marks T i
unfolding before kept
kept_quiet marks T zero z = refl
kept_quiet marks T (suc i) z = rw (z i (omega arith)) (ap {B = List Cap} (λ l. get_or T i empty_row ∷ l) (kept_quiet marks T i (λ j l. z j (omega arith))))

pub closing_start : (marks : List ℕ) (T : List Cap) (i : ℕ) → ((j : ℕ) → j < i → get_or marks j 0 ≡ 0) → Closing marks T T i i
closing_start marks T i z = record { fits = omega arith; rows = kept_quiet marks T i z; rest = λ j l. refl }

pub closing_more : (marks : List ℕ) (T U : List Cap) (i left : ℕ) → i < length U → Closing marks T U i left → Closing marks T (moved marks U i left) (i + 1) (count_allowed marks i left)
unfolding kept
closing_more marks T U i left l c = go (test (ltb (get_or marks i 0) 2))
  where
    m : ℕ
    m = get_or marks i 0

    row : Cap
    row = lowered (eqb m 1) (get_or U i empty_row)

    same_row : row ≡ lowered (eqb m 1) (get_or T i empty_row)
    same_row = ap (lowered (eqb m 1)) (c.rest i (omega arith))

    go : (ltb (get_or marks i 0) 2 ≡ true) ⊎ (ltb (get_or marks i 0) 2 ≡ false) → Closing marks T (moved marks U i left) (i + 1) (count_allowed marks i left)
    go (inl t) = rw t (record {
      fits = omega (arith, c.fits);
      rows =
          let a : before (set U left row) (left + 1) ≡ get_or (set U left row) left empty_row ∷ before (set U left row) left = before_suc (set U left row) left in
          let b : get_or (set U left row) left empty_row ≡ row = get_or-set_same U left row empty_row (omega (arith, c.fits)) in
          let d : before (set U left row) left ≡ before U left = before_same (set U left row) U left (λ j n. get_or-set_other U left j row empty_row (λ (e : j ≡ left). omega arith)) in
          rw (a, b, d, c.rows, same_row, add-one, kept, t);
      rest = λ j n. get_or-set_other U left j row empty_row (λ (e : j ≡ left). omega (arith, c.fits)) ∙ c.rest j (omega arith);
    })
    go (inr f) = rw f (record { fits = omega (arith, c.fits); rows = rw (c.rows, add-one, kept, f); rest = λ j n. c.rest j (omega arith) })

-- rows kept by their marks are the rows taken by what the marks say
pub kept_revoke : (marks : List ℕ) (ends lowers : ℕ → Bool) (T : List Cap) (k : ℕ) → Marked T k marks ends lowers → kept marks T k ≡ revoke ends lowers (before T k)
unfolding kept before revoke
kept_revoke marks ends lowers T zero m = refl
kept_revoke marks ends lowers T (suc k) m =
    go (test (ends (name_at T k))) (test (lowers (name_at T k))) (m.each k (omega arith)) (kept_revoke marks ends lowers T k (record { each = λ i l. m.each i (omega arith) }))
  where
    go : (ends (name_at T k) ≡ true) ⊎ (ends (name_at T k) ≡ false) → (lowers (name_at T k) ≡ true) ⊎ (lowers (name_at T k) ≡ false) → get_or marks k 0 ≡ mark ends lowers (name_at T k)
        → kept marks T k ≡ revoke ends lowers (before T k) → kept marks T (suc k) ≡ revoke ends lowers (before T (suc k))
    go (inl e) q h ih = rw (h, e) ih
    go (inr f) (inl t) h ih = rw (h, f, t) (ap {B = List Cap} (λ l. lowered true (get_or T k empty_row) ∷ l) ih)
    go (inr f) (inr g) h ih = rw (h, f, g) (ap {B = List Cap} (λ l. get_or T k empty_row ∷ l) ih)

-- ---- no row ends

pub lowers_more : (marks : List ℕ) (T U : List Cap) (i : ℕ) → i < length U → Lowers marks T U i → Lowers marks T (set U i (lowered (eqb (get_or marks i 0) 1) (get_or U i empty_row))) (i + 1)
lowers_more marks T U i l c = record {
  low = λ j m. go j (last j i m);
  rest = λ j m. get_or-set_other U i j row empty_row (λ (e : j ≡ i). omega arith) ∙ c.rest j (omega arith);
}
  where
    row : Cap
    row = lowered (eqb (get_or marks i 0) 1) (get_or U i empty_row)

    go : (j : ℕ) → (j < i) ⊎ (j ≡ i) → get_or (set U i row) j empty_row ≡ lowered (eqb (get_or marks j 0) 1) (get_or T j empty_row)
    go j (inl b) = get_or-set_other U i j row empty_row (λ (e : j ≡ i). omega arith) ∙ c.low j b
    go j (inr e) = rw e (get_or-set_same U i row empty_row l ∙ ap (lowered (eqb (get_or marks i 0) 1)) (c.rest i (omega arith)))

lowers_kept : (marks : List ℕ) (T U : List Cap) (k : ℕ) → ((j : ℕ) → j < k → get_or marks j 0 < 2) → ((j : ℕ) → j < k → get_or U j empty_row ≡ lowered (eqb (get_or marks j 0) 1) (get_or T j empty_row)) → before U k ≡ kept marks T k
unfolding before kept
lowers_kept marks T U zero h c = refl
lowers_kept marks T U (suc k) h c = let e = lowers_kept marks T U k (λ j l. h j (omega arith)) (λ j l. c j (omega arith)) in rw (lt-ltb (get_or marks k 0) 2 (h k (omega arith)), c k (omega arith), e)

module _ (marks : List ℕ) (T U : List Cap) (n k : ℕ) (places : List ℕ) (b : k ≤ n) (l : length U ≡ n) (z : (j : ℕ) → k ≤ j → j < n → get_or T j empty_row ≡ empty_row) (f : Filled T k) (c : Lowers marks T U k) where
  alike : Alike T U k
  alike j m = (ap (λ (d : Cap). d.name.0) (c.low j m), ap (λ (d : Cap). d.parent.0) (c.low j m))

  pub lowered_settled : ((j : ℕ) → j < k → get_or marks j 0 < 2) → Places T k places → Settled U n k (kept marks T k) places
  lowered_settled h p = record {
    table = before_lent U n k b l (λ j m g. c.rest j m ∙ z j m g) ∙ ap (lent_table n) (lowers_kept marks T U k h c.low);
    front = record { fits = b; filled = λ i m. rw (alike i m).0 (f i m); stop = λ m. ap (λ (d : Cap). d.name.0) (c.rest k (omega arith) ∙ z k (omega arith) m) };
    placed = places_same T U k places alike p;
  }

-- ---- the parents' places, as the rows close up

kept_unnamed : (marks : List ℕ) (T : List Cap) (k x : ℕ) → any (named x) (before T k) ≡ false → any (named x) (kept marks T k) ≡ false
unfolding before kept
kept_unnamed marks T zero x h = refl
kept_unnamed marks T (suc k) x h = let p = or_neither (eqb x (name_at T k)) (any (named x) (before T k)) h in go (test (ltb (get_or marks k 0) 2)) p.0 (kept_unnamed marks T k x p.1)
  where
    go : (ltb (get_or marks k 0) 2 ≡ true) ⊎ (ltb (get_or marks k 0) 2 ≡ false) → eqb x (name_at T k) ≡ false → any (named x) (kept marks T k) ≡ false → any (named x) (kept marks T (suc k)) ≡ false
    go (inl t) e ih = rw (t, e) ih
    go (inr f) e ih = rw f ih

kept_filled : (marks : List ℕ) (T : List Cap) (k : ℕ) → Filled T k → All (λ c. 0 < c.name.0) (kept marks T k)
unfolding kept
kept_filled marks T zero h = tt
kept_filled marks T (suc k) h = go (test (ltb (get_or marks k 0) 2)) (h k (omega arith)) (kept_filled marks T k (λ i l. h i (omega arith)))
  where
    go : (ltb (get_or marks k 0) 2 ≡ true) ⊎ (ltb (get_or marks k 0) 2 ≡ false) → 0 < name_at T k → All (λ c. 0 < c.name.0) (kept marks T k) → All (λ c. 0 < c.name.0) (kept marks T (suc k))
    go (inl t) e ih = rw t (e, ih)
    go (inr f) e ih = rw f ih

-- the rows that are left have their parents' places, and `spots` has where each row went
pub record Placing (marks first : List ℕ) (T U : List Cap) (places spots : List ℕ) (i left : ℕ) : Type 0 where
  pub placed : Places U left places
  pub rest : (j : ℕ) → i ≤ j → get_or places j 0 ≡ get_or first j 0
  pub long : length spots ≡ 1024
  pub went : (j : ℕ) → j < i → get_or marks j 0 < 2 → (get_or spots j 0 < left) × (name_at U (get_or spots j 0) ≡ name_at T j)

pub placing_start : (marks first : List ℕ) (T : List Cap) (spots : List ℕ) (i k : ℕ) → i ≤ k → Places T k first → Stays i spots → Placing marks first T T first spots i i
placing_start marks first T spots i k l p s = record {
  placed = record { long = p.long; each = λ j m. p.each j (omega arith) };
  rest = λ j m. refl;
  long = s.long;
  went = λ j m h. (rw (s.each j m) m, ap (name_at T) (s.each j m));
}

module _ (marks first : List ℕ) (T U : List Cap) (places spots : List ℕ) (i left k : ℕ) (l : i < k) (few : k ≤ 1024) (wide : i < length U) (d : Downward T k marks) (p₀ : Places T k first) (c : Closing marks T U i left)
    (p : Placing marks first T U places spots i left) where
  abbrev q : ℕ
  q = get_or places i 0

  abbrev next : List ℕ
  next = set spots i left

  place_found : Found T i (parent_at T i) q
  place_found = rw (p.rest i (omega arith)) (p₀.each i l)

  pub place_fits : q ≤ i
  place_fits = place_found.fits

  spot_new : get_or next i 0 ≡ left
  spot_new = get_or-set_same spots i left 0 (omega (arith, p.long))

  spot_old : (j : ℕ) → j < i → get_or next j 0 ≡ get_or spots j 0
  spot_old j m = get_or-set_other spots i j left 0 (λ (e : j ≡ i). omega arith)

  abbrev row : Cap
  row = lowered (eqb (get_or marks i 0) 1) (get_or U i empty_row)

  row_new : get_or (set U left row) left empty_row ≡ row
  row_new = get_or-set_same U left row empty_row (omega (arith, c.fits))

  row_old : (j : ℕ) → j < left → get_or (set U left row) j empty_row ≡ get_or U j empty_row
  row_old j m = get_or-set_other U left j row empty_row (λ (e : j ≡ left). omega arith)

  same_parent : parent_at (set U left row) left ≡ parent_at T i
  same_parent = ap (λ (d : Cap). d.parent.0) (row_new ∙ ap (lowered (eqb (get_or marks i 0) 1)) (c.rest i (omega arith)))

  same_name : name_at (set U left row) left ≡ name_at T i
  same_name = ap (λ (d : Cap). d.name.0) (row_new ∙ ap (lowered (eqb (get_or marks i 0) 1)) (c.rest i (omega arith)))

  -- the parent stays where the row stays
  found_left : get_or marks i 0 < 2 → Found U left (parent_at T i) (get_or next q 0)
  found_left h = go (test (ltb q i))
    where
      go : (ltb q i ≡ true) ⊎ (ltb q i ≡ false) → Found U left (parent_at T i) (get_or next q 0)
      go (inl t) =
          let b : q < i = ltb-true q i t in
          let e : name_at T q ≡ parent_at T i = place_found.here b in
          let m : get_or marks q 0 ≤ get_or marks i 0 = d.child i q l b e in
          let w = p.went q b (omega arith) in
          rw (spot_old q b) (record { fits = omega (arith, w.0); here = λ _. w.1 ∙ e; gone = λ g. absurd (omega (arith, w.0)) })
      go (inr f) =
          let e : q ≡ i = omega (arith, place_fits, ltb-false q i f) in
          let n : any (named (parent_at T i)) (before T i) ≡ false = place_found.gone (ltb-false q i f) in
          rw (e, spot_new) (record { fits = omega arith; here = λ g. absurd (omega arith); gone = λ _. ap (any (named (parent_at T i))) c.rows ∙ kept_unnamed marks T i (parent_at T i) n })

  pub placing_more : Placing marks first T (moved marks U i left) (set places left (get_or next q 0)) next (i + 1) (count_allowed marks i left)
  placing_more = go (test (ltb (get_or marks i 0) 2))
    where
      rest : (j : ℕ) → i + 1 ≤ j → get_or (set places left (get_or next q 0)) j 0 ≡ get_or first j 0
      rest j m = get_or-set_other places left j (get_or next q 0) 0 (λ (e : j ≡ left). omega (arith, c.fits)) ∙ p.rest j (omega arith)

      long : length next ≡ 1024
      long = length-set spots i left ∙ p.long

      go : (ltb (get_or marks i 0) 2 ≡ true) ⊎ (ltb (get_or marks i 0) 2 ≡ false) → Placing marks first T (moved marks U i left) (set places left (get_or next q 0)) next (i + 1) (count_allowed marks i left)
      go (inl t) = rw t (record {
        placed = places_more U (set U left row) left (get_or next q 0) places (omega (arith, c.fits)) (λ j m. (ap (λ (d : Cap). d.name.0) (row_old j m), ap (λ (d : Cap). d.parent.0) (row_old j m))) (rw same_parent (found_left (ltb-true (get_or marks i 0) 2 t))) p.placed;
        rest = rest;
        long = long;
        went = λ j m h. went j h (last j i m);
      })
        where
          went : (j : ℕ) → get_or marks j 0 < 2 → (j < i) ⊎ (j ≡ i) → (get_or next j 0 < left + 1) × (name_at (set U left row) (get_or next j 0) ≡ name_at T j)
          went j h (inl b) = let w = p.went j b h in rw (spot_old j b) (omega (arith, w.0), ap (λ (d : Cap). d.name.0) (row_old (get_or spots j 0) w.0) ∙ w.1)
          went j h (inr e) = rw (e, spot_new) (omega arith, same_name)
      go (inr f) = rw f (record {
        placed = places_past U left left (get_or next q 0) places (omega arith) p.placed;
        rest = rest;
        long = long;
        went = λ j m h. went j h (last j i m);
      })
        where
          went : (j : ℕ) → get_or marks j 0 < 2 → (j < i) ⊎ (j ≡ i) → (get_or next j 0 < left) × (name_at U (get_or next j 0) ≡ name_at T j)
          went j h (inl b) = rw (spot_old j b) (p.went j b h)
          went j h (inr e) = let g : get_or marks i 0 < 2 = rw e at h in absurd (omega (arith, ltb-false (get_or marks i 0) 2 f))

-- ---- rows closed up, and the rest cleared

module _ (marks : List ℕ) (T U W : List Cap) (n k r : ℕ) (b : k ≤ n) (l : length W ≡ n) (z : (j : ℕ) → k ≤ j → j < n → get_or T j empty_row ≡ empty_row) (c : Closes marks T U k r) (d : Clears U W r k) where
  empty_on : (j : ℕ) → r ≤ j → j < n → get_or W j empty_row ≡ empty_row
  empty_on j m h = go (test (ltb j k))
    where
      go : (ltb j k ≡ true) ⊎ (ltb j k ≡ false) → get_or W j empty_row ≡ empty_row
      go (inl t) = d.zeros j m (ltb-true j k t)
      go (inr f) = let e : k ≤ j = ltb-false j k f in d.rest j e ∙ c.rest j e ∙ z j e h

  left_rows : before W r ≡ kept marks T k
  left_rows = before_same W U r d.low ∙ c.rows

  pub closed_settled : Filled T k → (places : List ℕ) → Places U r places → Settled W n r (kept marks T k) places
  closed_settled f places p = record {
    table = before_lent W n r (omega (arith, c.fits)) l empty_on ∙ ap (lent_table n) left_rows;
    front = record {
      fits = omega (arith, c.fits);
      filled = at_before (λ c. 0 < c.name.0) W r (subst (λ (rows : List Cap). All (λ c. 0 < c.name.0) rows) (sym left_rows) (kept_filled marks T k f));
      stop = λ m. ap (λ (d : Cap). d.name.0) (empty_on r (omega arith) m);
    };
    placed = places_same U W r places (λ j m. (ap (λ (d : Cap). d.name.0) (d.low j m), ap (λ (d : Cap). d.parent.0) (d.low j m))) p;
  }
