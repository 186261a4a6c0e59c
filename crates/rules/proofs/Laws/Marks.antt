-- Marks: a row's is the greater of its own and its parent's, so one pass from the first row to the last finds them all.
-- Assumes nothing.
use mathlib.Core.Path.{◌≡◌, refl, sym, ap, ◌∙◌}
use mathlib.Core.Logic.{◌⊎◌, inl, inr}
use mathlib.Core.Bool.{Bool, true, false, not, cond, ◌&&◌, ◌||◌, or-true, or-false}
use mathlib.Core.List.{List, [], ◌∷◌, ◌++◌}
use Prim.Native.Nat.{ℕ, zero, suc, ◌+◌, ◌≤◌, ◌<◌, max}
use native.Mathlib.Nat.{not-suc-le-zero}
use native.Mathlib.Omega.{arith}
use lib.Dec.{eqb, leb, ltb}
use lib.ListN.{length, get_or, set, replicate, length-set, length-replicate, get_or-replicate}
use lib.Seq.{get_or-set_same, get_or-set_other}
use borrow.Author.Tests.{eqb-true, eqb-false, eq-eqb, ne_eqb, ltb-true, ltb-false, lt-ltb, le-ltb, leb-true, leb-false}
use Rattle.model.specs.declared.Span.{Span}
use Rattle.model.specs.declared.Cap.{Cap}
use Rattle.model.specs.declared.Access.{Access}
use Rattle.model.specs.declared.Sheet.{Sheet}
use Rattle.model.specs.declared.Effect.{Effect}
use Rattle.model.specs.declared.Effect.TheVariants.{Keep, Lower, End}
use Rattle.model.specs.declared.Origin.TheVariants.{Cell, Kin, Stranger}
use Rattle.model.specs.Lists.{any}
use Rattle.model.specs.Derivation.{Derivation, ancestry, in_subtree, on_ancestry}
use Rattle.model.specs.Strike.{is_lower, is_end, is_cell, result_of, in_other_cell, nearest_cell, origin, strike, reached, struck}
use Rattle.model.specs.Values.{touches}
use Rattle.model.specs.Table.{empty_row, span, derivation, derivations, named, parent_in_order}
use Rattle.model.specs.Effects.{in_subtrees}
use Rattle.table.specs.Rows.{name_at, parent_at, before, Rise, Found, Places, LiveRows}
use Rattle.table.specs.Sheets.{weight}
use Rattle.rules.specs.Engine.{OnAncestry, NearestAt, nearer_of, value_below, inside_of, SetInside, is_apart, Related, origin_of, own, own_of_access, own_of_names, Owned, mark, Marked, Spread, Downward, Most}
use Rattle.model.proofs.Offered.{test, clash, or_neither, below_differs, ancestry_here, ancestry_past, Named, place, parent_in_order_row_fits_parent, group_none, group_step, struck_step, no_ancestry, steps, rows_in_order_falling, root_has_no_kin, Falling, later_off, nearest_cell_lem, nearest_on, on_line_lem}
use Rattle.table.proofs.Offered.{extend, last, all_before, at_before, none_named, named_none, place_of, rise_sub, rows_in_order_rise, rows_in_order_at}

-- ---- lists

-- a list with one more at its end
any_one : (p : ℕ → Bool) (xs : List ℕ) (x : ℕ) → any p (xs ++ x ∷ []) ≡ any p xs || p x
any_one p [] x = or-false (p x)
any_one p (y ∷ ys) x = go (p y) (any_one p ys x)
  where
    go : (b : Bool) → any p (ys ++ x ∷ []) ≡ any p ys || p x → (b || any p (ys ++ x ∷ [])) ≡ (b || any p ys) || p x
    go true h = refl
    go false h = h

-- ---- places and names

-- two rows of one name are one
pub same_place : (T : List Cap) (k i j : ℕ) → Rise T k → i < k → j < k → name_at T i ≡ name_at T j → i ≡ j
same_place T k i j r l m e = go (test (ltb i j)) (test (ltb j i))
  where
    go : (ltb i j ≡ true) ⊎ (ltb i j ≡ false) → (ltb j i ≡ true) ⊎ (ltb j i ≡ false) → i ≡ j
    go (inl t) q = let p : name_at T i < name_at T j = r.sorted i j (ltb-true i j t) m in absurd (omega arith)
    go (inr f) (inl t) = let p : name_at T j < name_at T i = r.sorted j i (ltb-true j i t) l in absurd (omega arith)
    go (inr f) (inr g) = omega (arith, ltb-false i j f, ltb-false j i g)

-- ---- ancestries by places

-- the ancestry of a name that is there goes on from its place
pub ancestry_place : (T : List Cap) (k q x : ℕ) → Rise T k → q < k → name_at T q ≡ x → ancestry (derivations (before T k)) x ≡ derivation (get_or T q empty_row) ∷ ancestry (derivations (before T q)) (parent_at T q)
unfolding before
ancestry_place T zero q x r l e = absurd (not-suc-le-zero l)
ancestry_place T (suc k) q x r l e = go (last q k (omega arith)) (ancestry_place T k q x (rise_sub T (suc k) k (omega arith) r))
  where
    go : (q < k) ⊎ (q ≡ k) → (q < k → name_at T q ≡ x → ancestry (derivations (before T k)) x ≡ derivation (get_or T q empty_row) ∷ ancestry (derivations (before T q)) (parent_at T q))
        → ancestry (derivations (before T (suc k))) x ≡ derivation (get_or T q empty_row) ∷ ancestry (derivations (before T q)) (parent_at T q)
    go (inl s) ih = let p : name_at T q < name_at T k = r.sorted q k s (omega arith) in ancestry_past (derivation (get_or T k empty_row)) (derivations (before T k)) x (rw (← e) (below_differs p)) ∙ ih s e
    go (inr s) ih = rw s (ancestry_here (derivation (get_or T k empty_row)) (derivations (before T k)) x (eq-eqb x (name_at T k) (sym e ∙ ap (name_at T) s)))

pub ancestry_none : (T : List Cap) (k x : ℕ) → any (named x) (before T k) ≡ false → ancestry (derivations (before T k)) x ≡ []
unfolding before ancestry
ancestry_none T zero x h = refl
ancestry_none T (suc k) x h = let p = or_neither (eqb x (name_at T k)) (any (named x) (before T k)) h in ancestry_past (derivation (get_or T k empty_row)) (derivations (before T k)) x p.0 ∙ ancestry_none T k x p.1

-- the walk up the ancestry of u: what is left is the ancestry of a name that stands at `at` among the first `top` rows, or nowhere; the nearest
-- cell stands at `cell`, or is among what is left
pub record Walk (T : List Cap) (k u : ℕ) (marks : List ℕ) (cell top at : ℕ) : Type 0 where
  pub fits : top ≤ k
  pub long : length marks ≡ 1024
  pub small : (j : ℕ) → j < k → get_or marks j 0 < 2
  pub name : ℕ
  pub nearest : nearest_cell (ancestry (derivations (before T k)) u) ≡ cond (ltb cell k) (name_at T cell) (nearest_cell (ancestry (derivations (before T top)) name))
  pub found : Found T top name at
  pub each : (j : ℕ) → j < k → in_subtree (name_at T j) (ancestry (derivations (before T k)) u) ≡ eqb (get_or marks j 0) 1 || in_subtree (name_at T j) (ancestry (derivations (before T top)) name)

module _ (T : List Cap) (k u : ℕ) (few : k ≤ 1024) (r : Rise T k) where
  pub walk_step : (marks : List ℕ) (cell top q next : ℕ) (w : Walk T k u marks cell top q) → q < top → Found T q (parent_at T q) next → Walk T k u (set marks q 1) (nearer_of T k cell q) q next
  walk_step marks cell top q next w l f = record {
    fits = omega (arith, w.fits);
    long = length-set marks q 1 ∙ w.long;
    small = λ j m. little j m (test (eqb j q));
    name = parent_at T q;
    nearest = w.nearest ∙ nearer (test (ltb cell k)) (test (is_cell (derivation (get_or T q empty_row))));
    found = f;
    each = λ j m. w.each j m ∙ step j m (test (eqb j q));
  }
    where
      little : (j : ℕ) → j < k → (eqb j q ≡ true) ⊎ (eqb j q ≡ false) → get_or (set marks q 1) j 0 < 2
      little j m (inl t) = let s : j ≡ q = eqb-true j q t in let g : get_or (set marks q 1) j 0 ≡ 1 = rw s (get_or-set_same marks q 1 0 (omega (arith, w.fits, w.long))) in omega arith
      little j m (inr f) = rw (get_or-set_other marks q j 1 0 (eqb-false j q f)) (w.small j m)

      name : ℕ
      name = w.name

      rest : ℕ → Bool
      rest j = in_subtree (name_at T j) (ancestry (derivations (before T q)) (parent_at T q))

      here : ancestry (derivations (before T top)) name ≡ derivation (get_or T q empty_row) ∷ ancestry (derivations (before T q)) (parent_at T q)
      here = ancestry_place T top q name (rise_sub T k top w.fits r) l (w.found.here l)

      nearer : (ltb cell k ≡ true) ⊎ (ltb cell k ≡ false) → (is_cell (derivation (get_or T q empty_row)) ≡ true) ⊎ (is_cell (derivation (get_or T q empty_row)) ≡ false)
          → cond (ltb cell k) (name_at T cell) (nearest_cell (ancestry (derivations (before T top)) name))
          ≡ cond (ltb (nearer_of T k cell q) k) (name_at T (nearer_of T k cell q)) (nearest_cell (ancestry (derivations (before T q)) (parent_at T q)))
      nearer (inl t) c = rw (t, t)
      nearer (inr t) (inl c) = rw (t, here, c, lt-ltb q k (omega (arith, w.fits)))
      nearer (inr t) (inr c) = rw (t, here, c, le-ltb k k (omega arith))

      step : (j : ℕ) → j < k → (eqb j q ≡ true) ⊎ (eqb j q ≡ false) → eqb (get_or marks j 0) 1 || in_subtree (name_at T j) (ancestry (derivations (before T top)) name) ≡ eqb (get_or (set marks q 1) j 0) 1 || in_subtree (name_at T j) (ancestry (derivations (before T q)) (parent_at T q))
      step j m (inl t) =
          let s : j ≡ q = eqb-true j q t in
          let g : get_or (set marks q 1) j 0 ≡ 1 = rw s (get_or-set_same marks q 1 0 (omega (arith, w.fits, w.long))) in
          let h : eqb (name_at T j) (name_at T q) ≡ true = eq-eqb (name_at T j) (name_at T q) (ap (name_at T) s) in
          rw (here, g, h) (or-true (eqb (get_or marks j 0) 1))
      step j m (inr f) =
          let g : get_or (set marks q 1) j 0 ≡ get_or marks j 0 = get_or-set_other marks q j 1 0 (eqb-false j q f) in
          let h : eqb (name_at T j) (name_at T q) ≡ false = ne_eqb (name_at T j) (name_at T q) (λ (d : name_at T j ≡ name_at T q). eqb-false j q f (same_place T k j q r m (omega (arith, w.fits)) d)) in
          rw (here, g, h)

  pub walk_over : (marks : List ℕ) (cell top q : ℕ) → Walk T k u marks cell top q → top ≤ q → OnAncestry T k u marks × NearestAt T k u cell
  walk_over marks cell top q w h =
      let none : ancestry (derivations (before T top)) w.name ≡ [] = ancestry_none T top w.name (w.found.gone h) in
      (record { long = w.long; each = λ j m. sym (w.each j m ∙ rw none (or-false (eqb (get_or marks j 0) 1))); small = w.small }, record { cell = w.nearest ∙ rw none })

-- ---- rows inside a cell

-- those below i are done, and the others are as they were
pub record SettingInside (i cell : ℕ) (places relation after : List ℕ) : Type 0 where
  pub done : SetInside i cell places relation after
  pub rest : (j : ℕ) → i ≤ j → get_or after j 0 ≡ get_or relation j 0

module _ (i cell : ℕ) (places relation after : List ℕ) (s : SettingInside i cell places relation after) (behind : cell < i) (few : i < 1024) where
  abbrev new_relation : ℕ
  new_relation = cond (eqb (get_or after i 0) 1) 1 (inside_of after cell (get_or places i 0) i)

  abbrev next : List ℕ
  next = set after i new_relation

  inside_kept : (j : ℕ) → j < i → get_or next j 0 ≡ get_or after j 0
  inside_kept j m = get_or-set_other after i j new_relation 0 (λ (e : j ≡ i). omega arith)

  inside_here : get_or next i 0 ≡ new_relation
  inside_here = get_or-set_same after i new_relation 0 (omega (arith, s.done.long))

  -- what a row gets is read off at a place before it
  same_inside : (j : ℕ) → j ≤ i → inside_of after cell (get_or places j 0) j ≡ inside_of next cell (get_or places j 0) j
  same_inside j m = go (test (ltb (get_or places j 0) j))
    where
      go : (ltb (get_or places j 0) j ≡ true) ⊎ (ltb (get_or places j 0) j ≡ false) → inside_of after cell (get_or places j 0) j ≡ inside_of next cell (get_or places j 0) j
      go (inl t) = rw (inside_kept (get_or places j 0) (omega (arith, ltb-true (get_or places j 0) j t)))
      go (inr f) = rw f

  pub inside_more : SettingInside (i + 1) cell places relation next
  inside_more = record {
    done = record {
      long = length-set after i new_relation ∙ s.done.long;
      front = λ j m. inside_kept j (omega arith) ∙ s.done.front j m;
      line = λ j m e. line j e (last j i m);
      other = λ j m b e. other j b e (last j i m);
    };
    rest = λ j m. get_or-set_other after i j new_relation 0 (λ (e : j ≡ i). omega arith) ∙ s.rest j (omega arith);
  }
    where
      line : (j : ℕ) → get_or relation j 0 ≡ 1 → (j < i) ⊎ (j ≡ i) → get_or next j 0 ≡ 1
      line j e (inl m) = inside_kept j m ∙ s.done.line j m e
      line j e (inr z) = rw (z, inside_here, eq-eqb (get_or after i 0) 1 (s.rest i (omega arith) ∙ ap (λ (x : ℕ). get_or relation x 0) (sym z) ∙ e))

      other : (j : ℕ) → cell < j → (get_or relation j 0 ≡ 1 → ⊥) → (j < i) ⊎ (j ≡ i) → get_or next j 0 ≡ inside_of next cell (get_or places j 0) j
      other j b e (inl m) = inside_kept j m ∙ s.done.other j m b e ∙ same_inside j (omega arith)
      other j b e (inr z) = rw z (inside_here ∙ chosen (eqb (get_or after i 0) 1) (ne_eqb (get_or after i 0) 1 (λ (d : get_or after i 0 ≡ 1). e (ap (λ (x : ℕ). get_or relation x 0) z ∙ sym (s.rest i (omega arith)) ∙ d))) ∙ same_inside i (omega arith))
        where
          chosen : (b : Bool) → b ≡ false → cond b 1 (inside_of after cell (get_or places i 0) i) ≡ inside_of after cell (get_or places i 0) i
          chosen b f = rw f

-- ---- marks spread down

-- the first i are done
pub record Spreading (T : List Cap) (i : ℕ) (owned : ℕ → ℕ) (marks : List ℕ) : Type 0 where
  pub done : Spread T i owned marks
  pub long : length marks ≡ 1024

-- rows in front that have no mark of their own have none
pub spread_start : (T : List Cap) (i : ℕ) (owned : ℕ → ℕ) (marks : List ℕ) → length marks ≡ 1024 → ((j : ℕ) → j < i → owned j ≡ 0) → ((j : ℕ) → j < i → get_or marks j 0 ≡ 0) → Spreading T i owned marks
spread_start T i owned marks h o z = record {
  done = record { child = λ j q l m e. rw (z j l, z q (omega arith), o j l); root = λ j l e. rw (z j l, o j l) };
  long = h;
}

-- the mark that goes to row i, where q is its parent's place
module _ (T : List Cap) (k i q : ℕ) (owned : ℕ → ℕ) (marks : List ℕ) (r : Rise T k) (few : k ≤ 1024) (l : i < k) (f : Found T i (parent_at T i) q) (s : Spreading T i owned marks) where
  abbrev new_mark : ℕ
  new_mark = max (owned i) (cond (ltb q i) (get_or marks q 0) 0)

  kept_below : (j : ℕ) → j < i → get_or (set marks i new_mark) j 0 ≡ get_or marks j 0
  kept_below j m = get_or-set_other marks i j new_mark 0 (λ (e : j ≡ i). omega arith)

  here : get_or (set marks i new_mark) i 0 ≡ new_mark
  here = get_or-set_same marks i new_mark 0 (omega (arith, s.long))

  pub spread_more : Spreading T (i + 1) owned (set marks i new_mark)
  spread_more = record {
    done = record { child = λ j p m n e. child j p n e (last j i m); root = λ j m h. root j h (last j i m) };
    long = length-set marks i new_mark ∙ s.long;
  }
    where
      found : (p : ℕ) → p < i → name_at T p ≡ parent_at T i → new_mark ≡ max (owned i) (get_or marks p 0)
      found p n e = go (test (ltb q i))
        where
          go : (ltb q i ≡ true) ⊎ (ltb q i ≡ false) → new_mark ≡ max (owned i) (get_or marks p 0)
          go (inl t) = let b : q < i = ltb-true q i t in let z : q ≡ p = same_place T k q p r (omega arith) (omega arith) (f.here b ∙ sym e) in rw (t, z)
          go (inr g) = absurd (named_none T i (parent_at T i) (f.gone (ltb-false q i g)) p n e)

      child : (j p : ℕ) → p < j → name_at T p ≡ parent_at T j → (j < i) ⊎ (j ≡ i) → get_or (set marks i new_mark) j 0 ≡ max (owned j) (get_or (set marks i new_mark) p 0)
      child j p n e (inl m) = rw (kept_below j m, kept_below p (omega arith)) (s.done.child j p m n e)
      child j p n e (inr z) = let n' : p < i = omega arith in rw (z, here, kept_below p n') (found p n' (e ∙ ap (parent_at T) z))

      root : (j : ℕ) → any (named (parent_at T j)) (before T j) ≡ false → (j < i) ⊎ (j ≡ i) → get_or (set marks i new_mark) j 0 ≡ owned j
      root j h (inl m) = kept_below j m ∙ s.done.root j m h
      root j h (inr z) = rw (z, here) (go (test (ltb q i)))
        where
          none : any (named (parent_at T i)) (before T i) ≡ false
          none = rw z at h

          go : (ltb q i ≡ true) ⊎ (ltb q i ≡ false) → new_mark ≡ owned i
          go (inl t) = let b : q < i = ltb-true q i t in absurd (named_none T i (parent_at T i) none q b (f.here b))
          go (inr g) = rw g (omega arith)

-- no mark is above the greatest, one more
pub most_more : (i : ℕ) (marks : List ℕ) (most m : ℕ) → i < length marks → Most i marks most → Most (i + 1) (set marks i m) (max most m)
most_more i marks most m l h = record { each = extend (λ j. get_or (set marks i m) j 0 ≤ max most m) i (λ j b. let e = get_or-set_other marks i j m 0 (λ (z : j ≡ i). omega arith) in omega (arith, e, h.each j b)) (omega (arith, get_or-set_same marks i m 0 l)) }

-- no mark is below the parent's
pub spread_downward : (T : List Cap) (k : ℕ) (owned : ℕ → ℕ) (marks : List ℕ) → Spread T k owned marks → Downward T k marks
spread_downward T k owned marks s = record { child = λ i q l b e. let h : get_or marks i 0 ≡ max (owned i) (get_or marks q 0) = s.child i q l b e in omega arith }

-- ---- what the marks say

-- a row's mark from its own effect and its parent's mark
greater : (e : Effect) (pe pl : Bool) → max (weight e) (cond pe 2 (cond pl 1 0)) ≡ cond (is_end e || pe) 2 (cond (is_lower e || pl) 1 0)
greater Keep true pl = refl
greater Keep false true = refl
greater Keep false false = refl
greater Lower true pl = refl
greater Lower false true = refl
greater Lower false false = refl
greater End true pl = refl
greater End false true = refl
greater End false false = refl

-- a holder's own mark is its effect's, where its relation to the user is told
own_weight : (sheet : Sheet) (a : Access) (s : Span) (user above : List Derivation) (c : Cap) (in_cell : Bool) (relation : ℕ) (kin : Bool) → eqb relation 1 ≡ in_subtree c.name.0 user
    → (in_subtree c.name.0 user ≡ false → is_apart in_cell relation ≡ in_other_cell user (derivation c ∷ above)) → kin ≡ in_subtree c.parent.0 user
    → own sheet a s c in_cell relation kin ≡ weight (strike sheet a s user (derivation c ∷ above))
unfolding strike origin
own_weight sheet a s user above c in_cell relation kin on apart is = go (test (in_subtree c.name.0 user)) (touches s (span c))
  where
    go : (in_subtree c.name.0 user ≡ true) ⊎ (in_subtree c.name.0 user ≡ false) → (touched : Bool)
        → cond (touched && not (eqb relation 1)) (weight (result_of sheet c.kind a (origin_of (is_apart in_cell relation) kin))) 0
        ≡ weight (cond (touched && not (in_subtree c.name.0 user)) (result_of sheet c.kind a (cond (in_other_cell user (derivation c ∷ above)) Cell (cond (in_subtree c.parent.0 user) Kin Stranger))) Keep)
    go (inl t) true = rw (on, t)
    go (inl t) false = refl
    go (inr f) true = rw (on, f, apart f, is)
    go (inr f) false = refl

module _ (T : List Cap) (k : ℕ) (st : LiveRows T k) where
  abbrev B : List Derivation
  B = derivations (before T k)

  pub stand_rise : Rise T k
  stand_rise = rows_in_order_rise T st.bound k st.filled st.rise

  stand_named : Named (before T k)
  stand_named = all_before (λ c. named 0 c ≡ false) T k (λ i l. below_differs (st.filled i l))

  falls : Falling st.bound B
  falls = rows_in_order_falling st.bound (before T k) stand_named st.rise

  -- a row's ancestry goes on with its parent's
  line_step : (i : ℕ) → i < k → ancestry B (name_at T i) ≡ derivation (get_or T i empty_row) ∷ ancestry B (parent_at T i)
  line_step i l = at_before _ T k (steps st.bound (before T k) stand_named st.rise) i l

  -- where the parent of a row is not before it, the row is a root
  rootless : (i : ℕ) → i < k → any (named (parent_at T i)) (before T i) ≡ false → parent_at T i ≡ 0
  rootless i l gone = go (test (eqb (parent_at T i) 0))
    where
      hung : parent_in_order (get_or T i empty_row) (before T i) ≡ true
      hung = (place (get_or T i empty_row) (before T i) (rows_in_order_at T st.bound k st.rise i l).1).does_hang

      go : (eqb (parent_at T i) 0 ≡ true) ⊎ (eqb (parent_at T i) 0 ≡ false) → parent_at T i ≡ 0
      go (inl t) = eqb-true (parent_at T i) 0 t
      go (inr f) = clash (parent_in_order_row_fits_parent (get_or T i empty_row) (before T i) f hung).0 gone

  -- ---- how rows stand to a user

  -- whether a row's parent is on the user's ancestry is read off at the parent's place
  kin_told : (u : ℕ) (relation places : List ℕ) → ((i : ℕ) → i < k → eqb (get_or relation i 0) 1 ≡ in_subtree (name_at T i) (ancestry B u)) → Places T k places
      → (i : ℕ) → i < k → eqb (value_below relation (get_or places i 0) i) 1 ≡ in_subtree (parent_at T i) (ancestry B u)
  kin_told u relation places each p i l = go (test (ltb (get_or places i 0) i))
    where
      found : Found T i (parent_at T i) (get_or places i 0)
      found = p.each i l

      go : (ltb (get_or places i 0) i ≡ true) ⊎ (ltb (get_or places i 0) i ≡ false) → eqb (value_below relation (get_or places i 0) i) 1 ≡ in_subtree (parent_at T i) (ancestry B u)
      go (inl t) = let b : get_or places i 0 < i = ltb-true (get_or places i 0) i t in rw t (each (get_or places i 0) (omega arith) ∙ ap (λ (x : ℕ). in_subtree x (ancestry B u)) (found.here b))
      go (inr f) = rw f (sym (root_has_no_kin st.bound u B falls (derivation (get_or T i empty_row)) (rootless i l (found.gone (ltb-false (get_or places i 0) i f)))))

  -- no cell on the ancestry: no row is apart
  pub related_none : (u cell : ℕ) (relation : List ℕ) → OnAncestry T k u relation → NearestAt T k u cell → k ≤ cell → Related T k u false relation
  related_none u cell relation on near h = record { each = on.each; apart = λ i l f. sym (nearest_cell_lem st.bound u (name_at T i) B falls ∙ rw (near.cell, le-ltb cell k h)) }

  -- a cell on it: the rows that are not under it are apart
  module _ (u cell : ℕ) (relation after places : List ℕ) (on : OnAncestry T k u relation) (near : NearestAt T k u cell) (p : Places T k places) (s : SetInside k cell places relation after) (h : cell < k) where
    nearest : nearest_cell (ancestry B u) ≡ name_at T cell
    nearest = near.cell ∙ rw (lt-ltb cell k h)

    -- the cell is on the ancestry
    cell_on : in_subtree (name_at T cell) (ancestry B u) ≡ true
    cell_on = nearest_on (ancestry B u) (name_at T cell) nearest (st.filled cell h)

    abbrev under : ℕ → Bool
    under x = in_subtree (name_at T cell) (ancestry B x)

    abbrev on_line : ℕ → Bool
    on_line i = in_subtree (name_at T i) (ancestry B u)

    -- on the ancestry the rows from the cell's place on are under it
    line_under : (i : ℕ) → i < k → cell ≤ i → on_line i ≡ true → under (name_at T i) ≡ true
    line_under i l m t = on_line_lem st.bound u (name_at T i) (name_at T cell) B falls t cell_on (go (last cell i (omega arith)))
      where
        go : (cell < i) ⊎ (cell ≡ i) → name_at T cell ≤ name_at T i
        go (inl b) = omega (arith, stand_rise.sorted cell i b l)
        go (inr e) = omega (arith, ap (name_at T) e)

    -- no row in front of the cell is under it
    front_over : (i : ℕ) → i < cell → under (name_at T i) ≡ false
    front_over i m = later_off st.bound (name_at T cell) (name_at T i) B falls (stand_rise.sorted i cell m h)

    -- a row that is not on the ancestry is not the cell
    not_cell : (i : ℕ) → on_line i ≡ false → eqb (name_at T cell) (name_at T i) ≡ false
    not_cell i f = ne_eqb (name_at T cell) (name_at T i) (λ (e : name_at T cell ≡ name_at T i). clash cell_on (ap (λ (x : ℕ). in_subtree x (ancestry B u)) e ∙ f))

    off_line : (i : ℕ) → i < k → on_line i ≡ false → get_or relation i 0 ≡ 1 → ⊥
    off_line i l f e = clash (sym (on.each i l) ∙ eq-eqb (get_or relation i 0) 1 e) f

    -- a row elsewhere has 0 or 2
    value : (i : ℕ) → i < k → on_line i ≡ false → (get_or after i 0 ≡ 0) ⊎ (get_or after i 0 ≡ 2)
    value i l f = go (test (leb i cell))
      where
        none : (x : ℕ) → x < 2 → (x ≡ 1 → ⊥) → x ≡ 0
        none zero m d = refl
        none (suc zero) m d = absurd (d refl)
        none (suc (suc x)) m d = absurd (omega arith)

        chosen : (b : Bool) (x : ℕ) → x ≡ cond b 2 0 → (x ≡ 0) ⊎ (x ≡ 2)
        chosen true x e = inr e
        chosen false x e = inl e

        go : (leb i cell ≡ true) ⊎ (leb i cell ≡ false) → (get_or after i 0 ≡ 0) ⊎ (get_or after i 0 ≡ 2)
        go (inl b) = inl (s.front i (leb-true i cell b) ∙ none (get_or relation i 0) (on.small i l) (off_line i l f))
        go (inr b) = chosen (ltb (get_or places i 0) i && (leb cell (get_or places i 0) && not (eqb (get_or after (get_or places i 0) 0) 0))) (get_or after i 0) (s.other i l (leb-false i cell b) (off_line i l f))

    two_or_none : (x : ℕ) → (x ≡ 0) ⊎ (x ≡ 2) → eqb (cond (not (eqb x 0)) 2 0) 2 ≡ eqb x 2
    two_or_none x (inl e) = rw e
    two_or_none x (inr e) = rw e

    -- a row elsewhere has 2 exactly when it is under the cell; n bounds its place
    inside_below : (n i : ℕ) → i < n → i < k → on_line i ≡ false → eqb (get_or after i 0) 2 ≡ under (name_at T i)
    inside_below zero i m l f = absurd (not-suc-le-zero m)
    inside_below (suc n) i m l f = split (test (leb i cell)) (inside_below n)
      where
        q : ℕ
        q = get_or places i 0

        goes_on : under (name_at T i) ≡ under (parent_at T i)
        goes_on = rw (line_step i l, not_cell i f)

        -- up to the cell no row is under it but the cell itself, which is on the ancestry
        before_cell : i ≤ cell → eqb (get_or after i 0) 2 ≡ under (name_at T i)
        before_cell b = ap (λ (x : ℕ). eqb x 2) (s.front i b) ∙ ne_eqb (get_or relation i 0) 2 (λ (e : get_or relation i 0 ≡ 2). omega (arith, on.small i l)) ∙ sym (front_over i (below (last i cell (omega arith))))
          where
            below : (i < cell) ⊎ (i ≡ cell) → i < cell
            below (inl c) = c
            below (inr e) = clash cell_on (ap (λ (x : ℕ). in_subtree (name_at T x) (ancestry B u)) (sym e) ∙ f)

        at_parent : cell < i → q < i → ((j : ℕ) → j < n → j < k → on_line j ≡ false → eqb (get_or after j 0) 2 ≡ under (name_at T j)) → eqb (inside_of after cell q i) 2 ≡ under (name_at T q)
        at_parent c b ih = beside (test (leb cell q)) (test (on_line q))
          where
            beside : (leb cell q ≡ true) ⊎ (leb cell q ≡ false) → (on_line q ≡ true) ⊎ (on_line q ≡ false) → eqb (inside_of after cell q i) 2 ≡ under (name_at T q)
            beside (inr d) o = rw (lt-ltb q i b, d, front_over q (leb-false cell q d))
            beside (inl d) (inl o) =
                let one : get_or after q 0 ≡ 1 = s.line q (omega arith) (eqb-true (get_or relation q 0) 1 (on.each q (omega arith) ∙ o)) in
                rw (lt-ltb q i b, d, one, line_under q (omega arith) (leb-true cell q d) o)
            beside (inl d) (inr o) = rw (lt-ltb q i b, d) (two_or_none (get_or after q 0) (value q (omega arith) o) ∙ ih q (omega arith) (omega arith) o)

        split : (leb i cell ≡ true) ⊎ (leb i cell ≡ false) → ((j : ℕ) → j < n → j < k → on_line j ≡ false → eqb (get_or after j 0) 2 ≡ under (name_at T j)) → eqb (get_or after i 0) 2 ≡ under (name_at T i)
        split (inl b) ih = before_cell (leb-true i cell b)
        split (inr b) ih = ap (λ (x : ℕ). eqb x 2) (s.other i l (leb-false i cell b) (off_line i l f)) ∙ go (test (ltb q i))
          where
            go : (ltb q i ≡ true) ⊎ (ltb q i ≡ false) → eqb (inside_of after cell q i) 2 ≡ under (name_at T i)
            go (inl t) = let c : q < i = ltb-true q i t in at_parent (leb-false i cell b) c ih ∙ sym (goes_on ∙ ap under (sym ((p.each i l).here c)))
            go (inr g) =
                let root : parent_at T i ≡ 0 = rootless i l ((p.each i l).gone (ltb-false q i g)) in
                let none : under (parent_at T i) ≡ false = ap under root ∙ rw (no_ancestry st.bound (before T k) stand_named st.rise) in
                rw (g, goes_on, none)

    pub related_inside : Related T k u true after
    related_inside = record {
      each = λ i l. each i l (test (on_line i));
      apart = λ i l f. ap not (inside_below (suc i) i (omega arith) l f) ∙ sym (nearest_cell_lem st.bound u (name_at T i) B falls ∙ told i);
    }
      where
        told : (i : ℕ) → (not (eqb (nearest_cell (ancestry B u)) 0) && not (in_subtree (nearest_cell (ancestry B u)) (ancestry B (name_at T i)))) ≡ not (under (name_at T i))
        told i = rw (nearest, ne_eqb (name_at T cell) 0 (λ (e : name_at T cell ≡ 0). omega (arith, st.filled cell h)))

        each : (i : ℕ) → i < k → (on_line i ≡ true) ⊎ (on_line i ≡ false) → eqb (get_or after i 0) 1 ≡ on_line i
        each i l (inl t) = rw (t, s.line i l (eqb-true (get_or relation i 0) 1 (on.each i l ∙ t)))
        each i l (inr f) = rw f (never (get_or after i 0) (value i l f))
          where
            never : (x : ℕ) → (x ≡ 0) ⊎ (x ≡ 2) → eqb x 1 ≡ false
            never x (inl e) = rw e
            never x (inr e) = rw e

  -- where each row's mark goes by its own and its parent's, and no parent has mark 0, the marks that spread are these
  module _ (ends lowers : ℕ → Bool) (owned : ℕ → ℕ) (marks : List ℕ) (s : Spread T k owned marks) (none : mark ends lowers 0 ≡ 0)
      (step : (i : ℕ) → i < k → mark ends lowers (name_at T i) ≡ max (owned i) (mark ends lowers (parent_at T i))) where
    marked_below : (n i : ℕ) → i < n → i < k → get_or marks i 0 ≡ mark ends lowers (name_at T i)
    marked_below zero i m l = absurd (not-suc-le-zero m)
    marked_below (suc n) i m l = go (test (eqb (parent_at T i) 0)) (marked_below n)
      where
        hung : parent_in_order (get_or T i empty_row) (before T i) ≡ true
        hung = (place (get_or T i empty_row) (before T i) (rows_in_order_at T st.bound k st.rise i l).1).does_hang

        go : (eqb (parent_at T i) 0 ≡ true) ⊎ (eqb (parent_at T i) 0 ≡ false) → ((q : ℕ) → q < n → q < k → get_or marks q 0 ≡ mark ends lowers (name_at T q)) → get_or marks i 0 ≡ mark ends lowers (name_at T i)
        go (inl t) ih =
            let z : parent_at T i ≡ 0 = eqb-true (parent_at T i) 0 t in
            let free : any (named (parent_at T i)) (before T i) ≡ false = rw z (none_named T i 0 (λ j b e. let p : 0 < name_at T j = st.filled j (omega arith) in omega arith)) in
            let d : get_or marks i 0 ≡ owned i = s.root i l free in
            let f : mark ends lowers (parent_at T i) ≡ 0 = ap (mark ends lowers) z ∙ none in
            let g : max (owned i) 0 ≡ owned i = omega arith in
            d ∙ sym (step i l ∙ ap (max (owned i)) f ∙ g)
        go (inr f) ih =
            let p = place_of T i (parent_at T i) (parent_in_order_row_fits_parent (get_or T i empty_row) (before T i) f hung).0 in
            s.child i p.0 l p.1.0 p.1.1 ∙ ap (max (owned i)) (ih p.0 (omega (arith, p.1.0)) (omega (arith, p.1.0)) ∙ ap (mark ends lowers) p.1.1) ∙ sym (step i l)

    pub marked : Marked T k marks ends lowers
    marked = record { each = λ i l. marked_below (suc i) i (omega arith) l }

  -- an access
  module _ (sheet : Sheet) (a : Access) (sp : Span) (u : ℕ) (in_cell : Bool) (relation places marks : List ℕ) (rel : Related T k u in_cell relation) (p : Places T k places) (s : Spread T k (own_of_access sheet T in_cell relation places a sp) marks) where
    none_used : (is : Effect → Bool) → struck sheet is a B u sp 0 ≡ false
    unfolding struck reached on_ancestry
    none_used is = rw (no_ancestry st.bound (before T k) stand_named st.rise)

    step_used : (i : ℕ) → i < k → mark (struck sheet is_end a B u sp) (struck sheet is_lower a B u sp) (name_at T i) ≡ max (own_of_access sheet T in_cell relation places a sp i) (mark (struck sheet is_end a B u sp) (struck sheet is_lower a B u sp) (parent_at T i))
    step_used i l =
        let c : Cap = get_or T i empty_row in
        let above : List Derivation = ancestry B (parent_at T i) in
        let f : (is : Effect → Bool) → struck sheet is a B u sp (name_at T i) ≡ is (strike sheet a sp (ancestry B u) (derivation c ∷ above)) || struck sheet is a B u sp (parent_at T i) =
        λ is. at_before _ T k (struck_step st.bound (before T k) stand_named st.rise sheet is a u sp) i l in
        let o : own_of_access sheet T in_cell relation places a sp i ≡ weight (strike sheet a sp (ancestry B u) (derivation c ∷ above)) =
        own_weight sheet a sp (ancestry B u) above c in_cell (get_or relation i 0) (eqb (value_below relation (get_or places i 0) i) 1) (rel.each i l) (λ z. rel.apart i l z ∙ ap (in_other_cell (ancestry B u)) (line_step i l)) (kin_told u relation places rel.each p i l) in
        rw (f is_end, f is_lower, o) (sym (greater (strike sheet a sp (ancestry B u) (derivation c ∷ above)) (struck sheet is_end a B u sp (parent_at T i)) (struck sheet is_lower a B u sp (parent_at T i))))

    pub marked_use : Marked T k marks (struck sheet is_end a B u sp) (struck sheet is_lower a B u sp)
    marked_use = marked (struck sheet is_end a B u sp) (struck sheet is_lower a B u sp) (own_of_access sheet T in_cell relation places a sp) marks s (rw (none_used is_end, none_used is_lower)) step_used

  -- the place of a name is told by it
  module _ (u q : ℕ) (f : Found T k u q) where
    at_place : (i : ℕ) → i < k → eqb i q ≡ eqb u (name_at T i)
    at_place i l = go (test (eqb i q))
      where
        go : (eqb i q ≡ true) ⊎ (eqb i q ≡ false) → eqb i q ≡ eqb u (name_at T i)
        go (inl t) = let e : i ≡ q = eqb-true i q t in t ∙ sym (eq-eqb u (name_at T i) (sym (f.here (omega arith)) ∙ ap (name_at T) (sym e)))
        go (inr g) = g ∙ sym (ne_eqb u (name_at T i) (λ (e : u ≡ name_at T i). differs e (test (ltb q k))))
          where
            differs : u ≡ name_at T i → (ltb q k ≡ true) ⊎ (ltb q k ≡ false) → ⊥
            differs e (inl b) = eqb-false i q g (same_place T k i q stand_rise l (ltb-true q k b) (sym e ∙ sym (f.here (ltb-true q k b))))
            differs e (inr b) = named_none T k u (f.gone (ltb-false q k b)) i l (sym e)

  both : (x y : Bool) → cond (x || y) 2 0 ≡ max (cond x 2 0) (cond y 2 0)
  both true true = refl
  both true false = refl
  both false true = refl
  both false false = refl

  -- names dropped together: their own marks, one more name at a time
  pub owned_none : Owned T k [] (replicate 1025 0)
  owned_none = record { long = length-replicate {A = ℕ} 1025 0; each = λ j l. get_or-replicate {A = ℕ} 1025 j 0 0 (omega (arith, st.few)) }

  pub owned_more : (names : List ℕ) (u q : ℕ) (owned : List ℕ) → Found T k u q → Owned T k names owned → Owned T k (names ++ u ∷ []) (set owned q 2)
  owned_more names u q owned f o = record { long = length-set owned q 2 ∙ o.long; each = each }
    where
      each : (j : ℕ) → j < k → get_or (set owned q 2) j 0 ≡ own_of_names T (names ++ u ∷ []) j
      each j l = go (test (eqb j q))
        where
          told : eqb j q ≡ eqb u (name_at T j)
          told = at_place u q f j l

          go : (eqb j q ≡ true) ⊎ (eqb j q ≡ false) → get_or (set owned q 2) j 0 ≡ own_of_names T (names ++ u ∷ []) j
          go (inl t) = let e : j ≡ q = eqb-true j q t in rw (any_one (λ x. eqb x (name_at T j)) names u, sym told ∙ t, or-true, e) (get_or-set_same owned q 2 0 (omega (arith, o.long, f.fits, st.few)))
          go (inr d) = rw (any_one (λ x. eqb x (name_at T j)) names u, sym told ∙ d, or-false) (get_or-set_other owned q j 2 0 (eqb-false j q d) ∙ o.each j l)

  module _ (names owned marks : List ℕ) (o : Owned T k names owned) (s : Spread T k (λ i. get_or owned i 0) marks) where
    abbrev together : ℕ → Bool
    together x = in_subtrees names (ancestry B x)

    step_together : (i : ℕ) → i < k → mark together (λ x. false) (name_at T i) ≡ max (get_or owned i 0) (mark together (λ x. false) (parent_at T i))
    step_together i l =
        let g : together (name_at T i) ≡ any (λ u. eqb u (name_at T i)) names || together (parent_at T i) = at_before _ T k (group_step st.bound (before T k) stand_named st.rise names) i l in
        rw (g, o.each i l) (both (any (λ u. eqb u (name_at T i)) names) (together (parent_at T i)))

    pub marked_together : Marked T k marks together (λ x. false)
    marked_together = marked together (λ x. false) (λ i. get_or owned i 0) marks s (rw (no_ancestry st.bound (before T k) stand_named st.rise, group_none names)) step_together

-- ---- the walk begins

pub walk_first : (T : List Cap) (k u q : ℕ) → k ≤ 1024 → Found T k u q → Walk T k u (replicate 1024 0) k k q
walk_first T k u q few f = record {
  fits = omega arith;
  long = length-replicate {A = ℕ} 1024 0;
  small = λ j l. rw (zero_at j l) (omega arith);
  name = u;
  nearest = rw (le-ltb k k (omega arith));
  found = f;
  each = λ j l. rw (zero_at j l);
}
  where
    zero_at : (j : ℕ) → j < k → get_or (replicate {A = ℕ} 1024 0) j 0 ≡ 0
    zero_at j l = get_or-replicate {A = ℕ} 1024 j 0 0 (omega arith)
