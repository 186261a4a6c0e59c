-- The links between rows, as one pass from the last row to the first fills them in; and what they skip of a listing.
-- Assumes nothing.
use mathlib.Core.Path.{◌≡◌, refl, sym, ap, ◌∙◌, subst}
use mathlib.Core.Bool.{Bool, true, false}
use mathlib.Core.List.{List}
use Prim.Native.Nat.{ℕ, zero, suc, ◌+◌, ◌-◌, ◌≤◌, ◌<◌}
use native.Mathlib.Omega.{arith}
use lib.Dec.{eqb, ltb}
use lib.ListN.{length, get_or, set, drop, replicate, length-set, length-replicate, get_or-replicate, get_or-eq_default}
use lib.Seq.{drop-cons, get_or-set_same, get_or-set_other}
use borrow.Author.Tests.{eqb-true, eqb-false, ltb-true, ltb-false, ne_eqb}
use Rattle.model.specs.declared.Cap.{Cap}
use Rattle.model.specs.Table.{empty_row}
use Rattle.table.specs.Rows.{name_at, parent_at}
use Rattle.listing.specs.Listing.{children, roots}
use Rattle.listing.specs.Links.{Next, Linked}
use Rattle.listing.proofs.Laws.Sorted.{InOrder}
use Rattle.listing.proofs.Laws.Live.{one_row, parent_before, name_above}

-- the rows from i on have been linked
pub record Filling (rows : List Cap) (first next : List ℕ) (i : ℕ) : Type 0 where
  pub wide : (length first ≡ 1025) × (length next ≡ 1025)
  pub heads : (j : ℕ) → j ≤ length rows → Next rows (name_at rows j) i (get_or first j 0)
  pub tails : (k : ℕ) → i ≤ k → k < length rows → Next rows (parent_at rows k) (suc k) (get_or next k 0)

none_yet : (rows : List Cap) (p : ℕ) {b : ℕ} → b ≡ length rows → Next rows p (length rows) b
none_yet rows p e = record { from = omega arith; inside = omega arith; gap = λ k a b. absurd (omega arith); own = λ l. absurd (omega arith) }

pub filling_start : (rows : List Cap) (first next : List ℕ) → length rows ≤ 1024 → length next ≡ 1025 → first ≡ replicate 1025 (length rows) → Filling rows first next (length rows)
filling_start rows first next few wide e = record {
  wide = (ap length e ∙ length-replicate 1025 (length rows), wide);
  heads = λ j l. none_yet rows (name_at rows j) (ap (λ (f : List ℕ). get_or f j 0) e ∙ get_or-replicate 1025 j (length rows) 0 (omega arith));
  tails = λ k a b. absurd (omega arith);
}

apart : (k i : ℕ) → i ≤ k → (k ≡ i → ⊥) → suc i ≤ k
apart k i a ne = omega arith

-- a row that has the parent, and one that has not
stops : (rows : List Cap) (p i : ℕ) {b : ℕ} → i < length rows → parent_at rows i ≡ p → b ≡ i → Next rows p i b
stops rows p i l e is = record { from = omega arith; inside = omega arith; gap = λ k a b. absurd (omega arith); own = λ _. ap (parent_at rows) is ∙ e }

passes : (rows : List Cap) (p i : ℕ) {b : ℕ} → (parent_at rows i ≡ p → ⊥) → Next rows p (suc i) b → Next rows p i b
passes rows p i {b} other n = record { from = omega (arith, n.from); inside = n.inside; gap = λ k a l e. go k a l e (eqb k i) refl; own = n.own }
  where
    go : (k : ℕ) → i ≤ k → k < b → parent_at rows k ≡ p → (t : Bool) → eqb k i ≡ t → ⊥
    go k a l e true h = other (ap (parent_at rows) (sym (eqb-true k i h)) ∙ e)
    go k a l e false h = n.gap k (apart k i a (eqb-false k i h)) l e

-- two names of rows, or of what is behind the last row, are two
differ : (rows : List Cap) → InOrder rows → (j p : ℕ) → j ≤ length rows → p ≤ length rows → name_at rows j ≡ name_at rows p → j ≡ p
differ rows h j p hj hp e = go (ltb j (length rows)) (ltb p (length rows)) refl refl
  where
    none : (k : ℕ) → length rows ≤ k → name_at rows k ≡ 0
    none k l = ap (λ (c : Cap). c.name.0) (get_or-eq_default rows empty_row l)

    go : (s t : Bool) → ltb j (length rows) ≡ s → ltb p (length rows) ≡ t → j ≡ p
    go true true a b = one_row rows h j p (ltb-true j (length rows) a) (ltb-true p (length rows) b) e
    go true false a b = absurd (omega (arith, name_above rows h j (ltb-true j (length rows) a), none p (ltb-false p (length rows) b)))
    go false true a b = absurd (omega (arith, name_above rows h p (ltb-true p (length rows) b), none j (ltb-false j (length rows) a)))
    go false false a b = omega (arith, ltb-false j (length rows) a, ltb-false p (length rows) b)

-- one row more: it comes before the siblings that were met
pub filling_step : (rows : List Cap) (first next : List ℕ) (i p : ℕ) → InOrder rows → length rows ≤ 1024 → i < length rows → p ≤ length rows → name_at rows p ≡ parent_at rows i
    → Filling rows first next (suc i) → Filling rows (set first p i) (set next i (get_or first p 0)) i
filling_step rows first next i p order few l hp same f = record {
  wide = (length-set first p i ∙ f.wide.0, length-set next i (get_or first p 0) ∙ f.wide.1);
  heads = λ j hj. head j hj (eqb j p) refl;
  tails = λ k a b. tail k a b (eqb k i) refl;
}
  where
    head : (j : ℕ) → j ≤ length rows → (t : Bool) → eqb j p ≡ t → Next rows (name_at rows j) i (get_or (set first p i) j 0)
    head j hj true h =
        let is = eqb-true j p h in
        let wide : p < length first = omega (arith, f.wide.0) in
        stops rows (name_at rows j) i l (sym same ∙ ap (name_at rows) (sym is)) (ap (λ (k : ℕ). get_or (set first p i) k 0) is ∙ get_or-set_same first p i 0 wide)
    head j hj false h =
        let ne = eqb-false j p h in
        subst (Next rows (name_at rows j) i) (sym (get_or-set_other first p j i 0 ne))
        (passes rows (name_at rows j) i (λ e. ne (differ rows order j p hj hp (sym e ∙ sym same))) (f.heads j hj))

    tail : (k : ℕ) → i ≤ k → k < length rows → (t : Bool) → eqb k i ≡ t → Next rows (parent_at rows k) (suc k) (get_or (set next i (get_or first p 0)) k 0)
    tail k a b true h =
        let is = eqb-true k i h in
        let wide : i < length next = omega (arith, f.wide.1) in
        rw (is, get_or-set_same next i (get_or first p 0) 0 wide, ← same) (f.heads p hp)
    tail k a b false h =
        let ne = eqb-false k i h in
        subst (Next rows (parent_at rows k) (suc k)) (sym (get_or-set_other next i k (get_or first p 0) 0 ne)) (f.tails k (apart k i a ne) b)

pub filling_end : (rows : List Cap) (first next : List ℕ) → InOrder rows → Filling rows first next 0 → Linked rows first next
filling_end rows first next order f = record { children = f.heads; later = λ j l. later j l (ltb (get_or first j 0) (length rows)) refl; siblings = λ i l. f.tails i (omega arith) l }
  where
    later : (j : ℕ) → j < length rows → (t : Bool) → ltb (get_or first j 0) (length rows) ≡ t → j < get_or first j 0
    later j l true h =
        let n = f.heads j (omega arith) in
        let small = ltb-true (get_or first j 0) (length rows) h in
        parent_before rows order (get_or first j 0) j small l (n.own small)
    later j l false h = omega (arith, ltb-false (get_or first j 0) (length rows) h)

-- ---- what is skipped

children_pass : (p : ℕ) (rows : List Cap) (a : ℕ) → a < length rows → (parent_at rows a ≡ p → ⊥) → children p (drop a rows) ≡ children p (drop (suc a) rows)
unfolding children
children_pass p rows a l other = rw (drop-cons rows a empty_row, ne_eqb (parent_at rows a) p other)

roots_pass : (rows : List Cap) (a : ℕ) → a < length rows → (parent_at rows a ≡ 0 → ⊥) → roots (drop a rows) ≡ roots (drop (suc a) rows)
unfolding roots
roots_pass rows a l other = rw (drop-cons rows a empty_row, ne_eqb (parent_at rows a) 0 other)

-- what passes each row of a gap passes the gap
gap_pass : (T : ℕ → List ℕ) (a k : ℕ) → ((j : ℕ) → a ≤ j → j < a + k → T j ≡ T (suc j)) → T a ≡ T (a + k)
gap_pass T a zero h = ap T (omega arith)
gap_pass T a (suc k) h =
    let e : suc (a + k) ≡ a + suc k = omega arith in
    gap_pass T a k (λ j x y. h j x (omega arith)) ∙ h (a + k) (omega arith) (omega arith) ∙ ap T e

module _ (rows : List Cap) (p a b : ℕ) (n : Next rows p a b) where
  to_b : a + (b - a) ≡ b
  to_b = omega (arith, n.from)

  pub children_skip : children p (drop a rows) ≡ children p (drop b rows)
  children_skip =
      gap_pass (λ k. children p (drop k rows)) a (b - a) (λ j x y. children_pass p rows j (omega (arith, to_b, n.inside)) (n.gap j x (omega (arith, to_b))))
      ∙ ap (λ (k : ℕ). children p (drop k rows)) to_b

  pub roots_skip : p ≡ 0 → roots (drop a rows) ≡ roots (drop b rows)
  roots_skip z =
      gap_pass (λ k. roots (drop k rows)) a (b - a) (λ j x y. roots_pass rows j (omega (arith, to_b, n.inside)) (λ e. n.gap j x (omega (arith, to_b)) (e ∙ sym z)))
      ∙ ap (λ (k : ℕ). roots (drop k rows)) to_b
