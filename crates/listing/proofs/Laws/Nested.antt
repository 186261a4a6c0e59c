-- The live rows of a table in order, by rising name: each row's fields can be spelled, and a child is one deeper than its parent.
-- Assumes nothing.
use mathlib.Core.Path.{◌≡◌, sym, ap, ◌∙◌, subst}
use mathlib.Core.Logic.{◌⊎◌, inl, inr}
use mathlib.Core.Bool.{true, false, ◌&&◌}
use mathlib.Core.List.{List, [], ◌∷◌, ◌++◌, reverse, reverse-cons}
use Prim.Native.Nat.{ℕ, ◌+◌, ◌^◌, ◌≤◌, ◌<◌}
use native.Mathlib.Omega.{arith}
use lib.Dec.{leb, eqb}
use borrow.Author.Tests.{leb-true, ltb-true, eqb-true, eqb-false, eq-eqb}
use Rattle.model.specs.declared.Cap.{Cap}
use Rattle.model.specs.Values.{inside}
use Rattle.model.specs.Table.{span, derivation, named, lookup, is_right, is_kind, is_mark, row_fits_parent, parent_in_order, rows_in_order}
use Rattle.model.proofs.Offered.{All, All_map, All_append, All_reverse, test, and_both, fitting, rises, place, parent_in_order_row_fits_parent, lookup_each, All_zip}
use Rattle.listing.specs.Listable.{SmallRows}

-- numbers of 32 bits, a right, a kind, a mark, and a mask of 64 bits
pub record Fields (c : Cap) : Type 0 where
  pub name : c.name.0 < 2 ^ 32
  pub start : c.start.0 < 2 ^ 32
  pub length : c.length < 2 ^ 32
  pub right : is_right c.right ≡ true
  pub kind : is_kind c.kind ≡ true
  pub fresh : is_mark c.fresh ≡ true
  pub maker : c.maker < 2 ^ 32
  pub holders : c.holders < 2 ^ 64

-- a row of the parent p, whose depth is d, is one deeper, and not too deep
abbrev pub Deeper : ℕ → ℕ → Cap → Type 0
Deeper p d x = x.parent.0 ≡ p → (x.depth ≡ d + 1) × (d < 64)

-- by rising name, a parent before its children
abbrev pub Nested : List Cap → Type 0
Nested [] = Unit {0}
Nested (c ∷ later) = All (Deeper c.name.0 c.depth) later × Nested later

nested_snoc : (xs : List Cap) (c : Cap) → Nested xs → All (λ x. Deeper x.name.0 x.depth c) xs → Nested (xs ++ (c ∷ []))
nested_snoc [] c n d = (tt, tt)
nested_snoc (x ∷ xs) c n d = (All_append (Deeper x.name.0 x.depth) xs (c ∷ []) n.0 (d.0, tt), nested_snoc xs c n.1 d.1)

-- what a row's place says of its parent, and of a root
under_depth : (c p : Cap) → row_fits_parent c p ≡ true → (c.depth ≡ p.depth + 1) × (p.depth < 64)
unfolding row_fits_parent
under_depth c p h =
    let m = and_both (inside (span c) (span p) && leb c.right p.right && eqb c.depth (p.depth + 1) && leb c.depth 64) (eqb c.fresh p.fresh) h in
    let a = and_both (inside (span c) (span p) && leb c.right p.right && eqb c.depth (p.depth + 1)) (leb c.depth 64) m.0 in
    let b = and_both (inside (span c) (span p) && leb c.right p.right) (eqb c.depth (p.depth + 1)) a.0 in
    let e = eqb-true c.depth (p.depth + 1) b.1 in
    (e, omega (arith, leb-true c.depth 64 a.1))

deeper_than : (bound : ℕ) (c : Cap) (earlier : List Cap) → All (λ x. named 0 x ≡ false) earlier → rows_in_order bound earlier ≡ true → parent_in_order c earlier ≡ true → All (λ x. Deeper x.name.0 x.depth c) earlier
deeper_than bound c earlier nz r h = All_map _ _ each earlier (All_zip _ _ earlier nz (lookup_each bound earlier r))
  where
    each : (x : Cap) → (named 0 x ≡ false) × ((x.name.0 < bound) × (lookup x.name.0 earlier ≡ x)) → Deeper x.name.0 x.depth c
    each x q e = go (test (eqb c.parent.0 0))
      where
        go : (eqb c.parent.0 0 ≡ true) ⊎ (eqb c.parent.0 0 ≡ false) → (c.depth ≡ x.depth + 1) × (x.depth < 64)
        go (inl t) = absurd (eqb-false 0 x.name.0 q.0 (sym (eqb-true c.parent.0 0 t) ∙ e))
        go (inr f) = under_depth c x (subst (λ (d : Cap). row_fits_parent c d ≡ true) (ap (λ (n : ℕ). lookup n earlier) e ∙ q.1.1) (parent_in_order_row_fits_parent c earlier f h).1)

root_depth : (c : Cap) (earlier : List Cap) → parent_in_order c earlier ≡ true → c.parent.0 ≡ 0 → c.depth ≡ 1
unfolding parent_in_order
root_depth c earlier h e = eqb-true c.depth 1 (and_both (eqb c.depth 1) (eqb c.kind 0) (rw (eq-eqb c.parent.0 0 e) at h)).0

module _ (bound : ℕ) where
  pub nested_reverse : (rows : List Cap) → All (λ x. named 0 x ≡ false) rows → rows_in_order bound rows ≡ true → Nested (reverse rows)
  nested_reverse rows = go bound rows
    where
      go : (b : ℕ) (rows : List Cap) → All (λ x. named 0 x ≡ false) rows → rows_in_order b rows ≡ true → Nested (reverse rows)
      go b [] nz h = tt
      go b (c ∷ rows) nz h =
          let r = rises b c rows h in
          rw (reverse-cons c rows)
          (nested_snoc (reverse rows) c (go c.name.0 rows nz.1 r.rest) (All_reverse _ rows (deeper_than c.name.0 c rows nz.1 r.rest (place c rows r.in_place).does_hang)))

  roots_deep : (rows : List Cap) → rows_in_order bound rows ≡ true → All (λ x. x.parent.0 ≡ 0 → x.depth ≡ 1) rows
  roots_deep rows = go bound rows
    where
      go : (b : ℕ) (rows : List Cap) → rows_in_order b rows ≡ true → All (λ x. x.parent.0 ≡ 0 → x.depth ≡ 1) rows
      go b [] h = tt
      go b (c ∷ rows) h = let r = rises b c rows h in (root_depth c rows (place c rows r.in_place).does_hang, go c.name.0 rows r.rest)

  pub roots_reverse : (rows : List Cap) → rows_in_order bound rows ≡ true → All (λ x. x.parent.0 ≡ 0 → x.depth ≡ 1) (reverse rows)
  roots_reverse rows h = All_reverse _ rows (roots_deep rows h)

fields : (bound : ℕ) → bound ≤ 1000001 → (rows : List Cap) → SmallRows rows → rows_in_order bound rows ≡ true → All Fields rows
fields bound l [] small h = tt
fields bound l (c ∷ rows) small h =
    let r = rises bound c rows h in
    let p = place c rows r.in_place in
    let t = fitting (derivation c) p.has_terms in
    let own : Fields c = record {
      name = omega (arith, r.below_bound);
      start = small.0.0;
      length = small.0.1;
      right = p.has_right;
      kind = p.has_kind;
      fresh = t.has_mark;
      maker = omega (arith, ltb-true c.maker 64 t.has_domain);
      holders = small.0.2;
    } in
    (own, fields c.name.0 (omega (arith, r.below_bound)) rows small.1 r.rest)

pub fields_reverse : (rows : List Cap) → SmallRows rows → (bound : ℕ) → bound ≤ 1000001 → rows_in_order bound rows ≡ true → All Fields (reverse rows)
fields_reverse rows small bound l h = All_reverse Fields rows (fields bound l rows small h)
