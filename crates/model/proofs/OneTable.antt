-- Document 01, "Values": "So one set of capabilities has one table". Names rise strictly, so the members of the live rows tell their order,
-- and the live rows tell the table.
-- Assumes nothing.
use mathlib.Core.Path.{◌≡◌, refl, sym, ap, ap₂, ◌∙◌}
use mathlib.Core.Logic.{◌⊎◌, inl, inr}
use mathlib.Core.Bool.{true}
use mathlib.Core.List.Memᴰ
use mathlib.Core.List.{List, [], ◌∷◌, Memᴰ}
use Prim.Native.Nat.{ℕ, suc, ◌<◌}
use native.Mathlib.Omega.{arith}
use lib.ListN.{length}
use Rattle.model.specs.declared.Cap.{Cap}
use Rattle.model.specs.Table.{live_rows, lent_table, rows_in_order, in_order, SameMembers}
use Rattle.model.proofs.Order.{rises, ordered}
use Rattle.model.proofs.Rows.{lent_live}

-- a member of rows that rise has a name below their bound
member_below : (bound : ℕ) (rows : List Cap) → rows_in_order bound rows ≡ true → (c : Cap) → Memᴰ c rows → c.name.0 < bound
member_below bound [] h c m = absurd (Memᴰ.not-nil m)
member_below bound (x ∷ rows) h c m = go (Memᴰ.cases_cons m) (member_below x.name.0 rows (rises bound x rows h).rest c)
  where
    go : (c ≡ x) ⊎ Memᴰ c rows → (Memᴰ c rows → c.name.0 < x.name.0) → c.name.0 < bound
    go (inl e) ih = omega (arith, ap (λ (d : Cap). d.name.0) e, (rises bound x rows h).below_bound)
    go (inr r) ih = omega (arith, ih r, (rises bound x rows h).below_bound)

-- the first row is the one with the highest name
same_first : (c d : Cap) → (c ≡ d) ⊎ (c.name.0 < d.name.0) → (d ≡ c) ⊎ (d.name.0 < c.name.0) → c ≡ d
same_first c d (inl e) q = e
same_first c d (inr l) (inl e) = sym e
same_first c d (inr l) (inr m) = absurd (omega arith)

-- a row is no later one
later : (c d x : Cap) (rows : List Cap) → c ≡ d → x.name.0 < c.name.0 → (x ≡ d) ⊎ Memᴰ x rows → Memᴰ x rows
later c d x rows e l (inl q) = absurd (omega (arith, ap (λ (y : Cap). y.name.0) (q ∙ sym e)))
later c d x rows e l (inr m) = m

-- rows that rise are told by their members
one_order : (a b : List Cap) (i j : ℕ) → rows_in_order i a ≡ true → rows_in_order j b ≡ true → SameMembers a b → a ≡ b
one_order [] [] i j ha hb s = refl
one_order [] (d ∷ b) i j ha hb s = absurd (Memᴰ.not-nil (s.back d (Memᴰ.head refl)))
one_order (c ∷ a) [] i j ha hb s = absurd (Memᴰ.not-nil (s.forth c (Memᴰ.head refl)))
one_order (c ∷ a) (d ∷ b) i j ha hb s =
    ap₂ {C = List Cap} (λ x xs. x ∷ xs) first (one_order a b c.name.0 d.name.0 (rises i c a ha).rest (rises j d b hb).rest rest)
  where
    below : (x y : Cap) (rows : List Cap) → rows_in_order y.name.0 rows ≡ true → (x ≡ y) ⊎ Memᴰ x rows → (x ≡ y) ⊎ (x.name.0 < y.name.0)
    below x y rows h (inl e) = inl e
    below x y rows h (inr m) = inr (member_below y.name.0 rows h x m)

    first : c ≡ d
    first =
        same_first c d
        (below c d b (rises j d b hb).rest (Memᴰ.cases_cons (s.forth c (Memᴰ.head refl))))
        (below d c a (rises i c a ha).rest (Memᴰ.cases_cons (s.back d (Memᴰ.head refl))))

    rest : SameMembers a b
    rest = record {
      forth = λ x m. later c d x b first (member_below c.name.0 a (rises i c a ha).rest x m) (Memᴰ.cases_cons (s.forth x (Memᴰ.tail m)));
      back = λ x m. later d c x a (sym first) (member_below d.name.0 b (rises j d b hb).rest x m) (Memᴰ.cases_cons (s.back x (Memᴰ.tail m)));
    }

-- Two tables in order with as many rows that hold the same capabilities are equal.
pub one_table : (a b : List Cap) (i j : ℕ) → in_order a i ≡ true → in_order b j ≡ true → length a ≡ length b → SameMembers (live_rows a) (live_rows b) → a ≡ b
one_table a b i j ha hb l s =
    let oa = ordered a i ha in
    let ob = ordered b j hb in
    let live = one_order (live_rows a) (live_rows b) (suc i) (suc j) oa.rise ob.rise s in
    sym (lent_live a oa.rest_is_empty) ∙ ap₂ lent_table l live ∙ lent_live b ob.rest_is_empty
