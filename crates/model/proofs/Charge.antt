-- Card 10: the shares and what is left over make up the length, and less is left over than there are holders.
-- Assumes nothing.
use mathlib.Core.Path.{◌≡◌, refl, sym, ap, ◌∙◌}
use mathlib.Core.Logic.{◌⊎◌, inl, inr}
use mathlib.Core.Bool.{Bool, true, false, cond}
use mathlib.Core.List.{List}
use Prim.Native.Nat.{ℕ, zero, suc, ◌+◌, ◌*◌, ◌<◌, ◌≤◌}
use native.Mathlib.Nat.{mod-lt, div-add-mod'}
use native.Mathlib.Omega.{arith}
use lib.Dec.{eqb, ltb}
use borrow.Author.Tests.{eqb-true, eqb-false, ne_eqb, ltb-true, not-false}
use Rattle.model.specs.declared.Name.{Name}
use Rattle.model.specs.declared.Cap.{Cap}
use Rattle.model.specs.Lists.{any, first}
use Rattle.model.specs.Bits.{has_bit}
use Rattle.model.specs.Table.{derivation, named, live_rows, lookup, terms_in_order, in_order}
use Rattle.model.specs.Charge.{bits_below, holder_count, charge_checks, shares, charge}
use Rattle.model.proofs.Lists.{test, first_none}
use Rattle.model.proofs.Lent.{lookup_found}
use Rattle.model.proofs.Order.{ordered, terms_given, fitting}

-- a bit that is set is counted
counted_bit : (k j mask : ℕ) → j < k → has_bit mask j ≡ true → 1 ≤ bits_below k mask
unfolding bits_below
counted_bit zero j mask l h = omega arith
counted_bit (suc k) j mask l h = go (test (eqb j k)) (λ m. counted_bit k j mask m h)
  where
    more : (x y : ℕ) → 1 ≤ x → 1 ≤ x + y
    more x y m = omega arith

    last : (x : ℕ) (b : Bool) → b ≡ true → 1 ≤ x + cond b 1 0
    last x b e = rw e (omega arith)

    below : (eqb j k ≡ false) → j < k
    below f = other (test (ltb j k))
      where
        other : (ltb j k ≡ true) ⊎ (ltb j k ≡ false) → j < k
        other (inl t) = ltb-true j k t
        other (inr n) = differs (eqb-false j k f)
          where
            differs : (j ≡ k → ⊥) → j < k
            differs d = omega (arith, d, l)

    go : (eqb j k ≡ true) ⊎ (eqb j k ≡ false) → (j < k → 1 ≤ bits_below k mask) → 1 ≤ bits_below k mask + cond (has_bit mask k) 1 0
    go (inl e) ih = last (bits_below k mask) (has_bit mask k) (ap (has_bit mask) (sym (eqb-true j k e)) ∙ h)
    go (inr f) ih = more (bits_below k mask) (cond (has_bit mask k) 1 0) (ih (below f))

module _ (table : List Cap) (issued : ℕ) (u : Name) (z : (charge table issued u).refusal ≡ 0) where
  abbrev c : Cap
  c = lookup u.0 (live_rows table)

  passes : first (charge_checks table issued u) ≡ 0
  unfolding charge
  passes = go (first (charge_checks table issued u)) z
    where
      go : (k : ℕ) → (cond (eqb k 0) (shares c) (record { refusal = k; share = 0; rest = 0 })).refusal ≡ 0 → k ≡ 0
      go zero e = refl
      go (suc k) e = rw (ne_eqb (suc k) 0 (λ (q : suc k ≡ 0). omega arith)) at e

  charged : charge table issued u ≡ shares c
  unfolding charge
  charged = rw passes

  -- its maker is among its holders
  pub has_holder : 0 < holder_count c
  has_holder =
      let p = first_none (charge_checks table issued u) refl passes in
      let t = fitting (derivation c) (lookup_found (λ c. terms_in_order (derivation c) ≡ true) u.0 (live_rows table) (not-false (any (named u.0) (live_rows table)) (p 5)) (terms_given (suc issued) (live_rows table) (ordered table issued (not-false (in_order table issued) (p 1))).rise)) in
      counted_bit 64 c.maker c.holders (ltb-true c.maker 64 t.has_domain) t.has_holder

  pub all_charged : (charge table issued u).share * holder_count c + (charge table issued u).rest ≡ c.length
  all_charged = rw charged (div-add-mod' c.length (holder_count c))

  pub less_left : (charge table issued u).rest < holder_count c
  less_left = rw charged (mod-lt c.length has_holder)
