-- Card 10's charge: the ones of a mask are its holders, and the checks of a charge.
-- Assumes nothing.
use mathlib.Core.Path.{◌≡◌, sym, ap, ◌∙◌, subst}
use mathlib.Core.Logic.{◌⊎◌, inl, inr}
use mathlib.Core.Bool.{Bool, true, false, cond}
use mathlib.Core.List.{List}
use Prim.Native.Nat.{ℕ, zero, suc, ◌+◌, ◌/◌, ◌%◌, ◌^◌, ◌<◌}
use native.Mathlib.Nat.{mod-lt}
use native.Mathlib.Numerals.{add-one}
use native.Mathlib.Omega.{arith}
use lib.Arith.{lt-one}
use lib.Dec.{eqb}
use lib.Count.{ones, ones_step}
use lib.Pow.{shr_lt}
use borrow.Author.Tests.{eqb-true, eqb-false}
use Rattle.model.specs.declared.Cap.{Cap}
use Rattle.model.specs.declared.Name.{Name}
use Rattle.model.specs.declared.Refusal.{Refusal}
use Rattle.model.specs.Answers.{number}
use Rattle.model.specs.Lists.{first}
use Rattle.model.specs.Bits.{has_bit}
use Rattle.model.specs.Table.{live_rows, lookup, in_order}
use Rattle.model.specs.Charge.{bits_below, holder_count, charge_checks, shares, charge, Charge}
use Rattle.model.proofs.Offered.{test, has_bit_first, has_bit_next, has_holder}
use Rattle.table.specs.Rows.{before, Orderly}
use Rattle.table.specs.Stands.{living}
use Rattle.table.proofs.Laws.Judge.{numbered, orderly_live}

-- ---- the ones of a mask

-- a bit is the remainder by two
one_bit : (b : ℕ) → b < 2 → ◌≡◌ {A = ℕ} (cond (eqb b 1) 1 0) b
one_bit b l = go (test (eqb b 1))
  where
    none : b < 2 → (b ≡ 1 → ⊥) → ◌≡◌ {A = ℕ} 0 b
    none l d = omega (arith, d)

    go : (eqb b 1 ≡ true) ⊎ (eqb b 1 ≡ false) → ◌≡◌ {A = ℕ} (cond (eqb b 1) 1 0) b
    go (inl t) = rw t (sym (eqb-true b 1 t))
    go (inr f) = rw f (none l (eqb-false b 1 f))

-- counted from the lowest bit
bits_step : (k mask : ℕ) → bits_below (suc k) mask ≡ mask % 2 + bits_below k (mask / 2)
unfolding bits_below
bits_step zero mask = let e : ◌≡◌ {A = ℕ} (cond (has_bit mask 0) 1 0) (mask % 2) = ap (λ (b : Bool). cond b 1 0) (has_bit_first mask) ∙ one_bit (mask % 2) (mod-lt mask (omega arith)) in omega (arith, e)
bits_step (suc k) mask = let e : ◌≡◌ {A = ℕ} (cond (has_bit mask (suc k)) 1 0) (cond (has_bit (mask / 2) k) 1 0) = ap (λ (b : Bool). cond b 1 0) (has_bit_next mask k) in omega (arith, e, bits_step k mask)

pub bits_ones : (k mask : ℕ) → mask < 2 ^ k → bits_below k mask ≡ ones mask
unfolding bits_below ones
bits_ones zero mask l = sym (ap ones (lt-one l))
bits_ones (suc k) mask l = bits_step k mask ∙ ap (λ (n : ℕ). mask % 2 + n) (bits_ones k (mask / 2) (shr_lt k 1 (wider k l))) ∙ sym (ones_step mask)
  where
    wider : (k : ℕ) → mask < 2 ^ suc k → mask < 2 ^ (k + 1)
    wider k l = rw (add-one k) l

-- ---- the charge of a name

pub charge_disordered : (T : List Cap) (issued : ℕ) (u : Name) → in_order T issued ≡ false → charge T issued u ≡ record { refusal = 1; share = 0; rest = 0 }
unfolding charge
charge_disordered T issued u h = rw h

module _ (T : List Cap) (n k issued : ℕ) (o : Orderly T n k issued) (u : Name) where
  checked : first (charge_checks T issued u) ≡ first (living (before T k) issued u)
  checked = rw o.ordered (ap (λ (rows : List Cap). first (living rows issued u)) (orderly_live T n k issued o))

  pub charge_refused : (x : Refusal) → first (living (before T k) issued u) ≡ number x → charge T issued u ≡ record { refusal = number x; share = 0; rest = 0 }
  unfolding charge
  charge_refused x e = rw (checked ∙ e, numbered x)

  module _ (c : Cap) (e : first (living (before T k) issued u) ≡ 0) (f : lookup u.0 (before T k) ≡ c) where
    found : lookup u.0 (live_rows T) ≡ c
    found = ap (lookup u.0) (orderly_live T n k issued o) ∙ f

    pub charge_shares : charge T issued u ≡ shares c
    unfolding charge
    charge_shares = rw (checked ∙ e, found)

    -- its maker is among its holders
    pub some_holder : 0 < holder_count c
    some_holder = subst (λ (d : Cap). 0 < holder_count d) found (has_holder T issued u (ap (λ (x : Charge). x.refusal) charge_shares))
