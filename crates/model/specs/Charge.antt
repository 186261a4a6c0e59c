-- Card 10: what a capability's holders are charged.
-- Assumes nothing.
use Rattle.std.specs.Prelude.{ℕ, zero, suc, ◌+◌, ◌/◌, ◌%◌, Bool, cond, List, [], ◌∷◌, eqb}
use Rattle.model.specs.declared.Name.{Name}
use Rattle.model.specs.declared.Cap.{Cap}
use Rattle.model.specs.Lists.{first}
use Rattle.model.specs.Bits.{has_bit}
use Rattle.model.specs.Table.{live_rows, lookup}
use Rattle.model.specs.Refusals.{disordered, unissued, ended}

-- how many of the first k domains have their bit in the mask
unfoldable pub bits_below : ℕ → ℕ → ℕ
bits_below zero mask = 0
bits_below (suc k) mask = bits_below k mask + cond (has_bit mask k) 1 0

abbrev pub holder_count : Cap → ℕ
holder_count c = bits_below 64 c.holders

-- the refusal, 0 for none, the share of each holder, and what is left over
pub record Charge : Type 0 where
  pub refusal : ℕ
  pub share : ℕ
  pub rest : ℕ

-- "for a live name (else 1, 4 or 5; nothing changes)"
abbrev pub charge_checks : List Cap → ℕ → Name → List (ℕ × Bool)
charge_checks table issued u = (1, disordered table issued) ∷ (4, unissued (live_rows table) issued u) ∷ (5, ended (live_rows table) issued u) ∷ []

-- "A capability's length is charged in equal shares to its holders, and the whole quotient is reported together with what is left over"
abbrev pub shares : Cap → Charge
shares c = record { refusal = 0; share = c.length / holder_count c; rest = c.length % holder_count c }

unfoldable pub charge : List Cap → ℕ → Name → Charge
charge table issued u =
    let k : ℕ = first (charge_checks table issued u) in
    cond (eqb k 0) (shares (lookup u.0 (live_rows table))) (record { refusal = k; share = 0; rest = 0 })
