-- Card 10: what each case of the code's answer stands for: the share of each holder and what is left over, or why there is none.
-- Assumes nothing.
use Rattle.std.specs.Prelude.{ℕ, Err, Ok, Result}
use Rattle.model.specs.declared.Refusal.{Refusal}
use Rattle.model.specs.Answers.{number}
use Rattle.model.specs.Charge.{Charge}

abbrev pub charge_of : Result (ℕ × ℕ) Refusal → Charge
charge_of (Ok (share, rest)) = record { refusal = 0; share = share; rest = rest }
charge_of (Err r) = record { refusal = number r; share = 0; rest = 0 }
