-- A `?` that returns from a function returns the refusal that it was given.
-- Assumes nothing.
use Rattle.std.specs.Prelude.{◌≡◌, Result, Ok, Err}
use Rattle.std.specs.Result.{IsErrAnd}
use mathlib.Core.Path.{ap}
use Rattle.model.specs.declared.Refusal.{Refusal}

pub passed_on : {T : Type 0} (r : Result T Refusal) (x : Refusal) → IsErrAnd r (λ y. y ≡ x) → r ≡ Err x
passed_on (Ok t) x h = absurd h
passed_on (Err y) x h = ap Err h
