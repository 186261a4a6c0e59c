-- Names dropped together: whether they rise strictly, and the first of them that is refused, each a step of a loop.
-- Assumes nothing.
use mathlib.Core.Path.{◌≡◌, refl, sym}
use mathlib.Core.Bool.{Bool, false, true, and-false}
use mathlib.Core.List.{List, [], ◌∷◌}
use Prim.Native.Nat.{ℕ, zero, suc, ◌+◌, ◌≤◌, ◌<◌}
use native.Mathlib.Numerals.{add-one}
use native.Mathlib.Omega.{arith}
use lib.Dec.{eqb, ltb}
use lib.ListN.{length, get_or, drop, drop_of_length-le}
use lib.Seq.{drop-cons}
use Rattle.std.specs.List.{IsAllAdjacentAnswer}
use Rattle.model.specs.declared.Cap.{Cap}
use Rattle.model.specs.Lists.{first}
use Rattle.model.specs.Refusals.{standing, standings}
use Rattle.model.specs.Requests.{rises_above, rises_strictly}
use Rattle.model.proofs.Offered.{clash, name_refused, name_passed}

-- ---- names that rise

rises_all : (x : ℕ) (xs : List ℕ) → ((k : ℕ) → suc k < length (x ∷ xs) → ltb (get_or (x ∷ xs) k 0) (get_or (x ∷ xs) (suc k) 0) ≡ true) → rises_above x xs ≡ true
unfolding rises_above
rises_all x [] h = refl
rises_all x (y ∷ ys) h = rw (h 0 (omega arith)) (rises_all y ys (λ k l. h (suc k) (omega arith)))

rises_not : (x : ℕ) (xs : List ℕ) (k : ℕ) → suc k < length (x ∷ xs) → ltb (get_or (x ∷ xs) k 0) (get_or (x ∷ xs) (suc k) 0) ≡ false → rises_above x xs ≡ false
unfolding rises_above
rises_not x [] k l e = absurd (omega arith)
rises_not x (y ∷ ys) zero l e = rw e
rises_not x (y ∷ ys) (suc k) l e = rw (rises_not y ys k (omega arith) e) (and-false (ltb x y))

pub rises_told : (names : List ℕ) (r : Bool) → 1 ≤ length names → IsAllAdjacentAnswer (λ x y b. b ≡ ltb x y) names r → r ≡ rises_strictly names
unfolding rises_strictly
rises_told [] r h a = absurd (let l : 1 ≤ 0 = h in omega arith)
rises_told (x ∷ xs) true h a = sym (rises_all x xs (λ k l. sym (rw add-one at (a k 0 (omega arith)))))
rises_told (x ∷ xs) false h a = sym (rises_not x xs a.0 (omega (arith, a.1)) (sym (rw add-one at (a.2 0))))

-- ---- names in turn

module _ (rows : List Cap) (issued actor : ℕ) (names : List ℕ) (i : ℕ) where
  abbrev number : ℕ
  number = first (standing rows issued actor (record { 0 = get_or names i 0 }))

  pub names_stop : i < length names → (m : ℕ) → eqb m 0 ≡ false → number ≡ m → first (standings rows issued actor (drop i names)) ≡ m
  names_stop h zero z e = clash refl z
  names_stop h (suc k) z e = rw (drop-cons names i 0) (name_refused rows issued actor (get_or names i 0) (drop (suc i) names) k e)

  pub names_on : i < length names → number ≡ 0 → first (standings rows issued actor (drop i names)) ≡ first (standings rows issued actor (drop (i + 1) names))
  names_on h z = rw (drop-cons names i 0, add-one) (name_passed rows issued actor (get_or names i 0) (drop (suc i) names) z)

  pub names_end : length names ≤ i → first (standings rows issued actor (drop i names)) ≡ 0
  unfolding standings
  names_end h = rw (drop_of_length-le names h)
