-- One run over lines: the next line of a client, a round, and the rounds that follow it.
-- Assumes nothing.
use mathlib.Core.Path.{◌≡◌, refl, ap}
use mathlib.Core.Bool.{Bool, true, false, cond}
use mathlib.Core.List.{List, [], ◌∷◌, ◌++◌, map}
use Prim.Native.Nat.{ℕ, suc, ◌-◌, ◌≤◌, ◌<◌, max}
use native.Mathlib.Omega.{arith}
use lib.Dec.{eqb}
use lib.ListN.{length}
use Rattle.text.specs.Class.{newline}
use Rattle.text.specs.Line.{parts_of, push, lines_of}
use Rattle.sizes.specs.Turns.{Turn, turn, one_round, behind, rounds, longest}
use Rattle.sizes.specs.Clients.{Shared, stop, refusal, after}
use Rattle.sizes.specs.Report as report
use Rattle.sizes.specs.Peak.{needs_at, sized}

-- ---- a run

pub sized_none : (h : Shared) (most : ℕ) → sized h most [] ≡ report.rows most
unfolding sized
sized_none h most = refl

pub sized_on : (h : Shared) (most : ℕ) (t : Turn) (ts : List Turn) → refusal h t ≡ 0 → sized h most (t ∷ ts) ≡ sized (after h t) (max most (needs_at h t)) ts
unfolding sized
sized_on h most t ts z = rw z

pub sized_stop : (h : Shared) (most : ℕ) (t : Turn) (ts : List Turn) (k : ℕ) → refusal h t ≡ k → eqb k 0 ≡ false → sized h most (t ∷ ts) ≡ report.refused (stop k t.client t.number)
unfolding sized
sized_stop h most t ts k e f = rw (e, f)

-- ---- a round

-- the first client's line, and those of the others
pub round_first : (client number : ℕ) (lines : List (List ℕ)) (others : List (List (List ℕ))) → one_round client number (lines ∷ others) ≡ one_round client number (lines ∷ []) ++ one_round (suc client) number others
unfolding one_round
round_first client number [] others = refl
round_first client number (line ∷ lines) others = refl

pub round_none : (client number : ℕ) → one_round client number [] ≡ []
unfolding one_round
round_none client number = refl

pub turn_none : (client number : ℕ) → one_round client number ([] ∷ []) ≡ []
unfolding one_round
turn_none client number = refl

pub turn_one : (client number : ℕ) (line : List ℕ) (lines : List (List ℕ)) → one_round client number ((line ∷ lines) ∷ []) ≡ turn client number line ∷ []
unfolding one_round
turn_one client number line lines = refl

-- ---- the rounds

length_behind : (lines : List (List ℕ)) → length (behind lines) ≡ length lines - 1
length_behind [] = refl
length_behind (l ∷ lines) = omega arith

pub longest_behind : (left : List (List (List ℕ))) → longest (map behind left) ≡ longest left - 1
unfolding longest
longest_behind [] = refl
longest_behind (lines ∷ others) = let a = length_behind lines in let b = longest_behind others in omega arith

-- where some line is left there is one more round
pub rounds_more : (number : ℕ) (left : List (List (List ℕ))) → 0 < longest left
    → rounds (longest left) number left ≡ one_round 1 number left ++ rounds (longest (map behind left)) (suc number) (map behind left)
unfolding rounds
rounds_more number left l =
    let e : longest left ≡ suc (longest (map behind left)) = omega (arith, longest_behind left) in
    ap (λ (n : ℕ). rounds n number left) e

-- and else there is none
pub rounds_end : (number : ℕ) (left : List (List (List ℕ))) → longest left ≡ 0 → rounds (longest left) number left ≡ []
unfolding rounds
rounds_end number left e = ap (λ (n : ℕ). rounds n number left) e

-- ---- lines

-- a text has no more lines than bytes
pub lines_few : (s : List ℕ) → length (lines_of s) ≤ length s
unfolding parts_of push
lines_few [] = omega arith
lines_few (b ∷ s) = go (eqb (Rattle.text.specs.Class.class_of b) newline) (parts_of newline s) (lines_few s)
  where
    pushed : (l : List (List ℕ)) → length l ≤ length s → length (push b l) ≤ suc (length s)
    pushed [] h = omega arith
    pushed (x ∷ l) h = omega arith

    go : (t : Bool) (l : List (List ℕ)) → length l ≤ length s → length (cond t ((b ∷ []) ∷ l) (push b l)) ≤ suc (length s)
    go true l h = omega arith
    go false l h = pushed l h
