-- A text that is being written: the rest, written where the writer stands, makes the whole.
-- Assumes nothing.
use mathlib.Core.Path.{◌≡◌, refl, sym, ap, ◌∙◌, subst}
use mathlib.Core.List.{List, [], ◌∷◌, ◌++◌}
use Prim.Native.Nat.{ℕ, ◌+◌, ◌≤◌, ◌<◌}
use native.Mathlib.Omega.{arith}
use lib.ListN.{length, set, length-append, length-set}
use lib.Seq.{sets}
use Rattle.text.specs.Put.{Put, Room}
use Rattle.text.proofs.Offered.{sets_first, put_next, put_length}

-- s is being written into out at a position: the writer stands at here in now, and rest is left
pub record Writing (out : List ℕ) (at : ℕ) (s now : List ℕ) (here : ℕ) (rest : List ℕ) : Type 0 where
  pub whole : sets now here rest ≡ sets out at s
  pub ends : here + length rest ≡ at + length s
  pub kept : length now ≡ length out

pub begin : (out : List ℕ) (at : ℕ) (s : List ℕ) → Writing out at s out at s
begin out at s = record { whole = refl; ends = refl; kept = refl }

module _ {out : List ℕ} {at : ℕ} {s now : List ℕ} {here : ℕ} {rest : List ℕ} (w : Writing out at s now here rest) where
  pub seen : {other : List ℕ} → rest ≡ other → Writing out at s now here other
  seen e = subst (Writing out at s now here) e w

  pub room : Room out at s → here + length rest ≤ length now
  room r = omega (arith, w.ends, w.kept)

  pub byte : (x : ℕ) {other : List ℕ} → rest ≡ x ∷ other → Writing out at s (set now here x) (here + 1) other
  byte x {other} e = record {
    whole = sym (sets_first now here x other) ∙ ap (sets now here) (sym e) ∙ w.whole;
    ends = omega (arith, w.ends, ap length e);
    kept = length-set now here x ∙ w.kept;
  }

  pub piece : {t other after : List ℕ} {next : ℕ} → rest ≡ t ++ other → Put now here t after next → Writing out at s after next other
  piece {t} {other} e p = record {
    whole = put_next p other ∙ ap (sets now here) (sym e) ∙ w.whole;
    ends = omega (arith, w.ends, ap length e, length-append t other, p.moved);
    kept = put_length p ∙ w.kept;
  }

  pub fits : (t other : List ℕ) → rest ≡ t ++ other → Room out at s → Room now here t
  fits t other e r = omega (arith, w.ends, w.kept, ap length e, length-append t other)

  pub one_fits : (x : ℕ) (other : List ℕ) → rest ≡ x ∷ other → Room out at s → here < length now
  one_fits x other e r = omega (arith, w.ends, w.kept, ap length e)

  pub finish : rest ≡ [] → Put out at s now here
  finish e = record { moved = omega (arith, w.ends, ap length e); stored = sym (ap (sets now here) e) ∙ w.whole }
