-- The names that a line of names dropped together leaves in an array of 64.
-- Assumes nothing.
use mathlib.Core.Path.{◌≡◌, refl, sym, ap, ◌∙◌}
use mathlib.Core.List.{List, ◌++◌}
use Prim.Native.Nat.{ℕ, ◌≤◌}
use native.Mathlib.Omega.{arith}
use lib.ListN.{length, replicate, take, drop, length-append, length-replicate}
use lib.Seq.{take-append_seam}
use Rattle.text.specs.Result.{Result, value, refused}
use Rattle.text.specs.Group.{read_group, count_of, names_after}
use Rattle.text.proofs.Offered.{names_after_lem, group_few, read_group_is_spelling, refused_group_is_2}

-- the line reads as names by the domain actor, of which there are n, and the first n of the array are these
pub record Got (line : List ℕ) (actor n : ℕ) (after : List ℕ) : Type 0 where
  pub names : List ℕ
  pub read : read_group line ≡ value (actor, names)
  pub inside : n ≤ length after
  pub taken : take n after ≡ names

pub got : (line : List ℕ) (actor n : ℕ) (after : List ℕ) → value (actor, n) ≡ count_of (read_group line) → after ≡ names_after (read_group line) (replicate 64 0) → Got line actor n after
got line actor n after = go (read_group line) refl
  where
    go : (r : Result (ℕ × List ℕ)) → read_group line ≡ r → value (actor, n) ≡ count_of r → after ≡ names_after r (replicate 64 0) → Got line actor n after
    go (value g) is q e =
        let names = g.1 in
        let both : ◌≡◌ {A = ℕ × ℕ} (actor, n) (g.0, length names) = cc in
        let who : actor ≡ g.0 = ap (λ (p : ℕ × ℕ). p.0) both in
        let count : n ≡ length names = ap (λ (p : ℕ × ℕ). p.1) both in
        let few : length names ≤ 64 = group_few names (read_group_is_spelling line g.0 names is).1 in
        let put : after ≡ names ++ drop (length names) (replicate 64 0) = e ∙ names_after_lem g.0 names (replicate 64 0) (omega (arith, few, length-replicate {A = ℕ} 64 0)) in
        record {
          names = names;
          read = is ∙ ap (λ (a : ℕ). value (a, names)) (sym who);
          inside = omega (arith, count, ap length put, length-append names (drop (length names) (replicate 64 0)));
          taken = ap (λ (k : ℕ). take k after) count ∙ ap (take (length names)) put ∙ take-append_seam names (drop (length names) (replicate 64 0));
        }
    go (refused x) is q e = absurd (let z : ◌≡◌ {A = ℕ} 0 1 = cc in omega arith)

-- the line reads as none
pub none_got : (line : List ℕ) (x : ℕ) → refused x ≡ count_of (read_group line) → read_group line ≡ refused 2
none_got line x = go (read_group line) refl
  where
    go : (r : Result (ℕ × List ℕ)) → read_group line ≡ r → refused x ≡ count_of r → read_group line ≡ refused 2
    go (value g) is q = absurd (let z : ◌≡◌ {A = ℕ} 0 1 = cc in omega arith)
    go (refused y) is q = is ∙ ap refused (refused_group_is_2 line y is)
