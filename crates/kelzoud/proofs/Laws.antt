-- The answer of a run, taken apart, how many names a line reads as, and that a mark or back reads as none.
-- Assumes nothing.
use Rattle.std.specs.Prelude.{Ok, Err, Result as Returned}
use mathlib.Core.Path.{◌≡◌, refl, sym, ap, ◌∙◌}
use mathlib.Core.List.{List}
use Prim.Native.Nat.{ℕ, ◌≤◌}
use native.Mathlib.Omega.{arith}
use lib.ListN.{length}
use Rattle.model.specs.declared.Asked.{Asked}
use Rattle.model.specs.declared.Asked.TheVariants as asked
use Rattle.model.specs.declared.Work.TheVariants as work
use Rattle.model.specs.Requests.{Unlimited}
use Rattle.model.specs.Step.{State}
use Rattle.text.specs.Result.{Result, value, refused}
use Rattle.text.specs.Group.{read_group, count_of}
use Rattle.text.specs.Request.{state_of}
use Rattle.text.proofs.Offered.{group_few, read_group_is_spelling}
use Rattle.trace.specs.declared.run.RefusedAt.{RefusedAt}
use Rattle.trace.specs.Run.{Ran, ran_of}
use Rattle.kelzoud.specs.Interface.{packed_ran, packed_run, group_after}

-- what a run answers and leaves, taken apart
pub ran_parts : (a : Returned ℕ RefusedAt) (h : State) (x : Ran State) → ran_of a h ≡ x → (h ≡ x.state) × (packed_run a ≡ packed_ran x)
ran_parts (Ok k) h x e = (ap (λ (r : Ran State). r.state) e, ap packed_ran e)
ran_parts (Err at) h x e = (ap (λ (r : Ran State). r.state) e, ap packed_ran e)

-- the names that a line reads as, and the domain that drops them
pub record Counted (line : List ℕ) (actor n : ℕ) : Type 0 where
  pub names : List ℕ
  pub read : read_group line ≡ value (actor, names)
  pub count : n ≡ length names
  pub few : n ≤ 64

pub counted : (line : List ℕ) (actor n : ℕ) → value (actor, n) ≡ count_of (read_group line) → Counted line actor n
counted line actor n = go (read_group line) refl
  where
    go : (r : Result (ℕ × List ℕ)) → read_group line ≡ r → value (actor, n) ≡ count_of r → Counted line actor n
    go (value g) is e =
        let names = g.1 in
        let both : ◌≡◌ {A = ℕ × ℕ} (actor, n) (g.0, length names) = cc in
        let who : g.0 ≡ actor = ap (λ (p : ℕ × ℕ). p.0) (sym both) in
        let l : n ≡ length names = ap (λ (p : ℕ × ℕ). p.1) both in
        record {
          names = names;
          read = is ∙ ap (λ (a : ℕ). value (a, names)) who;
          count = l;
          few = omega (arith, l, group_few names (read_group_is_spelling line g.0 names is).1);
        }
    go (refused k) is e = absurd (let z : ◌≡◌ {A = ℕ} 0 1 = cc in omega arith)

-- one that reads as none
pub unread : (line : List ℕ) (k : ℕ) → refused k ≡ count_of (read_group line) → read_group line ≡ refused k
unread line k = go (read_group line) refl
  where
    go : (r : Result (ℕ × List ℕ)) → read_group line ≡ r → refused k ≡ count_of r → read_group line ≡ refused k
    go (value g) is e = absurd (let z : ◌≡◌ {A = ℕ} 0 1 = cc in omega arith)
    go (refused x) is e = let h : x ≡ k = cc in is ∙ ap (λ (n : ℕ). refused n) h

-- a mark or back leaves the names that are lent, and so does what is asked with none
pub state_names : (r : Result Asked) (before : List ℕ) → before ≡ group_after (state_of Unlimited r) before
state_names (value (asked.Work (work.Single actor e))) before = refl
state_names (value (asked.Work (work.Group actor))) before = refl
state_names (value (asked.Mark actor k)) before = refl
state_names (value (asked.Back actor k)) before = refl
state_names (refused x) before = refl
