-- `text::group::read_group` meets its contract: the guess is accepted where the line is its spelling.
-- Assumes nothing.
use mathlib.Core.Path.{◌≡◌, refl, sym, ap, ap₂, ◌∙◌}
use mathlib.Core.List.{List, ◌++◌}
use Prim.Native.Nat.{ℕ}
use native.Mathlib.Omega.{arith}
use lib.ListN.{length}
use lib.Seq.{length-take-le}
use borrow.Rule.Slice.PartMut.{post_of}
use borrow.Author.Tests.{not-true, not-false}
use Rattle.text.specs.Result.{value}
use Rattle.text.specs.Read.{actor_of, form_of}
use Rattle.text.specs.Group.{guess_names, is_group_spelling}
use Rattle.text.proofs.Laws.Put.{sets_part}
use Rattle.text.proofs.Laws.Group.{guess_few, guess_short, read_found, read_none}
use Rattle.text.proofs.group.read_group.Goals as goal

pub is_spelling-requires : goal.is_spelling-requires
is_spelling-requires c = rw c.guess_names-count.ensures.first (guess_short _ _)

pub returns-then-not-is_spelling : goal.returns-then-not-is_spelling
returns-then-not-is_spelling c =
    let tested : c.is_spelling.result ≡ is_group_spelling c.args.line.now (actor_of c.args.line.now) (guess_names (form_of c.args.line.now)) = let s = c.args.line.now in c.is_spelling.ensures ∙ ap₂ (λ (x : ℕ) (l : List ℕ). is_group_spelling s x l) c.actor_of-actor.ensures (c.guess_names-count.ensures.first ∙ ap guess_names c.form_of.ensures) in
    let s = c.args.line.now in
    rw (read_none s (sym tested ∙ not-true c.is_spelling.result c.if-not-is_spelling.true-raw)) (refl, refl)

pub returns : goal.returns
returns c =
    let tested : c.is_spelling.result ≡ is_group_spelling c.args.line.now (actor_of c.args.line.now) (guess_names (form_of c.args.line.now)) = let s = c.args.line.now in c.is_spelling.ensures ∙ ap₂ (λ (x : ℕ) (l : List ℕ). is_group_spelling s x l) c.actor_of-actor.ensures (c.guess_names-count.ensures.first ∙ ap guess_names c.form_of.ensures) in
    let a = c.args in
    let s = a.line.now in
    let is = c.guess_names-count.ensures.first ∙ ap guess_names c.form_of.ensures in
    let yes = sym tested ∙ not-false c.is_spelling.result c.if-not-is_spelling.false-raw in
    let count : c.guess_names-count.result ≡ length (guess_names (form_of s)) = sym (length-take-le _ _ (omega (arith, c.guess_names-count.ensures.few, c.guess_names-count.ensures.full))) ∙ ap length is in
    rw (read_found s yes) (
      ap₂ (λ (x n : ℕ). value (x, n)) c.actor_of-actor.ensures count,
      ap (λ (l : List ℕ). l ++ post_of 0 c.guess_names-count.result a.names.now) (c.copy_over.ensures ∙ is)
          ∙ sets_part a.names.now (guess_names (form_of s)) 0 c.guess_names-count.result count (omega (arith, guess_few (form_of s))),
    )
