-- What a create or borrow that has a spelling gives besides a span: a right; of a create kind 0 and a mark, and of a borrow a kind and mark 0; and a
-- mask of holders with its maker, which is a domain. So is who acts by any event that has one.
-- Assumes nothing.
use Rattle.std.specs.Prelude.{Option}
use mathlib.Core.Path.{◌≡◌, refl}
use mathlib.Core.Bool.{Bool, true, false, not, ◌||◌}
use Prim.Native.Nat.{ℕ, ◌<◌}
use lib.Dec.{eqb}
use borrow.Author.Tests.{eqb-true, ltb-true}
use Rattle.model.specs.Bits.{has_bit}
use Rattle.model.specs.Table.{is_right, is_kind, is_mark, is_domain}
use Rattle.model.specs.Refusals.{unfit_root, unfit_child}
use Rattle.model.proofs.Offered.{and_both, clash}
use Rattle.model.specs.declared.Name.{Name}
use Rattle.model.specs.declared.Span.{Span}
use Rattle.model.specs.declared.Terms.{Terms}
use Rattle.model.specs.declared.Event.{Event}
use Rattle.model.specs.declared.Event.TheVariants.{Create, Borrow, Read, Write, Drop}
use Rattle.text.specs.Event.{writes_name, has_spelling}
use Rattle.text.specs.declared.spelling.Spelling.{Spelling}

pub record RootTerms (actor : ℕ) (r : Terms) : Type 0 where
  pub right : is_right r.right ≡ true
  pub kind : r.kind ≡ 0
  pub fresh : is_mark r.fresh ≡ true
  pub domain : is_domain actor ≡ true
  pub holder : has_bit r.holders actor ≡ true

pub record ChildTerms (actor : ℕ) (r : Terms) : Type 0 where
  pub right : is_right r.right ≡ true
  pub kind : is_kind r.kind ≡ true
  pub fresh : r.fresh ≡ 0
  pub domain : is_domain actor ≡ true
  pub holder : has_bit r.holders actor ≡ true

-- where no test of five fails, each holds
each : (a b c d e : Bool) → not (not a || (not b || (not c || (not d || not e)))) ≡ true → (a ≡ true) × (b ≡ true) × (c ≡ true) × (d ≡ true) × (e ≡ true)
each true true true true true h = (refl, refl, refl, refl, refl)
each true true true true false h = clash h refl
each true true true false e h = clash h refl
each true true false d e h = clash h refl
each true false c d e h = clash h refl
each false b c d e h = clash h refl

module _ (k : Spelling) (actor : ℕ) where
  module _ (w : Option Name) (s : Span) (r : Terms) where
    pub root_terms_lem : has_spelling k actor (Create w s r) ≡ true → RootTerms actor r
    unfolding has_spelling
    root_terms_lem h =
        let p = each (is_right r.right) (eqb r.kind 0) (is_mark r.fresh) (is_domain actor) (has_bit r.holders actor) (and_both (writes_name k w) (not (unfit_root actor r)) h).1 in
        record { right = p.0; kind = eqb-true r.kind 0 p.1; fresh = p.2; domain = p.3; holder = p.4 }

    pub child_terms_lem : (n : Name) → has_spelling k actor (Borrow w n s r) ≡ true → ChildTerms actor r
    unfolding has_spelling
    child_terms_lem n h =
        let p = each (is_right r.right) (is_kind r.kind) (eqb r.fresh 0) (is_domain actor) (has_bit r.holders actor) (and_both (writes_name k w) (not (unfit_child actor r)) h).1 in
        record { right = p.0; kind = p.1; fresh = eqb-true r.fresh 0 p.2; domain = p.3; holder = p.4 }

  -- who acts is a domain
  pub spelled_domain : (e : Event) → has_spelling k actor e ≡ true → is_domain actor ≡ true
  unfolding has_spelling
  spelled_domain (Create w s r) h = (root_terms_lem w s r h).domain
  spelled_domain (Borrow w n s r) h = (child_terms_lem w s r n h).domain
  spelled_domain (Read n s) h = h
  spelled_domain (Write n s) h = h
  spelled_domain (Drop n) h = h

  pub spelled_below : (e : Event) → has_spelling k actor e ≡ true → actor < 64
  spelled_below e h = ltb-true actor 64 (spelled_domain e h)
