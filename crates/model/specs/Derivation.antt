-- What is fixed of a capability when it is made, and its ancestors.
-- Assumes nothing.
use Rattle.std.specs.Prelude.{ℕ, Bool, true, false, ◌||◌, List, [], ◌∷◌, eqb}
use Rattle.model.specs.declared.Span.{Span}
use Rattle.model.specs.Lists.{any}

-- The derivation of a capability, as in a capability derivation tree: what is fixed of it when it is made.
-- Rows of the table have derivations, and so have the notes of the history. Rights and life are not among them.
pub record Derivation : Type 0 where
  pub name : ℕ
  pub parent : ℕ
  pub span : Span
  pub kind : ℕ
  pub fresh : ℕ
  pub maker : ℕ
  pub holders : ℕ

-- Document 01, "What each event does": "Subtree and ancestors are taken over parents; each capability is in its own subtree."
-- Derivations stand newest first, so a parent's stands after its child's.
-- The ancestry of a name: its derivation, its parent's, and so on up to a root. A name that has no derivation, as 0, has no ancestry.
unfoldable pub ancestry : List Derivation → ℕ → List Derivation
ancestry [] x = []
ancestry (d ∷ earlier) x = elim (eqb x d.name) [ true ↦ d ∷ ancestry earlier d.parent | false ↦ ancestry earlier x ]

-- the capability of this ancestry is in the subtree of a: a is on its ancestry
abbrev pub in_subtree : ℕ → List Derivation → Bool
in_subtree a = any (λ d. eqb a d.name)

-- the test holds of a capability or of an ancestor of it, each given by its ancestry
unfoldable pub on_ancestry : (List Derivation → Bool) → List Derivation → Bool
on_ancestry p [] = false
on_ancestry p (d ∷ above) = p (d ∷ above) || on_ancestry p above
