-- The one law of the strike, by every sheet: a user in the holder's subtree gives keep. So an access takes nothing from its own user, nor
-- from an ancestor of it.
-- Assumes nothing.
use mathlib.Core.Path.{◌≡◌, refl}
use mathlib.Core.Bool.{Bool, true, false, and-false, or-true}
use mathlib.Core.List.{List, [], ◌∷◌}
use Prim.Native.Nat.{ℕ, ◌<◌}
use native.Mathlib.Omega.{arith}
use lib.Dec.{eqb}
use borrow.Author.Tests.{ne_eqb}
use Rattle.model.specs.declared.Effect.{Effect}
use Rattle.model.specs.declared.Effect.TheVariants.{Keep}
use Rattle.model.specs.declared.Sheet.{Sheet}
use Rattle.model.specs.declared.Span.{Span}
use Rattle.model.specs.declared.Access.{Access}
use Rattle.model.specs.Derivation.{Derivation, ancestry, in_subtree, on_ancestry}
use Rattle.model.specs.Strike.{is_kin, strike, reached}
use Rattle.model.specs.Values.{touches}
use Rattle.model.proofs.Lists.{All_map, any_false}
use Rattle.model.proofs.Ancestries.{Falling, same, ancestry_falls}

-- every derivation on the ancestry `above` is on the user's ancestry
abbrev Within : List Derivation → List Derivation → Type 0
Within [] user = Unit {0}
Within (b ∷ above) user = (in_subtree b.name user ≡ true) × Within above user

within : (b : Derivation) (ancestry user : List Derivation) → Within ancestry user → Within ancestry (b ∷ user)
within b [] user h = tt
within b (c ∷ ancestry) user h = (rw h.0 (or-true (eqb c.name b.name)), within b ancestry user h.1)

itself : (user : List Derivation) → Within user user
itself [] = tt
itself (b ∷ above) = (rw (same b.name), within b above above (itself above))

module _ (sheet : Sheet) where
  pub spared : (a : Access) (s : Span) (user : List Derivation) (b : Derivation) (above : List Derivation) → in_subtree b.name user ≡ true → strike sheet a s user (b ∷ above) ≡ Keep
  unfolding strike
  spared a s user b above h = rw (h, and-false (touches s b.span))

  -- a test that Keep fails takes nothing along an ancestry within the user's
  none : (is : Effect → Bool) → is Keep ≡ false → (a : Access) (s : Span) (user ancestry : List Derivation) → Within ancestry user → reached sheet is a s user ancestry ≡ false
  unfolding reached on_ancestry
  none is k a s user [] h = refl
  none is k a s user (b ∷ above) h = rw (spared a s user b above h.0, k) (none is k a s user above h.1)

  -- an access takes nothing from its own user
  pub user_spared : (is : Effect → Bool) → is Keep ≡ false → (a : Access) (s : Span) (user : List Derivation) → reached sheet is a s user user ≡ false
  user_spared is k a s user = none is k a s user user (itself user)

-- A root has no kin: 0 names nothing.
pub root_has_no_kin : (n u : ℕ) (B : List Derivation) → Falling n B → (root : Derivation) → root.parent ≡ 0 → is_kin (ancestry B u) root ≡ false
root_has_no_kin n u B f root z =
    any_false (λ d. eqb root.parent d.name) (ancestry B u)
    (All_map _ _ (λ d (l : d.parent < d.name). ne_eqb root.parent d.name (λ (e : root.parent ≡ d.name). omega arith)) (ancestry B u) (ancestry_falls n u B f))
