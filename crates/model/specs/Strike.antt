-- Document 01, "The history", and cards 4, 6 and 7: what a read, write or create does to a capability, by a conflict sheet. The table and
-- the history share this.
-- Assumes nothing.
use Rattle.std.specs.Prelude.{ℕ, zero, suc, Bool, true, false, not, cond, ◌&&◌, List, [], ◌∷◌, eqb}
use Rattle.model.specs.declared.Span.{Span}
use Rattle.model.specs.declared.Access.{Access}
use Rattle.model.specs.declared.Access.TheVariants.{Reading, Writing}
use Rattle.model.specs.declared.Effect.{Effect}
use Rattle.model.specs.declared.Effect.TheVariants.{Keep, Lower, End}
use Rattle.model.specs.declared.Origin.{Origin}
use Rattle.model.specs.declared.Origin.TheVariants.{Cell, Kin, Stranger}
use Rattle.model.specs.declared.Results.{Results}
use Rattle.model.specs.declared.Conflicts.{Conflicts}
use Rattle.model.specs.declared.Sheet.{Sheet}
use Rattle.model.specs.Lists.{any}
use Rattle.model.specs.Values.{touches}
use Rattle.model.specs.Derivation.{Derivation, ancestry, in_subtree, on_ancestry}

-- ---- what an access does

-- "`end` taking life and `lower` taking `rw`"
abbrev pub is_lower : Effect → Bool
is_lower Keep = false
is_lower Lower = true
is_lower End = false

abbrev pub is_end : Effect → Bool
is_end Keep = false
is_end Lower = false
is_end End = true

-- ---- the sheet

-- Card 6: "0 reference, 1 raw, 2 cell"
abbrev pub is_raw : Derivation → Bool
is_raw d = eqb d.kind 1

abbrev pub is_cell : Derivation → Bool
is_cell d = eqb d.kind 2

abbrev pub conflicts_of : Sheet → ℕ → Conflicts
conflicts_of sheet zero = sheet.reference
conflicts_of sheet (suc zero) = sheet.raw
conflicts_of sheet (suc (suc k)) = sheet.cell

abbrev pub results_of : Conflicts → Access → Results
results_of c Reading = c.read
results_of c Writing = c.write

abbrev pub result_from : Results → Origin → Effect
result_from r Cell = r.cell
result_from r Kin = r.kin
result_from r Stranger = r.stranger

-- the result that a sheet gives for a kind of holder, an access, and where the access comes from
abbrev pub result_of : Sheet → ℕ → Access → Origin → Effect
result_of sheet kind a from = result_from (results_of (conflicts_of sheet kind) a) from

-- ---- where an access comes from

-- "it is in the subtree of a cell the holder is not under"
abbrev pub in_other_cell : List Derivation → List Derivation → Bool
in_other_cell user holder = any (λ d. is_cell d && not (in_subtree d.name holder)) user

-- "in the subtree of the holder's parent"; a root has no kin, since 0 names nothing (proofs/Strikes)
abbrev pub is_kin : List Derivation → Derivation → Bool
is_kin user holder = in_subtree holder.parent user

-- Card 7: "For a user outside the holder's subtree, from is `cell` when it is in the subtree of a cell the holder is not under, else `kin`
-- when in the subtree of the holder's parent, else `stranger`."
unfoldable pub origin : List Derivation → Derivation → List Derivation → Origin
origin user holder above = cond (in_other_cell user (holder ∷ above)) Cell (cond (is_kin user holder) Kin Stranger)

-- What the engine looks for, to tell the origin by: the name of the nearest cell on an ancestry, the capability itself among them; 0 where
-- there is none. That it decides for all cells is proved in proofs/Origins.
abbrev pub nearest_cell : List Derivation → ℕ
nearest_cell [] = 0
nearest_cell (d ∷ above) = cond (is_cell d) d.name (nearest_cell above)

-- ---- strikes

module _ (sheet : Sheet) where
  -- "A read or write strikes a name when it touches that name's span and goes through a capability outside that name's subtree"; then the
  -- sheet says what it does. The user and the holder are given by their ancestries, and nothing else of them counts.
  unfoldable pub strike : Access → Span → List Derivation → List Derivation → Effect
  strike a s user [] = Keep
  strike a s user (holder ∷ above) =
      cond (touches s holder.span && not (in_subtree holder.name user)) (result_of sheet holder.kind a (origin user holder above)) Keep

  -- an access gives that effect to a capability or to an ancestor of it: strikes "take subtrees along"
  unfoldable pub reached : (Effect → Bool) → Access → Span → List Derivation → List Derivation → Bool
  reached is a s user = on_ancestry (λ holder. is (strike a s user holder))

  -- the same of an access through the name u, and of the name x
  unfoldable pub struck : (Effect → Bool) → Access → List Derivation → ℕ → Span → ℕ → Bool
  struck is a derivations u s x = reached is a s (ancestry derivations u) (ancestry derivations x)

  -- Card 4: "an allowed create counts as a write from outside every subtree but its own"; card 7: "a create acts as a stranger's write".
  -- What is made with parent 0 writes to its span; what is borrowed takes nothing. The writer is told by what is above it on its
  -- ancestry, and above a root is nothing: it is in no earlier capability's subtree.
  unfoldable pub reclaimed : (Effect → Bool) → Derivation → List Derivation → List Derivation → Bool
  reclaimed is new above x = eqb new.parent 0 && reached is Writing new.span above x
