-- Card 7: "The sheet of card 6 gives card 6's verdicts", and where there is no raw capability and no cell, those of document 01.
-- Assumes nothing.
use mathlib.Core.Path.{◌≡◌, refl, ap₂, ◌∙◌}
use mathlib.Core.Bool.{Bool, true, false, not, cond, ◌&&◌, ◌||◌}
use mathlib.Core.List.{List, [], ◌∷◌}
use Prim.Native.Nat.{ℕ, zero, suc}
use native.Mathlib.Omega.{arith}
use lib.Dec.{eqb}
use borrow.Author.Tests.{ne_eqb}
use Rattle.model.specs.declared.Span.{Span}
use Rattle.model.specs.declared.Cap.{Cap}
use Rattle.model.specs.declared.Access.{Access}
use Rattle.model.specs.declared.Access.TheVariants.{Reading, Writing}
use Rattle.model.specs.declared.Effect.{Effect}
use Rattle.model.specs.declared.Effect.TheVariants.{Keep, Lower, End}
use Rattle.model.specs.declared.Origin.{Origin}
use Rattle.model.specs.declared.Origin.TheVariants.{Cell, Kin, Stranger}
use Rattle.model.specs.Values.{touches}
use Rattle.model.specs.Derivation.{Derivation, ancestry, in_subtree, on_ancestry}
use Rattle.model.specs.Strike.{is_lower, is_end, is_cell, result_from, result_of, in_other_cell, is_kin, origin, strike, reached, struck}
use Rattle.model.specs.Sheet6.{strike_before, strike6, results, sheet6}
use Rattle.model.specs.Table.{derivations}
use Rattle.model.specs.Effects.{revoke, after_access}
use Rattle.model.proofs.Lists.{All, All_map, All_of, any_false}
use Rattle.model.proofs.Ancestries.{ancestry_all}
use Rattle.model.proofs.Notes.{taken_cong}

-- ---- the cases of the sheet

alike : (e : Effect) (o : Origin) → result_from (results e e e) o ≡ e
alike e Cell = refl
alike e Kin = refl
alike e Stranger = refl

either : {A : Type 0} (b : Bool) (x : A) → cond b x x ≡ x
either true x = refl
either false x = refl

above_one : (k : ℕ) → eqb (suc (suc k)) 1 ≡ false
above_one k = ne_eqb (suc (suc k)) 1 (λ (e : suc (suc k) ≡ 1). omega arith)

-- a read: none strikes a raw capability
read_words : (strikes : Bool) (kind : ℕ) (o : Origin) → cond strikes (result_of sheet6 kind Reading o) Keep ≡ cond (eqb kind 1 || false) Keep (cond strikes Lower Keep)
read_words strikes zero o = rw (alike Lower o)
read_words strikes (suc zero) o = rw (alike Keep o) (either strikes Keep)
read_words strikes (suc (suc k)) o = rw (alike Lower o, above_one k)

-- a write: none strikes from another cell, nor from kin a raw capability
abbrev from : Bool → Bool → Origin
from cell kin = cond cell Cell (cond kin Kin Stranger)

write_words : (strikes : Bool) (kind : ℕ) (cell kin : Bool) → cond strikes (result_of sheet6 kind Writing (from cell kin)) Keep ≡ cond ((eqb kind 1 && kin) || cell) Keep (cond strikes End Keep)
write_words strikes zero true kin = either strikes Keep
write_words strikes zero false true = refl
write_words strikes zero false false = refl
write_words strikes (suc zero) true true = either strikes Keep
write_words strikes (suc zero) true false = either strikes Keep
write_words strikes (suc zero) false true = either strikes Keep
write_words strikes (suc zero) false false = refl
write_words strikes (suc (suc k)) true kin = rw (above_one k) (either strikes Keep)
write_words strikes (suc (suc k)) false true = rw (above_one k)
write_words strikes (suc (suc k)) false false = rw (above_one k)

-- ---- card 6's words

-- By its sheet each strike is what card 6 says, whatever the two ancestries.
pub words : (a : Access) (s : Span) (user x : List Derivation) → strike sheet6 a s user x ≡ strike6 a s user x
unfolding strike strike6 strike_before origin
words a s user [] = refl
words Reading s user (d ∷ above) = read_words (touches s d.span && not (in_subtree d.name user)) d.kind (origin user d above)
words Writing s user (d ∷ above) = write_words (touches s d.span && not (in_subtree d.name user)) d.kind (in_other_cell user (d ∷ above)) (is_kin user d)

-- So a read and a write do to the rows what card 6 says, and "still take subtrees along".
pub words_access : (a : Access) (u : ℕ) (s : Span) (rows : List Cap)
    → after_access sheet6 a u s rows
    ≡ revoke (λ x. on_ancestry (λ holder. is_end (strike6 a s (ancestry (derivations rows) u) holder)) (ancestry (derivations rows) x))
    (λ x. on_ancestry (λ holder. is_lower (strike6 a s (ancestry (derivations rows) u) holder)) (ancestry (derivations rows) x)) rows
unfolding after_access struck reached
words_access a u s rows = λ k.
    revoke (λ x. on_ancestry (λ holder. is_end (words a s (ancestry (derivations rows) u) holder k)) (ancestry (derivations rows) x))
    (λ x. on_ancestry (λ holder. is_lower (words a s (ancestry (derivations rows) u) holder k)) (ancestry (derivations rows) x)) rows

-- ---- references alone

abbrev References : List Derivation → Type 0
References = All (λ d. d.kind ≡ 0)

-- Where the user, the holder and their ancestors are references, the strikes are document 01's.
pub references_alone : (a : Access) (s : Span) (user x : List Derivation) → References user → References x → strike sheet6 a s user x ≡ strike_before a s user x
unfolding strike_before strike6
references_alone a s user [] u h = words a s user []
references_alone a s user (d ∷ above) u h = words a s user (d ∷ above) ∙ go a
  where
    no_cell : in_other_cell user (d ∷ above) ≡ false
    no_cell = any_false (λ c. is_cell c && not (in_subtree c.name (d ∷ above))) user (All_map _ _ (λ c (z : c.kind ≡ 0). rw z) user u)

    go : (a : Access) → strike6 a s user (d ∷ above) ≡ strike_before a s user (d ∷ above)
    go Reading = rw h.0
    go Writing = rw (h.0, no_cell)

-- So in a table of references a read and a write do what they did before card 6.
pub references_access : (a : Access) (u : ℕ) (s : Span) (rows : List Cap) → References (derivations rows)
    → after_access sheet6 a u s rows
    ≡ revoke (λ x. on_ancestry (λ holder. is_end (strike_before a s (ancestry (derivations rows) u) holder)) (ancestry (derivations rows) x))
    (λ x. on_ancestry (λ holder. is_lower (strike_before a s (ancestry (derivations rows) u) holder)) (ancestry (derivations rows) x)) rows
unfolding after_access struck reached revoke on_ancestry
references_access a u s rows r =
    taken_cong _ _ _ _ rows (All_of _ (λ c. let on : References (ancestry (derivations rows) c.name.0) = ancestry_all _ c.name.0 (derivations rows) r in (same is_end (ancestry (derivations rows) c.name.0) on, same is_lower (ancestry (derivations rows) c.name.0) on)) rows)
  where
    user : List Derivation
    user = ancestry (derivations rows) u

    same : (is : Effect → Bool) (x : List Derivation) → References x → on_ancestry (λ holder. is (strike sheet6 a s user holder)) x ≡ on_ancestry (λ holder. is (strike_before a s user holder)) x
    same is [] h = refl
    same is (d ∷ above) h = ap₂ (λ b c. is b || c) (references_alone a s user (d ∷ above) (ancestry_all _ u (derivations rows) r) h) (same is above h.1)
