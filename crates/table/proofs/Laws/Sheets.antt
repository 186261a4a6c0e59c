-- Laws of a sheet's bytes: each combination has its own place.
-- Assumes nothing.
use mathlib.Core.Path.{◌≡◌, refl, sym, ap, subst, ◌∙◌}
use mathlib.Core.Logic.{◌⊎◌, inl, inr}
use mathlib.Core.Bool.{true, false}
use mathlib.Core.List.{List, [], ◌∷◌, ◌++◌}
use Prim.Native.Nat.{ℕ, zero, suc, ◌+◌, ◌<◌, ◌≤◌, min}
use native.Mathlib.Omega.{arith}
use denote.Param.Members.{Mut, Called}
use lib.Dec.{eqb}
use lib.ListN.{length, get_or, set, replicate, length-set, get_or-replicate}
use borrow.Author.Tests.{eqb-true, eqb-false}
use Rattle.model.specs.declared.Access.{Access}
use Rattle.model.specs.declared.Access.TheVariants.{Reading, Writing}
use Rattle.model.specs.declared.Effect.{Effect}
use Rattle.model.specs.declared.Effect.TheVariants.{Keep, Lower, End}
use Rattle.model.specs.declared.Results.{Results}
use Rattle.model.specs.declared.Conflicts.{Conflicts}
use Rattle.model.specs.declared.Sheet.{Sheet}
use Rattle.model.specs.declared.Origin.{Origin}
use Rattle.model.specs.declared.Origin.TheVariants.{Cell, Kin, Stranger}
use Rattle.model.specs.Strike.{result_of}
use Rattle.model.specs.Sheet6.{sheet6}
use Rattle.table.specs.Sheets.{effect_in, result_in, sheet_in, sheet_lent, place_of, weight, with_results, with_conflicts, bytes_of, bytes6}
use Rattle.std.specs.Array.{IsFromFnResultFrom}
use Rattle.model.proofs.Offered.{test}

-- a list that is filled up with one value has that one where the list has none
filled : (xs : List ℕ) (n i d : ℕ) → i < n → get_or (xs ++ replicate n d) i 0 ≡ get_or xs i d
filled [] n i d h = get_or-replicate n i d 0 h
filled (x ∷ xs) n zero d h = refl
filled (x ∷ xs) n (suc i) d h = filled xs n i d (omega arith)

-- ---- each combination has its place

pub result_in_lem : (bytes : List ℕ) (kind : ℕ) (a : Access) (from : Origin) → result_of (sheet_in bytes) kind a from ≡ result_in bytes (place_of kind a from)
unfolding sheet_in
result_in_lem bytes zero Reading Cell = refl
result_in_lem bytes zero Reading Kin = refl
result_in_lem bytes zero Reading Stranger = refl
result_in_lem bytes zero Writing Cell = refl
result_in_lem bytes zero Writing Kin = refl
result_in_lem bytes zero Writing Stranger = refl
result_in_lem bytes (suc zero) Reading Cell = refl
result_in_lem bytes (suc zero) Reading Kin = refl
result_in_lem bytes (suc zero) Reading Stranger = refl
result_in_lem bytes (suc zero) Writing Cell = refl
result_in_lem bytes (suc zero) Writing Kin = refl
result_in_lem bytes (suc zero) Writing Stranger = refl
result_in_lem bytes (suc (suc kind)) Reading Cell = refl
result_in_lem bytes (suc (suc kind)) Reading Kin = refl
result_in_lem bytes (suc (suc kind)) Reading Stranger = refl
result_in_lem bytes (suc (suc kind)) Writing Cell = refl
result_in_lem bytes (suc (suc kind)) Writing Kin = refl
result_in_lem bytes (suc (suc kind)) Writing Stranger = refl

-- a byte below 2 is the number of its result, any other is 2, that of `end`
pub weight_least : (b : ℕ) → min b 2 ≡ weight (effect_in b)
weight_least zero = refl
weight_least (suc zero) = refl
weight_least (suc (suc b)) = omega arith

pub weight_at : (bytes : List ℕ) (kind : ℕ) (a : Access) (from : Origin) (place : ℕ) → place ≡ place_of kind a from → weight (effect_in (get_or bytes place 0)) ≡ weight (result_of (sheet_in bytes) kind a from)
weight_at bytes kind a from place e = ap (λ (i : ℕ). weight (result_in bytes i)) e ∙ ap (λ (r : Effect). weight r) (sym (result_in_lem bytes kind a from))

-- Of a list of bytes no more counts than the first 18.
pub same_sheet : (xs ys : List ℕ) → ((i : ℕ) → i < 18 → get_or xs i 0 ≡ get_or ys i 0) → sheet_in xs ≡ sheet_in ys
unfolding sheet_in
same_sheet xs ys h =
    rw (
      h 0 (omega arith),
      h 1 (omega arith),
      h 2 (omega arith),
      h 3 (omega arith),
      h 4 (omega arith),
      h 5 (omega arith),
      h 6 (omega arith),
      h 7 (omega arith),
      h 8 (omega arith),
      h 9 (omega arith),
      h 10 (omega arith),
      h 11 (omega arith),
      h 12 (omega arith),
      h 13 (omega arith),
      h 14 (omega arith),
      h 15 (omega arith),
      h 16 (omega arith),
      h 17 (omega arith),
    )

-- results that are put in their places change no length
pub results_long : (bytes : List ℕ) (first : ℕ) (r : Results) → length (with_results bytes first r) ≡ length bytes
results_long bytes first r =
    length-set (set (set bytes first (weight r.cell)) (first + 1) (weight r.kin)) (first + 2) (weight r.stranger)
    ∙ length-set (set bytes first (weight r.cell)) (first + 1) (weight r.kin) ∙ length-set bytes first (weight r.cell)

pub conflicts_long : (bytes : List ℕ) (first : ℕ) (c : Conflicts) → length (with_conflicts bytes first c) ≡ length bytes
conflicts_long bytes first c = results_long (with_results bytes first c.read) (first + 3) c.write ∙ results_long bytes first c.read

-- a sheet is that of its bytes
effect_back : (e : Effect) → effect_in (weight e) ≡ e
effect_back Keep = refl
effect_back Lower = refl
effect_back End = refl

pub bytes_back : (sheet : Sheet) → sheet_in (bytes_of sheet) ≡ sheet
unfolding sheet_in bytes_of
bytes_back sheet =
    rw (
      effect_back sheet.reference.read.cell,
      effect_back sheet.reference.read.kin,
      effect_back sheet.reference.read.stranger,
      effect_back sheet.reference.write.cell,
      effect_back sheet.reference.write.kin,
      effect_back sheet.reference.write.stranger,
      effect_back sheet.raw.read.cell,
      effect_back sheet.raw.read.kin,
      effect_back sheet.raw.read.stranger,
      effect_back sheet.raw.write.cell,
      effect_back sheet.raw.write.kin,
      effect_back sheet.raw.write.stranger,
      effect_back sheet.cell.read.cell,
      effect_back sheet.cell.read.kin,
      effect_back sheet.cell.read.stranger,
      effect_back sheet.cell.write.cell,
      effect_back sheet.cell.write.kin,
      effect_back sheet.cell.write.stranger,
    )

-- card 6's sheet is that of its bytes, and that of none
pub bytes6_is : sheet_in bytes6 ≡ sheet6
unfolding sheet_in
bytes6_is = refl

pub none_lent : sheet_lent [] ≡ sheet6
unfolding sheet_lent
none_lent = refl

-- ---- the bytes that are lent, one after the other

-- an array that is made place by place, by a function that is only called
pub made_at : {F : Type 0} (g : Mut F (ℕ × Unit {0}) ℕ) (v : ℕ → ℕ) (f : F) → ((i y : ℕ) (q : F) → Called g f (i, tt) y q → (y ≡ v i) × (q ≡ f)) → (bytes : List ℕ) (i n : ℕ) → IsFromFnResultFrom g f bytes i n → (j : ℕ) → i ≤ j → j < i + n → get_or bytes j 0 ≡ v j
made_at g v f h bytes i zero m j a b = absurd (omega arith)
made_at g v f h bytes i (suc n) m j a b = go (test (eqb j i)) (λ o. made_at g v f h bytes (i + 1) n (subst (λ p. IsFromFnResultFrom g p bytes (i + 1) n) first.1 m.4) j (omega arith) (omega arith))
  where
    first : (m.1 ≡ v i) × (m.0 ≡ f)
    first = h i m.1 m.0 m.3

    go : (eqb j i ≡ true) ⊎ (eqb j i ≡ false) → ((j ≡ i → ⊥) → get_or bytes j 0 ≡ v j) → get_or bytes j 0 ≡ v j
    go (inl t) rest = rw (eqb-true j i t) (m.2.1 0 ∙ first.0)
    go (inr t) rest = rest (eqb-false j i t)

-- a sheet of which each byte is the one that is lent, or 2 for one that is missing
pub taken_all : (lent bytes : List ℕ) → (length lent ≡ 0 → ⊥) → ((i : ℕ) → i < 18 → get_or bytes i 0 ≡ get_or lent i 2) → sheet_in bytes ≡ sheet_lent lent
unfolding sheet_lent
taken_all [] bytes h t = absurd (h refl)
taken_all (b ∷ lent) bytes h t = same_sheet bytes ((b ∷ lent) ++ replicate 18 2) (λ i l. t i l ∙ sym (filled (b ∷ lent) 18 i 2 l))

pub taken_none : (lent : List ℕ) → length lent ≡ 0 → sheet_in bytes6 ≡ sheet_lent lent
taken_none [] h = bytes6_is ∙ sym none_lent
taken_none (b ∷ lent) h = absurd (omega arith)
