-- A part of the forest: the live rows whose names pass a test that passes at each one's parent too, as those that a domain made, or those of
-- one tree. What touches no row of a part takes nothing from it, and what goes through its names does in it what it would do if it stood alone.
-- Assumes nothing.
use mathlib.Core.Path.{◌≡◌, refl, sym, ap, ap₂, ◌∙◌}
use mathlib.Core.Logic.{◌⊎◌, inl, inr}
use mathlib.Core.Bool.{Bool, true, false, not, ◌||◌, or-true, and_comm}
use mathlib.Core.List.{List, [], ◌∷◌, map}
use Prim.Native.Nat.{ℕ}
use lib.Dec.{eqb}
use borrow.Author.Tests.{eqb-true}
use Rattle.model.specs.declared.Span.{Span}
use Rattle.model.specs.declared.Cap.{Cap}
use Rattle.model.specs.declared.Sheet.{Sheet}
use Rattle.model.specs.declared.Effect.{Effect}
use Rattle.model.specs.declared.Effect.TheVariants.{Keep}
use Rattle.model.specs.declared.Access.{Access}
use Rattle.model.specs.Lists.{filter, any}
use Rattle.model.specs.Values.{touches}
use Rattle.model.specs.Derivation.{Derivation, ancestry, in_subtree, on_ancestry}
use Rattle.model.specs.Strike.{is_lower, is_end, strike, reached, struck}
use Rattle.model.specs.Table.{span, derivation, derivations, named}
use Rattle.model.specs.Effects.{lowered, revoke, after_access, in_subtrees, rows_without}
use Rattle.model.proofs.Lists.{All, All_map, All_of, All_mapped, test, clash, any_false, filter_cong, filter_filter, filter_map, filter_all, filter_nothing, map_id, passes}
use Rattle.model.proofs.Ancestries.{Falling, Closed, ancestry_kept, ancestry_among}
use Rattle.model.proofs.Notes.{taken_cong}

-- The law of a strike, by every sheet, that it touches: what touches none of an ancestry takes nothing from it.
pub untouched : (sheet : Sheet) (is : Effect → Bool) → is Keep ≡ false → (a : Access) (s : Span) (user x : List Derivation) → All (λ b. touches s b.span ≡ false) x → reached sheet is a s user x ≡ false
unfolding reached on_ancestry strike
untouched sheet is k a s user [] h = refl
untouched sheet is k a s user (b ∷ above) h = rw (h.0, k) (untouched sheet is k a s user above h.1)

-- what takes the same from the rows leaves the same
revoke_same : (ends lowers ends' lowers' : ℕ → Bool) (rows : List Cap) → All (λ c. (ends c.name.0 ≡ ends' c.name.0) × (lowers c.name.0 ≡ lowers' c.name.0)) rows → revoke ends lowers rows ≡ revoke ends' lowers' rows
unfolding revoke
revoke_same = taken_cong

-- what takes nothing leaves the rows as they are
pub revoke_none : (ends lowers : ℕ → Bool) (rows : List Cap) → All (λ c. (ends c.name.0 ≡ false) × (lowers c.name.0 ≡ false)) rows → revoke ends lowers rows ≡ rows
unfolding revoke
revoke_none ends lowers rows h = taken_cong ends lowers (λ x. false) (λ x. false) rows h ∙ map_id _ ∙ filter_all (λ c. true) rows (All_of _ (λ c. refl) rows)

-- what ends each of them leaves none
pub revoke_all : (ends lowers : ℕ → Bool) (rows : List Cap) → All (λ c. ends c.name.0 ≡ true) rows → revoke ends lowers rows ≡ []
unfolding revoke
revoke_all ends lowers rows h = ap (map (λ c. lowered (lowers c.name.0) c)) (filter_nothing (λ c. not (ends c.name.0)) rows (All_map _ _ (λ c e. ap not e) rows h))

-- a name that is found among those left was found before, and is not ended
pub revoke_found : (ends lowers : ℕ → Bool) (x : ℕ) (rows : List Cap) → any (named x) (revoke ends lowers rows) ≡ true → (any (named x) rows ≡ true) × (ends x ≡ false)
unfolding revoke
revoke_found ends lowers x [] e = clash e refl
revoke_found ends lowers x (c ∷ rows) e = go (test (ends c.name.0)) (test (named x c)) (revoke_found ends lowers x rows)
  where
    go : (ends c.name.0 ≡ true) ⊎ (ends c.name.0 ≡ false) → (named x c ≡ true) ⊎ (named x c ≡ false) → (any (named x) (revoke ends lowers rows) ≡ true → (any (named x) rows ≡ true) × (ends x ≡ false))
        → (named x c || any (named x) rows ≡ true) × (ends x ≡ false)
    go (inl t) _ ih = let p = ih (rw t at e) in (rw p.0 (or-true (named x c)), p.1)
    go (inr t) (inl k) ih = (rw k, ap ends (eqb-true x c.name.0 k) ∙ t)
    go (inr t) (inr k) ih = let p = ih (rw (t, k) at e) in (rw p.0 (or-true (named x c)), p.1)

abbrev pub part : (ℕ → Bool) → List Cap → List Cap
part k rows = filter (λ c. k c.name.0) rows

-- rows are taken away from all as from a part
pub revoke_part : (k ends lowers : ℕ → Bool) (rows : List Cap) → part k (revoke ends lowers rows) ≡ revoke ends lowers (part k rows)
unfolding revoke
revoke_part k ends lowers rows =
    filter_map (λ c. lowered (lowers c.name.0) c) (λ c. k c.name.0) (filter left rows)
    ∙ ap (map (λ c. lowered (lowers c.name.0) c))
    (filter_filter left (λ c. k c.name.0) rows
    ∙ filter_cong _ _ rows (All_of _ (λ c. and_comm (left c) (k c.name.0)) rows)
    ∙ sym (filter_filter (λ c. k c.name.0) left rows))
  where
    left : Cap → Bool
    left c = not (ends c.name.0)

module _ (k : ℕ → Bool) (bound : ℕ) (rows : List Cap) (falls : Falling bound (derivations rows)) (closed : Closed k (derivations rows)) where
  -- what holds of the rows of a part holds along the ancestry of each of its names
  pub along : (P : Derivation → Type 0) → All (λ c. k c.name.0 ≡ true → P (derivation c)) rows → (x : ℕ) → eqb x 0 || k x ≡ true → All P (ancestry (derivations rows) x)
  along P a = ancestry_among k P bound (derivations rows) falls closed (All_mapped derivation (λ b. k b.name ≡ true → P b) rows a)

  -- the ancestries of its names are among its own
  pub ancestry_part : (x : ℕ) → eqb x 0 || k x ≡ true → ancestry (derivations (part k rows)) x ≡ ancestry (derivations rows) x
  ancestry_part x h = rw (← filter_map derivation (λ b. k b.name) rows) (ancestry_kept k bound (derivations rows) falls closed x h)

  -- ---- what is done elsewhere

  pub access_spared : (sheet : Sheet) (a : Access) (u : ℕ) (s : Span) → All (λ c. k c.name.0 ≡ true → touches s (span c) ≡ false) rows → part k (after_access sheet a u s rows) ≡ part k rows
  unfolding after_access struck
  access_spared sheet a u s t =
      revoke_part k _ _ rows
      ∙ revoke_none _ _ (part k rows) (All_map _ _ (λ c e. (free is_end refl c.name.0 e, free is_lower refl c.name.0 e)) (part k rows) (passes (λ c. k c.name.0) rows))
    where
      free : (is : Effect → Bool) → is Keep ≡ false → (x : ℕ) → k x ≡ true → reached sheet is a s (ancestry (derivations rows) u) (ancestry (derivations rows) x) ≡ false
      free is z x e = untouched sheet is z a s (ancestry (derivations rows) u) (ancestry (derivations rows) x) (along (λ b. touches s b.span ≡ false) t x (rw e (or-true (eqb x 0))))

  pub without_spared : (names : List ℕ) → All (λ u. All (λ c. k c.name.0 ≡ true → eqb u c.name.0 ≡ false) rows) names → part k (rows_without names rows) ≡ part k rows
  unfolding rows_without
  without_spared names t =
      revoke_part k _ _ rows
      ∙ revoke_none _ _ (part k rows) (All_map _ _ (λ c e. (free c.name.0 e, refl)) (part k rows) (passes (λ c. k c.name.0) rows))
    where
      free : (x : ℕ) → k x ≡ true → in_subtrees names (ancestry (derivations rows) x) ≡ false
      free x e =
          any_false (λ u. in_subtree u (ancestry (derivations rows) x)) names
          (All_map _ _ (λ u q. any_false (λ b. eqb u b.name) (ancestry (derivations rows) x) (along (λ b. eqb u b.name ≡ false) q x (rw e (or-true (eqb x 0))))) names t)

  -- ---- what is done in it

  pub access_part : (sheet : Sheet) (a : Access) (u : ℕ) (s : Span) → eqb u 0 || k u ≡ true → part k (after_access sheet a u s rows) ≡ after_access sheet a u s (part k rows)
  unfolding after_access struck
  access_part sheet a u s e =
      revoke_part k _ _ rows
      ∙ revoke_same _ _ _ _ (part k rows) (All_map _ _ (λ c t. (alike is_end c.name.0 t, alike is_lower c.name.0 t)) (part k rows) (passes (λ c. k c.name.0) rows))
    where
      alike : (is : Effect → Bool) (x : ℕ) → k x ≡ true
          → reached sheet is a s (ancestry (derivations rows) u) (ancestry (derivations rows) x) ≡ reached sheet is a s (ancestry (derivations (part k rows)) u) (ancestry (derivations (part k rows)) x)
      alike is x t = ap₂ (reached sheet is a s) (sym (ancestry_part u e)) (sym (ancestry_part x (rw t (or-true (eqb x 0)))))

  pub without_part : (names : List ℕ) → part k (rows_without names rows) ≡ rows_without names (part k rows)
  unfolding rows_without
  without_part names =
      revoke_part k _ _ rows
      ∙ revoke_same _ _ _ _ (part k rows) (All_map _ _ (λ c t. (alike c.name.0 t, refl)) (part k rows) (passes (λ c. k c.name.0) rows))
    where
      alike : (x : ℕ) → k x ≡ true → in_subtrees names (ancestry (derivations rows) x) ≡ in_subtrees names (ancestry (derivations (part k rows)) x)
      alike x t = ap (in_subtrees names) (sym (ancestry_part x (rw t (or-true (eqb x 0)))))
