-- Texts that are the same but for rights; and the listings of rows of which some are lowered to `ro` are.
-- Assumes nothing.
use mathlib.Core.Path.{◌≡◌, refl, ap}
use mathlib.Core.Bool.{Bool, true, false, cond}
use mathlib.Core.Logic.{◌⊎◌, inl, inr, ⊎_elim}
use mathlib.Core.List.{List, [], ◌∷◌, ◌++◌, map, reverse}
use Prim.Native.Nat.{ℕ, zero, suc}
use native.Mathlib.Omega.{arith}
use lib.Dec.{eqb}
use lib.ListN.{length, get_or}
use Rattle.model.specs.declared.Cap.{Cap}
use Rattle.model.specs.Table.{live_rows}
use Rattle.model.specs.Effects.{lowered}
use Rattle.model.proofs.Offered.{lower, live_lower, map_reverse}
use Rattle.text.specs.Decimal.{decimal}
use Rattle.text.specs.Event.{bytes, spaced, right_word, kind_word, fresh_word}
use Rattle.listing.specs.Listing.{holding, pieces, form, children, roots, issued_line, listed, listing}
use Rattle.listing.specs.SameButRights.{SameButRights, done, byte, right}

-- ---- texts

pub same : (s : List ℕ) → SameButRights s s
same [] = done
same (b ∷ s) = byte b (same s)

pub join : {s t s' t' : List ℕ} → SameButRights s t → SameButRights s' t' → SameButRights (s ++ s') (t ++ t')
join done q = q
join (byte b p) q = byte b (join p q)
join (right p) q = right (join p q)

-- no byte is more or less
pub same_length : {s t : List ℕ} → SameButRights s t → length s ≡ length t
same_length done = refl
same_length (byte b p) = ap suc (same_length p)
same_length (right p) = ap (λ (n : ℕ). suc (suc (suc n))) (same_length p)

-- a byte that is another is the `o` of `ro`, where the second has the `w` of `rw`
pub each_byte : {s t : List ℕ} → SameButRights s t → (i : ℕ) → (get_or s i 0 ≡ get_or t i 0) ⊎ ((get_or s i 0 ≡ 111) × (get_or t i 0 ≡ 119))
each_byte done i = inl refl
each_byte (byte b p) zero = inl refl
each_byte (byte b p) (suc i) = each_byte p i
each_byte (right p) zero = inl refl
each_byte (right p) (suc zero) = inl refl
each_byte (right p) (suc (suc zero)) = inr (refl, refl)
each_byte (right p) (suc (suc (suc i))) = each_byte p i

-- ---- examples

-- a right that is lowered
one_lowered : SameButRights (bytes "(issued 1)\n(1 0 8 ro 0 0000000000000001)\n") (bytes "(issued 1)\n(1 0 8 rw 0 0000000000000001)\n")
one_lowered = join (same (bytes "(issued 1)\n(1 0 8")) (right (same (bytes " 0 0000000000000001)\n")))

-- one of two
child_lowered : SameButRights (bytes "(issued 2)\n(1 0 8 rw 0 0000000000000001 (2 0 4 ro cell 3 0000000000000009))\n")
    (bytes "(issued 2)\n(1 0 8 rw 0 0000000000000001 (2 0 4 rw cell 3 0000000000000009))\n")
child_lowered = join (same (bytes "(issued 2)\n(1 0 8 rw 0 0000000000000001 (2 0 4")) (right (same (bytes " cell 3 0000000000000009))\n")))

-- one that is marked
marked_lowered : SameButRights (bytes "(issued 1)\n(1 0 8 ro fresh 0 0000000000000001)\n") (bytes "(issued 1)\n(1 0 8 rw fresh 0 0000000000000001)\n")
marked_lowered = join (same (bytes "(issued 1)\n(1 0 8")) (right (same (bytes " fresh 0 0000000000000001)\n")))

-- a right that is raised is another text
none_raised : SameButRights (bytes "(1 0 8 rw 0 0000000000000001)") (bytes "(1 0 8 ro 0 0000000000000001)") → ⊥
none_raised p = ⊎_elim (λ (e : 119 ≡ 111). omega arith) (λ e. let z = e.0 in omega arith) (each_byte p 8)

-- so is one with another maker
none_given : SameButRights (bytes "(1 0 8 rw 0 0000000000000003)") (bytes "(1 0 8 rw 1 0000000000000003)") → ⊥
none_given p = ⊎_elim (λ (e : 48 ≡ 49). omega arith) (λ e. let z = e.0 in omega arith) (each_byte p 10)

-- ---- rows

right_lowered : (h : Bool) (r : ℕ) → SameButRights (right_word (cond h 1 r)) (right_word r)
right_lowered true r = go (eqb r 1)
  where
    go : (b : Bool) → SameButRights (bytes " ro") (cond b (bytes " ro") (bytes " rw"))
    go true = same (bytes " ro")
    go false = right done
right_lowered false r = same (right_word r)

module _ (hit : ℕ → Bool) where
  pieces_lowered : (c : Cap) → SameButRights (pieces (lower hit c)) (pieces c)
  unfolding pieces
  pieces_lowered c =
      join (same (decimal c.name.0))
      (join (same (spaced (c.start.0 ∷ c.length ∷ []))) (join (right_lowered (hit c.name.0) c.right) (same (kind_word c.kind ++ (fresh_word c.fresh ++ holding c.maker c.holders)))))

  form_lowered : (c : Cap) {inner inner' : List ℕ} → SameButRights inner inner' → SameButRights (form (lower hit c) inner) (form c inner')
  unfolding form
  form_lowered c p = byte 40 (join (pieces_lowered c) (join p (same (41 ∷ []))))

  -- a lowered row has the name and the parent that it had, so it stands where it stood
  children_lowered : (p : ℕ) (rows : List Cap) → SameButRights (children p (map (lower hit) rows)) (children p rows)
  unfolding children
  children_lowered p [] = done
  children_lowered p (c ∷ rows) = go (eqb c.parent.0 p) (children_lowered c.name.0 rows) (children_lowered p rows)
    where
      go : (b : Bool) → SameButRights (children c.name.0 (map (lower hit) rows)) (children c.name.0 rows) → SameButRights (children p (map (lower hit) rows)) (children p rows)
          → SameButRights (cond b (32 ∷ (form (lower hit c) (children c.name.0 (map (lower hit) rows)) ++ children p (map (lower hit) rows))) (children p (map (lower hit) rows)))
          (cond b (32 ∷ (form c (children c.name.0 rows) ++ children p rows)) (children p rows))
      go true own others = byte 32 (join (form_lowered c own) others)
      go false own others = others

  roots_lowered : (rows : List Cap) → SameButRights (roots (map (lower hit) rows)) (roots rows)
  unfolding roots
  roots_lowered [] = done
  roots_lowered (c ∷ rows) = go (eqb c.parent.0 0) (roots_lowered rows)
    where
      go : (b : Bool) → SameButRights (roots (map (lower hit) rows)) (roots rows)
          → SameButRights (cond b (form (lower hit c) (children c.name.0 (map (lower hit) rows)) ++ (10 ∷ roots (map (lower hit) rows))) (roots (map (lower hit) rows)))
          (cond b (form c (children c.name.0 rows) ++ (10 ∷ roots rows)) (roots rows))
      go true others = join (form_lowered c (children_lowered c.name.0 rows)) (byte 10 others)
      go false others = others

-- rows of which some are lowered to `ro` have the same listing but for their rights
pub lowered_listing : (hit : ℕ → Bool) (table : List Cap) (issued : ℕ) → SameButRights (listing (map (λ c. lowered (hit c.name.0) c) table) issued) (listing table issued)
unfolding listed
lowered_listing hit table issued =
    rw (live_lower hit table, ← map_reverse (lower hit) (live_rows table)) (join (same (issued_line issued)) (roots_lowered hit (reverse (live_rows table))))
