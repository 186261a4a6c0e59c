-- Card 10: rows counted by their makers. With a sheet of limits no table is ever full.
-- Assumes nothing.
use mathlib.Core.Path.{◌≡◌, refl, sym, ap, ◌∙◌}
use mathlib.Core.Bool.{Bool, true, false, not, ◌||◌}
use mathlib.Core.List.{List, [], ◌∷◌, map}
use Prim.Native.Nat.{ℕ, zero, suc, ◌+◌, ◌<◌, ◌≤◌}
use native.Mathlib.Omega.{arith}
use lib.Dec.{eqb, ltb}
use lib.ListN.{length, get_or, length-map}
use borrow.Author.Tests.{eq-eqb, ne_eqb, eqb-false, ltb-false, le-ltb, not-true}
use Rattle.model.specs.declared.Cap.{Cap}
use Rattle.model.specs.Lists.{cons_if, filter}
use Rattle.model.specs.Requests.{Limits, Unlimited, Limited}
use Rattle.model.specs.Table.{live_rows}
use Rattle.model.specs.Effects.{lowered, revoke}
use Rattle.model.specs.Limits.{made_by, made, sum, exceeds, refused_sheet, no_row, limit_reached}
use Rattle.model.proofs.Lists.{All, All_map, All_filter, or_neither, filter_map}

-- ---- rows counted by their makers

pub made_sub : (d : ℕ) (p : Cap → Bool) (rows : List Cap) → made d (filter p rows) ≤ made d rows
made_sub d p [] = omega arith
made_sub d p (c ∷ rows) = go (p c) (made_by d c) refl (made_sub d p rows)
  where
    grown : (m : Bool) → made d (filter p rows) ≤ made d rows → length (cons_if m c (filter (made_by d) (filter p rows))) ≤ length (cons_if m c (filter (made_by d) rows))
    grown true h = omega arith
    grown false h = h

    go : (k m : Bool) → made_by d c ≡ m → made d (filter p rows) ≤ made d rows → length (filter (made_by d) (cons_if k c (filter p rows))) ≤ length (cons_if m c (filter (made_by d) rows))
    go true m e h = rw e (grown m h)
    go false true e h = omega arith
    go false false e h = h

-- what is taken away is nobody's new row
pub made_revoke : (d : ℕ) (ends lowers : ℕ → Bool) (rows : List Cap) → made d (revoke ends lowers rows) ≤ made d rows
unfolding revoke
made_revoke d ends lowers rows = omega (arith, kept (filter (λ c. not (ends c.name.0)) rows), made_sub d (λ c. not (ends c.name.0)) rows)
  where
    kept : (rows : List Cap) → made d (map (λ c. lowered (lowers c.name.0) c) rows) ≡ made d rows
    kept [] = refl
    kept (c ∷ rows) = go (made_by d c) (kept rows)
      where
        go : (m : Bool) → made d (map (λ c. lowered (lowers c.name.0) c) rows) ≡ made d rows
            → length (cons_if m (lowered (lowers c.name.0) c) (filter (made_by d) (map (λ c. lowered (lowers c.name.0) c) rows))) ≡ length (cons_if m c (filter (made_by d) rows))
        go true h = ap suc h
        go false h = h

-- ---- a sheet that is not exceeded

pub exceeds_fewer : (rows left : List Cap) → ((d : ℕ) → made d left ≤ made d rows) → (d : ℕ) (sheet : List ℕ) → exceeds d rows sheet ≡ false → exceeds d left sheet ≡ false
unfolding exceeds
exceeds_fewer rows left f d [] h = refl
exceeds_fewer rows left f d (l ∷ sheet) h =
    let p = or_neither (ltb l (made d rows)) (exceeds (suc d) rows sheet) h in
    rw (le-ltb l (made d left) (omega (arith, f d, ltb-false l (made d rows) p.0))) (exceeds_fewer rows left f (suc d) sheet p.1)

-- a row made by an earlier domain does not count
exceeds_past : (c : Cap) (rows : List Cap) (d : ℕ) (sheet : List ℕ) → c.maker < d → exceeds d (c ∷ rows) sheet ≡ exceeds d rows sheet
unfolding exceeds
exceeds_past c rows d [] l = refl
exceeds_past c rows d (k ∷ sheet) l = rw (ne_eqb d c.maker (λ (e : d ≡ c.maker). omega arith)) (ap (λ r. ltb k (made d rows) || r) (exceeds_past c rows (suc d) sheet (omega arith)))

-- a new row of a domain below its limit
pub exceeds_new : (c : Cap) (rows : List Cap) (d j : ℕ) (sheet : List ℕ) → c.maker ≡ d + j → made c.maker rows < get_or sheet j 0 → exceeds d rows sheet ≡ false → exceeds d (c ∷ rows) sheet ≡ false
unfolding exceeds
exceeds_new c rows d j [] e l h = refl
exceeds_new c rows d zero (k ∷ sheet) e l h =
    let p = or_neither (ltb k (made d rows)) (exceeds (suc d) rows sheet) h in
    let q : c.maker ≡ d = omega arith in
    let below : made d rows < k = rw q at l in
    rw (eq-eqb d c.maker (sym q), le-ltb k (suc (made d rows)) below) (exceeds_past c rows (suc d) sheet (omega arith) ∙ p.1)
exceeds_new c rows d (suc j) (k ∷ sheet) e l h =
    let p = or_neither (ltb k (made d rows)) (exceeds (suc d) rows sheet) h in
    rw (ne_eqb d c.maker (λ (q : d ≡ c.maker). omega arith), p.0) (exceeds_new c rows (suc d) j sheet (omega arith) l p.1)

-- Why 10 never occurs with a sheet: every live row has its maker, so there are at most as many as the limits' sum.
pub fewer_than_limits : (sheet : List ℕ) (d : ℕ) (rows : List Cap) → All (λ c. (d ≤ c.maker) × (c.maker < d + length sheet)) rows → exceeds d rows sheet ≡ false → length rows ≤ sum sheet
unfolding exceeds
fewer_than_limits [] d [] a h = omega arith
fewer_than_limits [] d (c ∷ rows) a h = absurd (none a.0.0 a.0.1)
  where
    none : d ≤ c.maker → c.maker < d + 0 → ⊥
    none l m = omega arith
fewer_than_limits (k ∷ sheet) d rows a h =
    let p = or_neither (ltb k (made d rows)) (exceeds (suc d) rows sheet) h in
    omega (
      arith,
      parted rows,
      ltb-false k (made d rows) p.0,
      fewer_than_limits sheet (suc d) (filter others rows) (All_filter others _ rows (All_map _ _ beyond rows a)) (exceeds_fewer rows (filter others rows) (λ m. made_sub m others rows) (suc d) sheet p.1),
    )
  where
    others : Cap → Bool
    others c = not (made_by d c)

    parted : (rows : List Cap) → length rows ≡ made d rows + length (filter others rows)
    parted [] = refl
    parted (c ∷ rows) = go (made_by d c) (parted rows)
      where
        go : (m : Bool) → length rows ≡ made d rows + length (filter others rows) → suc (length rows) ≡ length (cons_if m c (filter (made_by d) rows)) + length (cons_if (not m) c (filter others rows))
        go true e = omega arith
        go false e = omega arith

    beyond : (c : Cap) → (d ≤ c.maker) × (c.maker < d + suc (length sheet)) → others c ≡ true → (suc d ≤ c.maker) × (c.maker < suc d + length sheet)
    beyond c (l, m) e = let n = eqb-false d c.maker (not-true (made_by d c) e) in (differs l n, omega arith)
      where
        differs : d ≤ c.maker → (d ≡ c.maker → ⊥) → suc d ≤ c.maker
        differs l n = omega (arith, n)

-- fewer rows of each maker in as many are not refused
pub sheet_fewer : (limits : Limits) (t left : List Cap) → length left ≡ length t → ((d : ℕ) → made d (live_rows left) ≤ made d (live_rows t)) → refused_sheet t limits ≡ false → refused_sheet left limits ≡ false
unfolding refused_sheet
sheet_fewer Unlimited t left e f h = refl
sheet_fewer (Limited sheet) t left e f h =
    let p = or_neither (not (eqb (length sheet) 64)) (ltb (length t) (sum sheet) || exceeds 0 (live_rows t) sheet) h in
    let q = or_neither (ltb (length t) (sum sheet)) (exceeds 0 (live_rows t) sheet) p.1 in
    rw (p.0, e, q.0) (exceeds_fewer (live_rows t) (live_rows left) f 0 sheet q.1)

-- rows that are lowered have their makers
module _ (hit : Cap → Bool) where
  abbrev low : Cap → Cap
  low c = lowered (hit c) c

  pub made_lower : (d : ℕ) (rows : List Cap) → made d (map low rows) ≡ made d rows
  made_lower d rows = ap length (filter_map low (made_by d) rows) ∙ length-map (filter (made_by d) rows) low

  exceeds_lower : (d : ℕ) (rows : List Cap) (sheet : List ℕ) → exceeds d (map low rows) sheet ≡ exceeds d rows sheet
  unfolding exceeds
  exceeds_lower d rows [] = refl
  exceeds_lower d rows (l ∷ sheet) = rw (made_lower d rows, exceeds_lower (suc d) rows sheet)

  pub sheet_lower : (limits : Limits) (t : List Cap) → live_rows (map low t) ≡ map low (live_rows t) → refused_sheet (map low t) limits ≡ refused_sheet t limits
  unfolding refused_sheet
  sheet_lower Unlimited t e = refl
  sheet_lower (Limited sheet) t e = rw (length-map t low, e, exceeds_lower 0 (live_rows t) sheet)

  pub row_lower : (limits : Limits) (rows : List Cap) (size : ℕ) → no_row limits (map low rows) size ≡ no_row limits rows size
  unfolding no_row
  row_lower Unlimited rows size = rw (length-map rows low)
  row_lower (Limited sheet) rows size = refl

  pub limit_lower : (limits : Limits) (rows : List Cap) (d : ℕ) → limit_reached limits (map low rows) d ≡ limit_reached limits rows d
  unfolding limit_reached
  limit_lower Unlimited rows d = refl
  limit_lower (Limited sheet) rows d = rw (made_lower d rows)
