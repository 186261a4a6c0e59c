-- Rows of which some are lowered to `ro`: rights decide nothing but refusal 7, and no strike goes by them. So a request does to the lowered
-- rows what it does to the rows, and what is allowed of the lowered ones is allowed of the others.
-- Assumes nothing.
use mathlib.Core.Path.{◌≡◌, refl, sym, ap, ◌∙◌}
use mathlib.Core.Logic.{◌⊎◌, inl, inr}
use mathlib.Core.Bool.{Bool, true, false, not, cond, ◌&&◌, ◌||◌, or-false}
use mathlib.Core.List.{List, [], ◌∷◌, map, map-map, reverse, reverse-reverse}
use Prim.Native.Nat.{ℕ, suc, ◌≤◌}
use native.Mathlib.Omega.{arith}
use lib.Dec.{eqb, leb, ltb}
use lib.ListN.{length, length-map, get_or}
use borrow.Author.Tests.{eqb-true, eq-eqb, le-ltb, ltb-false, not-true}
use Rattle.model.specs.declared.Name.{Name}
use Rattle.model.specs.declared.Span.{Span}
use Rattle.model.specs.declared.Cap.{Cap}
use Rattle.model.specs.declared.Event.TheVariants.{Create, Borrow, Read, Write, Drop}
use Rattle.model.specs.declared.Access.{Access}
use Rattle.model.specs.declared.Access.TheVariants.{Reading, Writing}
use Rattle.model.specs.declared.Sheet.{Sheet}
use Rattle.model.specs.Lists.{filter, any, all}
use Rattle.model.specs.Requests.{Limits, Caller, Request, Single, Group, Mark, Back, caller_of, turns_state}
use Rattle.model.specs.Slots.{Memory, Slot}
use Rattle.model.specs.Values.{inside}
use Rattle.model.specs.Table.{row, empty_row, span, derivation, derivations, named, live_rows, lent_table, lookup, is_right, rows_in_order, in_order}
use Rattle.model.specs.Refusals.{View, view_of, unfit_stored, unfit, not_a_holder, not_written, standings, checks, refusals, judge}
use Rattle.model.specs.Limits.{no_row, limit_reached}
use Rattle.model.specs.Bits.{has_bit, bit_at, span_written}
use Rattle.model.specs.Effects.{lowered, revoke, after_access, rows_without, root, rows_after}
use Rattle.model.proofs.Lists.{All, All_map, All_of, All_get_d, All_reverse, All_unfilter, test, clash, and_both, filter_map, map_cong, map_reverse, any_map, first_zero}
use Rattle.model.proofs.Judged.{numbered, sheet_allowed, sized, eight_slots, no_slot, fit_all}
use Rattle.model.proofs.Limits.{sheet_lower, row_lower, limit_lower}
use Rattle.model.proofs.Order.{place, rises, right_positive, ordered}
use Rattle.model.proofs.Rows.{lent_changed}

-- ---- checks

-- where each check of the second list passes, so does that of the first
abbrev Weaker : List (ℕ × Bool) → List (ℕ × Bool) → Type 0
Weaker [] [] = Unit {0}
Weaker [] (d ∷ ds) = ⊥
Weaker (c ∷ cs) [] = ⊥
Weaker (c ∷ cs) (d ∷ ds) = (d.1 ≡ false → c.1 ≡ false) × Weaker cs ds

abbrev Pass : List (ℕ × Bool) → Type 0
Pass cs = all (λ c. not c.1) cs ≡ true

weaker_passes : (cs ds : List (ℕ × Bool)) → Weaker cs ds → Pass ds → Pass cs
weaker_passes [] [] w p = refl
weaker_passes [] (d ∷ ds) w p = absurd w
weaker_passes (c ∷ cs) [] w p = absurd w
weaker_passes (c ∷ cs) (d ∷ ds) w p =
    let q = and_both (not d.1) (all (λ c. not c.1) ds) p in
    rw (w.0 (not-true d.1 q.0)) (weaker_passes cs ds w.1 q.1)

checks_pass : (v : View) (q : Request) → judge v q ≡ 0 → Pass (checks (live_rows v.table) v.issued v.is_written v.slot (length v.table) q)
unfolding judge refusals
checks_pass v q z =
    (and_both (not (unfit_stored v q || unfit (caller_of q).limits v)) (all (λ c. not c.1) (checks (live_rows v.table) v.issued v.is_written v.slot (length v.table) q)) (sym (first_zero (refusals v q) (numbered v q)) ∙ eq-eqb (judge v q) 0 z)).1

passed : (v : View) (q : Request) → unfit_stored v q ≡ false → unfit (caller_of q).limits v ≡ false → Pass (checks (live_rows v.table) v.issued v.is_written v.slot (length v.table) q) → judge v q ≡ 0
unfolding judge refusals
passed v q s o p = eqb-true (judge v q) 0 (first_zero (refusals v q) (numbered v q) ∙ rw (s, o) p)

-- ---- rights in order

rights_given : (bound : ℕ) (rows : List Cap) → rows_in_order bound rows ≡ true → All (λ c. is_right c.right ≡ true) rows
rights_given bound [] h = tt
rights_given bound (c ∷ rows) h = let r = rises bound c rows h in ((place c rows r.in_place).has_right, rights_given c.name.0 rows r.rest)

-- ---- rows of which some are lowered

twice : (a b : Bool) (c : Cap) → lowered a (lowered b c) ≡ lowered b (lowered a c)
twice true true c = refl
twice true false c = refl
twice false true c = refl
twice false false c = refl

module _ (hit : ℕ → Bool) where
  abbrev pub lower : Cap → Cap
  lower c = lowered (hit c.name.0) c

  -- they have the same derivations, so the same strikes and subtrees
  derivations_lower : (rows : List Cap) → derivations (map lower rows) ≡ derivations rows
  derivations_lower rows = map-map derivation lower rows

  revoke_lower : (ends lowers : ℕ → Bool) (rows : List Cap) → revoke ends lowers (map lower rows) ≡ map lower (revoke ends lowers rows)
  unfolding revoke
  revoke_lower ends lowers rows =
      let left : List Cap = filter (λ c. not (ends c.name.0)) rows in
      ap (map (λ c. lowered (lowers c.name.0) c)) (filter_map lower (λ c. not (ends c.name.0)) rows)
      ∙ map-map (λ c. lowered (lowers c.name.0) c) lower left
      ∙ map_cong (λ c. lowered (lowers c.name.0) (lower c)) (λ c. lower (lowered (lowers c.name.0) c)) left (All_of _ (λ c. twice (lowers c.name.0) (hit c.name.0) c) left)
      ∙ sym (map-map lower (λ c. lowered (lowers c.name.0) c) left)

  access_lower : (sheet : Sheet) (a : Access) (u : ℕ) (s : Span) (rows : List Cap) → after_access sheet a u s (map lower rows) ≡ map lower (after_access sheet a u s rows)
  unfolding after_access
  access_lower sheet a u s rows = rw (derivations_lower rows) (revoke_lower _ _ rows)

  without_lower : (names : List ℕ) (rows : List Cap) → rows_without names (map lower rows) ≡ map lower (rows_without names rows)
  unfolding rows_without
  without_lower names rows = rw (derivations_lower rows) (revoke_lower _ _ rows)

  -- what a row has besides its right is found as before
  lookup_same : {A : Type 0} (f : Cap → A) → ((c : Cap) → f (lower c) ≡ f c) → (x : ℕ) (rows : List Cap) → f (lookup x (map lower rows)) ≡ f (lookup x rows)
  unfolding lookup
  lookup_same f k x [] = refl
  lookup_same f k x (c ∷ rows) = go (test (named x c)) (lookup_same f k x rows)
    where
      go : (named x c ≡ true) ⊎ (named x c ≡ false) → f (lookup x (map lower rows)) ≡ f (lookup x rows) → f (cond (named x c) (lower c) (lookup x (map lower rows))) ≡ f (cond (named x c) c (lookup x rows))
      go (inl t) ih = rw t (k c)
      go (inr e) ih = rw e ih

  -- and a right no higher
  right_below : (x : ℕ) (rows : List Cap) → All (λ c. 1 ≤ c.right) rows → (lookup x (map lower rows)).right ≤ (lookup x rows).right
  unfolding lookup
  right_below x [] a = omega arith
  right_below x (c ∷ rows) a = go (test (named x c)) (right_below x rows a.1)
    where
      lowest : (b : Bool) (r : ℕ) → 1 ≤ r → cond b 1 r ≤ r
      lowest true r l = l
      lowest false r l = omega arith

      go : (named x c ≡ true) ⊎ (named x c ≡ false) → (lookup x (map lower rows)).right ≤ (lookup x rows).right → (cond (named x c) (lower c) (lookup x (map lower rows))).right ≤ (cond (named x c) c (lookup x rows)).right
      go (inl t) ih = rw t (lowest (hit c.name.0) c.right a.0)
      go (inr e) ih = rw e ih

  -- what passes on the lowered rows passes on the rows
  module _ (rows : List Cap) (positive : All (λ c. 1 ≤ c.right) rows) (i : ℕ) (is_written : ℕ → Bool) (slot : ℕ → Slot (List Cap)) (size : ℕ) where
    found : (x : ℕ) → not (any (named x) (map lower rows)) ≡ false → not (any (named x) rows) ≡ false
    found x e = ap not (sym (any_map lower (named x) rows)) ∙ e

    within : (x : ℕ) (s : Span) → not (inside s (span (lookup x (map lower rows)))) ≡ false → not (inside s (span (lookup x rows))) ≡ false
    within x s e = ap (λ t. not (inside s t)) (sym (lookup_same span (λ c. refl) x rows)) ∙ e

    higher : (x r : ℕ) → ltb (lookup x (map lower rows)).right r ≡ false → ltb (lookup x rows).right r ≡ false
    higher x r e = le-ltb (lookup x rows).right r (omega (arith, ltb-false (lookup x (map lower rows)).right r e, right_below x rows positive))

    shallow : (x : ℕ) → leb 64 (lookup x (map lower rows)).depth ≡ false → leb 64 (lookup x rows).depth ≡ false
    shallow x e = ap (leb 64) (sym (lookup_same (λ c. c.depth) (λ c. refl) x rows)) ∙ e

    roomy : (limits : Limits) → no_row limits (map lower rows) size ≡ false → no_row limits rows size ≡ false
    roomy limits e = sym (row_lower (λ c. hit c.name.0) limits rows size) ∙ e

    unreached : (by : Caller) → limit_reached by.limits (map lower rows) by.actor ≡ false → limit_reached by.limits rows by.actor ≡ false
    unreached by e = sym (limit_lower (λ c. hit c.name.0) by.limits rows by.actor) ∙ e

    held : (actor : ℕ) (u : Name) → not_a_holder (map lower rows) i actor u ≡ false → not_a_holder rows i actor u ≡ false
    held actor u e = ap (λ m. not (has_bit m actor)) (sym (lookup_same (λ c. c.holders) (λ c. refl) u.0 rows)) ∙ e

    readable : (u : Name) (s : Span) → not_written (map lower rows) i is_written u s ≡ false → not_written rows i is_written u s ≡ false
    unfolding not_written
    readable u s e = ap (λ m. eqb m 1 && not (span_written is_written s)) (sym (lookup_same (λ c. c.fresh) (λ c. refl) u.0 rows)) ∙ e

    standings_weaker : (actor : ℕ) (names : List ℕ) → Weaker (standings rows i actor names) (standings (map lower rows) i actor names)
    unfolding standings
    standings_weaker actor [] = tt
    standings_weaker actor (u ∷ names) = (λ e. e, (found u, (held actor (record { 0 = u }), standings_weaker actor names)))

    checks_weaker : (q : Request) → Weaker (checks rows i is_written slot size q) (checks (map lower rows) i is_written slot size q)
    checks_weaker (Single by (Create w s r)) = (λ e. e, (λ e. e, (λ e. e, (λ e. e, (roomy by.limits, (unreached by, tt))))))
    checks_weaker (Single by (Borrow w u s r)) = (λ e. e, (λ e. e, (λ e. e, (found u.0, (held by.actor u, (within u.0 s, (higher u.0 r.right, (shallow u.0, (λ e. e, (λ e. e, (roomy by.limits, (unreached by, tt))))))))))))
    checks_weaker (Single by (Read u s)) = (λ e. e, (λ e. e, (λ e. e, (found u.0, (held by.actor u, (within u.0 s, (readable u s, tt)))))))
    checks_weaker (Single by (Write u s)) = (λ e. e, (λ e. e, (λ e. e, (found u.0, (held by.actor u, (within u.0 s, (higher u.0 2, tt)))))))
    checks_weaker (Single by (Drop u)) = (λ e. e, (λ e. e, (found u.0, (held by.actor u, tt))))
    checks_weaker (Group by names) = (λ e. e, (λ e. e, standings_weaker by.actor names))
    checks_weaker (Mark by k) = (λ e. e, tt)
    checks_weaker (Back by k) = (λ e. e, (λ e. e, tt))

  -- a request does to the lowered rows what it does to the rows; a new name is not lowered
  rows_lower : (sheet : Sheet) (issued : ℕ) → hit (suc issued) ≡ false → (rows : List Cap) (q : Request) → rows_after sheet issued (map lower rows) q ≡ map lower (rows_after sheet issued rows q)
  unfolding rows_after
  rows_lower sheet issued z rows (Single by (Create w s r)) = rw z (ap {B = List Cap} (λ l. row (root by issued s r) r.right 1 ∷ l) (access_lower sheet Writing (suc issued) s rows))
  rows_lower sheet issued z rows (Single by (Borrow w u s r)) = rw (z, lookup_same (λ c. c.depth) (λ c. refl) u.0 rows, lookup_same (λ c. c.fresh) (λ c. refl) u.0 rows)
  rows_lower sheet issued z rows (Single by (Read u s)) = access_lower sheet Reading u.0 s rows
  rows_lower sheet issued z rows (Single by (Write u s)) = access_lower sheet Writing u.0 s rows
  rows_lower sheet issued z rows (Single by (Drop u)) = without_lower (u.0 ∷ []) rows
  rows_lower sheet issued z rows (Group by names) = without_lower names rows
  rows_lower sheet issued z rows (Mark by k) = refl
  rows_lower sheet issued z rows (Back by k) = refl

  -- the same of whole tables
  pub live_lower : (t : List Cap) → live_rows (map lower t) ≡ map lower (live_rows t)
  unfolding live_rows
  live_lower t = ap reverse (filter_map lower (λ c. not (named 0 c)) t) ∙ sym (map_reverse lower (filter (λ c. not (named 0 c)) t))

  module _ (t : List Cap) (bits : List ℕ) (slots : List (Slot Memory)) (i : ℕ) (q : Request) where
    -- what is allowed of the lowered table is allowed of the table
    pub allowed_lower : turns_state q ≡ false → in_order t i ≡ true → judge (view_of (map lower t) bits slots i) q ≡ 0 → judge (view_of t bits slots i) q ≡ 0
    allowed_lower s o z =
        let rights = All_map _ _ (λ c e. right_positive c.right e) (live_rows t) (rights_given (suc i) (live_rows t) (ordered t i o).rise) in
        let v : View = view_of t bits slots i in
        let low : View = view_of (map lower t) bits slots i in
        passed v q (no_slot v q s)
        (fit_all (caller_of q).limits v o (sym (sheet_lower (λ c. hit c.name.0) (caller_of q).limits t (live_lower t)) ∙ sheet_allowed low q z) (sized low q z) (eight_slots low q z))
        (weaker_passes (checks (live_rows t) i (bit_at bits) v.slot (length t) q) (checks (map lower (live_rows t)) i (bit_at bits) v.slot (length t) q) (checks_weaker (live_rows t) rights i (bit_at bits) v.slot (length t) q)
        (rw (live_lower t, length-map) at (checks_pass low q z)))

  module _ (t : List Cap) (i : ℕ) (q : Request) where
    -- and leaves of the one what it leaves of the other, lowered
    pub after_lower : hit 0 ≡ false → hit (suc i) ≡ false → (sheet : Sheet)
        → lent_table (length (map lower t)) (rows_after sheet i (live_rows (map lower t)) q) ≡ map lower (lent_table (length t) (rows_after sheet i (live_rows t) q))
    after_lower empty new sheet =
        rw (length-map, live_lower t, rows_lower sheet i new (live_rows t) q)
        (lent_changed lower (ap (λ b. lowered b empty_row) empty) (length t) (rows_after sheet i (live_rows t) q))

-- ---- rights in the table

pub rights_table : (t : List Cap) (i : ℕ) → in_order t i ≡ true → (k : ℕ) → not (named 0 (get_or t k empty_row)) ≡ true → is_right (get_or t k empty_row).right ≡ true
unfolding live_rows
rights_table t i o =
    All_get_d (λ c. not (named 0 c) ≡ true → is_right c.right ≡ true) t empty_row (λ e. clash e refl)
    (All_unfilter (λ c. not (named 0 c)) (λ c. is_right c.right ≡ true) t
    (rw (reverse-reverse (filter (λ c. not (named 0 c)) t)) at (All_reverse (λ c. is_right c.right ≡ true) (live_rows t) (rights_given (suc i) (live_rows t) (ordered t i o).rise))))

-- a lowered right differs only where it was `rw`
pub lowered_right : (hit : Bool) (c : Cap) → (hit ≡ true → is_right c.right ≡ true) → (c.right ≡ (lowered hit c).right) ⊎ ((hit ≡ true) × (c.right ≡ 2) × ((lowered hit c).right ≡ 1))
lowered_right false c r = inl refl
lowered_right true c r = go (test (eqb c.right 2))
  where
    go : (eqb c.right 2 ≡ true) ⊎ (eqb c.right 2 ≡ false) → (c.right ≡ 1) ⊎ ((true ≡ true) × (c.right ≡ 2) × (◌≡◌ {A = ℕ} 1 1))
    go (inl e) = inr (refl, eqb-true c.right 2 e, refl)
    go (inr e) = inl (eqb-true c.right 1 (sym (or-false (eqb c.right 1)) ∙ (rw e at (r refl))))
