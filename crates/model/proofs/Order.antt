-- A table in order stays in order under every request.
-- Assumes nothing.
use Rattle.std.specs.Prelude.{Option}
use mathlib.Core.Path.{◌≡◌, refl, sym, ap, ◌∙◌}
use mathlib.Core.Logic.{◌⊎◌, inl, inr}
use mathlib.Core.Bool.{Bool, true, false, not, cond, ◌&&◌, ◌||◌, or-true}
use mathlib.Core.List.{List, [], ◌∷◌, ◌++◌, map, reverse, reverse-cons, append_assoc}
use Prim.Native.Nat.{ℕ, zero, suc, ◌+◌, ◌-◌, ◌<◌, ◌≤◌}
use native.Mathlib.Omega.{arith}
use lib.Dec.{eqb, leb, ltb}
use lib.ListN.{length, get_or, replicate, length-replicate}
use borrow.Author.Tests.{eqb-true, eq-eqb, ne_eqb, eqb-false, leb-true, leb-false, le-leb, ltb-true, ltb-false, lt-ltb, not-true, not-false}
use Rattle.model.specs.declared.Name.{Name}
use Rattle.model.specs.declared.Span.{Span}
use Rattle.model.specs.declared.Cap.{Cap}
use Rattle.model.specs.declared.Tally.{Tally}
use Rattle.model.specs.declared.Terms.{Terms}
use Rattle.model.specs.declared.Event.TheVariants.{Create, Borrow, Read, Write, Drop}
use Rattle.model.specs.Requests.{Limits, Unlimited, Limited, Caller, Request, Single, Group, Mark, Back, caller_of}
use Rattle.model.specs.Slots.{Memory, Slot, Nothing, Stored, stored_or, unstored}
use Rattle.model.specs.declared.Effect.{Effect}
use Rattle.model.specs.declared.Sheet.{Sheet}
use Rattle.model.specs.Lists.{cons_if, filter, any, all, final}
use Rattle.model.specs.declared.Access.{Access}
use Rattle.model.specs.declared.Access.TheVariants.{Reading, Writing}
use Rattle.model.specs.Values.{end, legal, inside}
use Rattle.model.specs.Derivation.{Derivation, ancestry, in_subtree, on_ancestry}
use Rattle.model.specs.Strike.{is_lower, is_end, strike, reached, struck}
use Rattle.model.specs.Step.{State, view}
use Rattle.model.specs.Table.{row, empty_row, span, derivation, derivations, named, live_rows, lent_table, lookup, is_empty_row, live_rows_first, is_right, is_kind, is_mark, is_marked, is_domain, holds, terms_in_order, row_fits_parent, parent_in_order, row_in_order, rows_in_order, in_order}
use Rattle.model.specs.Refusals.{View, table_in, unfit_table, unfit_slot, unfit, refusals, judge}
use Rattle.model.specs.Effects.{lowered, revoke, after_access, in_subtrees, rows_without, root, child, rows_after, issued_after}
use Rattle.model.specs.Step
use Rattle.model.proofs.Lists.{All, All_map, All_of, All_sub, All_get_d, All_replicate, All_set, All_mapped, All_unmap, test, clash, unless, passes, and_both, or_neither, filter_reverse, filter_none, any_map, any_or, any_kept}
use Rattle.model.specs.Limits.{made, sum, exceeds, refused_sheet, no_row, limit_reached}
use Rattle.model.proofs.Limits.{made_revoke, exceeds_fewer, exceeds_new, fewer_than_limits}
use Rattle.model.proofs.Slots.{InSlot, in_stored}
use Rattle.model.proofs.Ancestries.{Falling, ancestry_step}
use Rattle.model.proofs.Lent.{Named, live_lent, length_lent, lookup_kept, lookup_found, lookup_named}
use Rattle.model.proofs.Judged.{allowed, root_given, child_given, length_live, sheet_allowed, stored_fit, is_fit, fit_table, slots_size, revoke_fits, access_fits, counted_issued, fit_order, fit_size, fit_sheet, fit_slots, fit_all}
use Rattle.model.proofs.Bits.{length_after}

-- ---- the lent table is arranged

live_rows_first_zeros : (n : ℕ) → live_rows_first (replicate n empty_row) ≡ true
unfolding live_rows_first is_empty_row
live_rows_first_zeros zero = refl
live_rows_first_zeros (suc n) = all_empty_row n
  where
    all_empty_row : (n : ℕ) → all is_empty_row (replicate n empty_row) ≡ true
    all_empty_row zero = refl
    all_empty_row (suc n) = all_empty_row n

live_rows_first_append : (l t : List Cap) → Named l → live_rows_first t ≡ true → live_rows_first (l ++ t) ≡ true
unfolding live_rows_first
live_rows_first_append [] t h e = e
live_rows_first_append (c ∷ l) t h e = rw h.0 (live_rows_first_append l t h.1 e)

live_rows_first_reverse : (rows t : List Cap) → Named rows → live_rows_first t ≡ true → live_rows_first (reverse rows ++ t) ≡ true
live_rows_first_reverse [] t h e = e
live_rows_first_reverse (c ∷ rows) t h e = rw (reverse-cons c rows, append_assoc (reverse rows) (c ∷ []) t) (live_rows_first_reverse rows (c ∷ t) h.1 (live_rows_first_append (c ∷ []) t (h.0, tt) e))

pub live_rows_first_lent : (n : ℕ) (rows : List Cap) → Named rows → live_rows_first (lent_table n rows) ≡ true
unfolding lent_table
live_rows_first_lent n rows h = live_rows_first_reverse rows (replicate (n - length rows) empty_row) h (live_rows_first_zeros (n - length rows))

pub live_named : (t : List Cap) → Named (live_rows t)
unfolding live_rows
live_named t = rw (← filter_reverse (λ c. not (named 0 c)) t) (All_map _ _ (λ c e. not-true (named 0 c) e) (filter (λ c. not (named 0 c)) (reverse t)) (passes (λ c. not (named 0 c)) (reverse t)))

-- ---- rows that rise

-- a row and the earlier ones
pub record Rises (bound : ℕ) (c : Cap) (earlier : List Cap) : Type 0 where
  pub below_bound : c.name.0 < bound
  pub in_place : row_in_order c earlier ≡ true
  pub rest : rows_in_order c.name.0 earlier ≡ true

pub rises : (bound : ℕ) (c : Cap) (earlier : List Cap) → rows_in_order bound (c ∷ earlier) ≡ true → Rises bound c earlier
unfolding rows_in_order
rises bound c earlier h =
    let p = and_both (ltb c.name.0 bound && row_in_order c earlier) (rows_in_order c.name.0 earlier) h in
    let q = and_both (ltb c.name.0 bound) (row_in_order c earlier) p.0 in
    record { below_bound = ltb-true c.name.0 bound q.0; in_place = q.1; rest = p.1 }

pub risen : (bound : ℕ) (c : Cap) (earlier : List Cap) → Rises bound c earlier → rows_in_order bound (c ∷ earlier) ≡ true
unfolding rows_in_order
risen bound c earlier r = rw (lt-ltb c.name.0 bound r.below_bound, r.in_place, r.rest)

pub rows_in_order_wider : (a b : ℕ) (rows : List Cap) → a ≤ b → rows_in_order a rows ≡ true → rows_in_order b rows ≡ true
unfolding rows_in_order
rows_in_order_wider a b [] l h = refl
rows_in_order_wider a b (c ∷ rows) l h =
    let r = rises a c rows h in
    risen b c rows (record { below_bound = omega (arith, r.below_bound); in_place = r.in_place; rest = r.rest })

-- a name among rows that rise is below their bound
pub found_below : (bound : ℕ) (rows : List Cap) (x : ℕ) → rows_in_order bound rows ≡ true → any (named x) rows ≡ true → x < bound
found_below bound [] x h e = clash e refl
found_below bound (c ∷ rows) x h e = go (test (named x c)) (found_below c.name.0 rows x (rises bound c rows h).rest)
  where
    go : (named x c ≡ true) ⊎ (named x c ≡ false) → (any (named x) rows ≡ true → x < c.name.0) → x < bound
    go (inl t) ih = omega (arith, eqb-true x c.name.0 t, (rises bound c rows h).below_bound)
    go (inr f) ih = omega (arith, ih (rw f at e), (rises bound c rows h).below_bound)

-- what a row's place says
pub record Place (c : Cap) (earlier : List Cap) : Type 0 where
  pub is_legal : legal (span c) ≡ true
  pub has_right : is_right c.right ≡ true
  pub has_kind : is_kind c.kind ≡ true
  pub has_terms : terms_in_order (derivation c) ≡ true
  pub does_hang : parent_in_order c earlier ≡ true

pub place : (c : Cap) (earlier : List Cap) → row_in_order c earlier ≡ true → Place c earlier
unfolding row_in_order
place c earlier h =
    let p = and_both (legal (span c) && is_right c.right && is_kind c.kind && terms_in_order (derivation c)) (parent_in_order c earlier) h in
    let o = and_both (legal (span c) && is_right c.right && is_kind c.kind) (terms_in_order (derivation c)) p.0 in
    let q = and_both (legal (span c) && is_right c.right) (is_kind c.kind) o.0 in
    let r = and_both (legal (span c)) (is_right c.right) q.0 in
    record { is_legal = r.0; has_right = r.1; has_kind = q.1; has_terms = o.1; does_hang = p.1 }

pub terms_given : (bound : ℕ) (rows : List Cap) → rows_in_order bound rows ≡ true → All (λ c. terms_in_order (derivation c) ≡ true) rows
terms_given bound [] h = tt
terms_given bound (c ∷ rows) h = let r = rises bound c rows h in ((place c rows r.in_place).has_terms, terms_given c.name.0 rows r.rest)

-- what a row's terms say
pub record Fitting (d : Derivation) : Type 0 where
  pub has_domain : is_domain d.maker ≡ true
  pub has_holder : holds d d.maker ≡ true
  pub has_mark : is_mark d.fresh ≡ true
  pub is_low : not (is_marked d) || leb (end d.span) 65536 ≡ true

pub fitting : (d : Derivation) → terms_in_order d ≡ true → Fitting d
unfolding terms_in_order
fitting d h =
    let p = and_both (is_domain d.maker) (holds d d.maker && (is_mark d.fresh && (not (is_marked d) || leb (end d.span) 65536))) h in
    let q = and_both (holds d d.maker) (is_mark d.fresh && (not (is_marked d) || leb (end d.span) 65536)) p.1 in
    let r = and_both (is_mark d.fresh) (not (is_marked d) || leb (end d.span) 65536) q.1 in
    record { has_domain = p.0; has_holder = q.0; has_mark = r.0; is_low = r.1 }

-- a marked row ends at 65,536 or below
pub marked_low : (d : Derivation) → terms_in_order d ≡ true → is_marked d ≡ true → end d.span ≤ 65536
marked_low d h m = leb-true (end d.span) 65536 (rw m at (fitting d h).is_low)

-- a row whose parent is not 0
pub parent_in_order_row_fits_parent : (c : Cap) (earlier : List Cap) → eqb c.parent.0 0 ≡ false → parent_in_order c earlier ≡ true → (any (named c.parent.0) earlier ≡ true) × (row_fits_parent c (lookup c.parent.0 earlier) ≡ true)
unfolding parent_in_order
parent_in_order_row_fits_parent c earlier f h = and_both (any (named c.parent.0) earlier) (row_fits_parent c (lookup c.parent.0 earlier)) (rw f at h)

parent_before : (c : Cap) (earlier : List Cap) → named 0 c ≡ false → rows_in_order c.name.0 earlier ≡ true → parent_in_order c earlier ≡ true → c.parent.0 < c.name.0
parent_before c earlier z h p = go (test (eqb c.parent.0 0))
  where
    positive : (x : ℕ) → (0 ≡ x → ⊥) → c.parent.0 ≡ 0 → c.parent.0 < x
    positive zero n q = absurd (n refl)
    positive (suc x) n q = omega arith

    go : (eqb c.parent.0 0 ≡ true) ⊎ (eqb c.parent.0 0 ≡ false) → c.parent.0 < c.name.0
    go (inl t) = positive c.name.0 (eqb-false 0 c.name.0 z) (eqb-true c.parent.0 0 t)
    go (inr f) = found_below c.name.0 earlier c.parent.0 h (parent_in_order_row_fits_parent c earlier f p).0

pub rows_in_order_falling : (bound : ℕ) (rows : List Cap) → Named rows → rows_in_order bound rows ≡ true → Falling bound (derivations rows)
rows_in_order_falling bound [] n h = tt
rows_in_order_falling bound (c ∷ rows) n h =
    let r = rises bound c rows h in
    (r.below_bound, parent_before c rows n.0 r.rest (place c rows r.in_place).does_hang, rows_in_order_falling c.name.0 rows n.1 r.rest)

-- ---- what takes an ancestor takes its descendants

abbrev pub Spreads : (ℕ → Bool) → List Cap → Type 0
Spreads hit rows = All (λ c. hit c.parent.0 ≡ true → hit c.name.0 ≡ true) rows

module _ (bound : ℕ) (rows : List Cap) (n : Named rows) (h : rows_in_order bound rows ≡ true) where
  pub steps : All (λ c. ancestry (derivations rows) c.name.0 ≡ derivation c ∷ ancestry (derivations rows) c.parent.0) rows
  steps = All_unmap derivation (λ b. ancestry (derivations rows) b.name ≡ b ∷ ancestry (derivations rows) b.parent) rows (All_map _ _ (λ b s. s.2) (derivations rows) (ancestry_step bound (derivations rows) (rows_in_order_falling bound rows n h)))

  pub struck_spreads : (sheet : Sheet) (is : Effect → Bool) (a : Access) (u : ℕ) (s : Span) → Spreads (struck sheet is a (derivations rows) u s) rows
  unfolding struck reached on_ancestry
  struck_spreads sheet is a u s = All_map _ _ (λ c e t. rw e (rw t (or-true (is (strike sheet a s (ancestry (derivations rows) u) (derivation c ∷ ancestry (derivations rows) c.parent.0)))))) rows steps

  -- a row is in the subtree of one of the names when it is one of them, or its parent is in one's
  pub group_step : (names : List ℕ)
      → All (λ c. in_subtrees names (ancestry (derivations rows) c.name.0) ≡ any (λ u. eqb u c.name.0) names || in_subtrees names (ancestry (derivations rows) c.parent.0)) rows
  group_step names = All_map _ _ (λ c e. rw e (any_or (λ u. eqb u c.name.0) (λ u. in_subtree u (ancestry (derivations rows) c.parent.0)) names)) rows steps

  pub dropped_spreads : (names : List ℕ) → Spreads (λ x. in_subtrees names (ancestry (derivations rows) x)) rows
  dropped_spreads names = All_map _ _ (λ c e t. rw e (rw t (or-true (any (λ u. eqb u c.name.0) names)))) rows (group_step names)

-- ---- rows kept with all above them

module _ (k : ℕ → Bool) where
  row_in_order_kept : (c : Cap) (earlier : List Cap) → eqb c.parent.0 0 || k c.parent.0 ≡ true → row_in_order c (filter (λ c. k c.name.0) earlier) ≡ row_in_order c earlier
  unfolding row_in_order parent_in_order
  row_in_order_kept c earlier h = go (test (eqb c.parent.0 0))
    where
      go : (eqb c.parent.0 0 ≡ true) ⊎ (eqb c.parent.0 0 ≡ false) → row_in_order c (filter (λ c. k c.name.0) earlier) ≡ row_in_order c earlier
      go (inl t) = rw t
      go (inr f) = let p : k c.parent.0 ≡ true = rw f at h in rw (any_kept (λ c. c.name.0) k c.parent.0 p earlier, lookup_kept k c.parent.0 p earlier)

  pub rows_in_order_kept : (bound : ℕ) (rows : List Cap) → All (λ c. k c.name.0 ≡ true → eqb c.parent.0 0 || k c.parent.0 ≡ true) rows → rows_in_order bound rows ≡ true → rows_in_order bound (filter (λ c. k c.name.0) rows) ≡ true
  unfolding rows_in_order
  rows_in_order_kept bound [] a h = refl
  rows_in_order_kept bound (c ∷ rows) a h = go (test (k c.name.0)) (rows_in_order_kept c.name.0 rows a.1 (rises bound c rows h).rest)
    where
      kept : List Cap
      kept = filter (λ c. k c.name.0) rows

      go : (k c.name.0 ≡ true) ⊎ (k c.name.0 ≡ false) → rows_in_order c.name.0 kept ≡ true → rows_in_order bound (cons_if (k c.name.0) c kept) ≡ true
      go (inl t) ih =
          let r = rises bound c rows h in
          rw t (risen bound c kept (record { below_bound = r.below_bound; in_place = row_in_order_kept c rows (a.0 t) ∙ r.in_place; rest = ih }))
      go (inr f) ih = rw f (rows_in_order_wider c.name.0 bound kept (omega (arith, (rises bound c rows h).below_bound)) ih)

-- rows taken away with all below them
module _ (hit : ℕ → Bool) where
  abbrev left : Cap → Bool
  left c = not (hit c.name.0)

  pub lookup_left : (x : ℕ) → hit x ≡ false → (rows : List Cap) → lookup x (filter left rows) ≡ lookup x rows
  lookup_left x h = lookup_kept (λ x. not (hit x)) x (ap not h)

  pub spreads_kept : (rows : List Cap) → Spreads hit rows → All (λ c. not (hit c.name.0) ≡ true → eqb c.parent.0 0 || not (hit c.parent.0) ≡ true) rows
  spreads_kept rows s = All_map _ _ (λ c up t. rw (unless (hit c.parent.0) (λ e. clash (up e) (not-true (hit c.name.0) t))) (or-true (eqb c.parent.0 0))) rows s

  rows_in_order_left : (bound : ℕ) (rows : List Cap) → Spreads hit rows → rows_in_order bound rows ≡ true → rows_in_order bound (filter left rows) ≡ true
  rows_in_order_left bound rows s = rows_in_order_kept (λ x. not (hit x)) bound rows (spreads_kept rows s)

-- ---- rows lowered with all below them

pub right_positive : (r : ℕ) → is_right r ≡ true → 1 ≤ r
right_positive zero h = clash h refl
right_positive (suc r) h = omega arith

right_lowered : (hit : Bool) (r : ℕ) → is_right r ≡ true → is_right (cond hit 1 r) ≡ true
right_lowered true r h = refl
right_lowered false r h = h

rights_lowered : (hit_child hit_parent : Bool) (r p : ℕ) → (hit_parent ≡ true → hit_child ≡ true) → 1 ≤ r → leb r p ≡ true → leb (cond hit_child 1 r) (cond hit_parent 1 p) ≡ true
rights_lowered true true r p up l h = refl
rights_lowered true false r p up l h = le-leb 1 p (omega (arith, leb-true r p h))
rights_lowered false true r p up l h = clash (up refl) refl
rights_lowered false false r p up l h = h

module _ (hit : ℕ → Bool) where
  abbrev lower : Cap → Cap
  lower c = lowered (hit c.name.0) c

  pub lookup_lower : (x : ℕ) (rows : List Cap) → any (named x) rows ≡ true → lookup x (map lower rows) ≡ lower (lookup x rows)
  unfolding lookup
  lookup_lower x [] h = clash h refl
  lookup_lower x (c ∷ rows) h = go (test (named x c)) (lookup_lower x rows)
    where
      go : (named x c ≡ true) ⊎ (named x c ≡ false) → (any (named x) rows ≡ true → lookup x (map lower rows) ≡ lower (lookup x rows))
          → cond (named x c) (lower c) (lookup x (map lower rows)) ≡ lower (cond (named x c) c (lookup x rows))
      go (inl t) ih = rw t
      go (inr f) ih = rw f (ih (rw f at h))

  row_fits_parent_lower : (c p : Cap) → (hit p.name.0 ≡ true → hit c.name.0 ≡ true) → is_right c.right ≡ true → row_fits_parent c p ≡ true → row_fits_parent (lower c) (lower p) ≡ true
  unfolding row_fits_parent
  row_fits_parent_lower c p up r h =
      let o = and_both (inside (span c) (span p) && leb c.right p.right && eqb c.depth (p.depth + 1) && leb c.depth 64) (eqb c.fresh p.fresh) h in
      let q = and_both (inside (span c) (span p) && leb c.right p.right && eqb c.depth (p.depth + 1)) (leb c.depth 64) o.0 in
      let s = and_both (inside (span c) (span p) && leb c.right p.right) (eqb c.depth (p.depth + 1)) q.0 in
      let t = and_both (inside (span c) (span p)) (leb c.right p.right) s.0 in
      rw (t.0, rights_lowered (hit c.name.0) (hit p.name.0) c.right p.right up (right_positive c.right r) t.1, s.1, q.1, o.1)

  parent_in_order_lower : (c : Cap) (earlier : List Cap) → (hit c.parent.0 ≡ true → hit c.name.0 ≡ true) → is_right c.right ≡ true → parent_in_order c earlier ≡ true → parent_in_order (lower c) (map lower earlier) ≡ true
  unfolding parent_in_order
  parent_in_order_lower c earlier up r h = go (test (eqb c.parent.0 0))
    where
      go : (eqb c.parent.0 0 ≡ true) ⊎ (eqb c.parent.0 0 ≡ false) → parent_in_order (lower c) (map lower earlier) ≡ true
      go (inl t) = rw t (rw t at h)
      go (inr f) =
          let q = parent_in_order_row_fits_parent c earlier f h in
          rw (f, any_map lower (named c.parent.0) earlier, lookup_lower c.parent.0 earlier q.0, q.0)
          (row_fits_parent_lower c (lookup c.parent.0 earlier) (λ e. up (ap hit (sym (lookup_named c.parent.0 earlier q.0)) ∙ e)) r q.1)

  row_in_order_lower : (c : Cap) (earlier : List Cap) → (hit c.parent.0 ≡ true → hit c.name.0 ≡ true) → row_in_order c earlier ≡ true → row_in_order (lower c) (map lower earlier) ≡ true
  unfolding row_in_order
  row_in_order_lower c earlier up h =
      let p = place c earlier h in
      rw (p.is_legal, right_lowered (hit c.name.0) c.right p.has_right, p.has_kind, p.has_terms) (parent_in_order_lower c earlier up p.has_right p.does_hang)

  rows_in_order_lower : (bound : ℕ) (rows : List Cap) → Spreads hit rows → rows_in_order bound rows ≡ true → rows_in_order bound (map lower rows) ≡ true
  unfolding rows_in_order
  rows_in_order_lower bound [] s h = refl
  rows_in_order_lower bound (c ∷ rows) s h =
      let r = rises bound c rows h in
      risen bound (lower c) (map lower rows) (record { below_bound = r.below_bound; in_place = row_in_order_lower c rows s.0 r.in_place; rest = rows_in_order_lower c.name.0 rows s.1 r.rest })

-- ---- rows taken away, and rows lowered

revoke_rows_in_order : (ends lowers : ℕ → Bool) (bound : ℕ) (rows : List Cap) → Spreads ends rows → Spreads lowers rows → rows_in_order bound rows ≡ true → rows_in_order bound (revoke ends lowers rows) ≡ true
unfolding revoke
revoke_rows_in_order ends lowers bound rows e l h = rows_in_order_lower lowers bound (filter (left ends) rows) (All_sub (left ends) _ rows l) (rows_in_order_left ends bound rows e h)

revoke_named : (ends lowers : ℕ → Bool) (rows : List Cap) → Named rows → Named (revoke ends lowers rows)
unfolding revoke
revoke_named ends lowers rows h = All_mapped (lower lowers) (λ c. named 0 c ≡ false) (filter (left ends) rows) (All_sub (left ends) (λ c. named 0 c ≡ false) rows h)

-- the rows that an access leaves rise as they did
pub access_rows_in_order : (sheet : Sheet) (bound : ℕ) (rows : List Cap) → Named rows → rows_in_order bound rows ≡ true → (a : Access) (u : ℕ) (s : Span) → rows_in_order bound (after_access sheet a u s rows) ≡ true
unfolding after_access
access_rows_in_order sheet bound rows n h a u s =
    revoke_rows_in_order (struck sheet is_end a (derivations rows) u s) (struck sheet is_lower a (derivations rows) u s) bound rows (struck_spreads bound rows n h sheet is_end a u s) (struck_spreads bound rows n h sheet is_lower a u s) h

pub access_named : (sheet : Sheet) (rows : List Cap) → Named rows → (a : Access) (u : ℕ) (s : Span) → Named (after_access sheet a u s rows)
unfolding after_access
access_named sheet rows n a u s = revoke_named _ _ rows n

-- ---- the whole table

pub record Ordered (t : List Cap) (i : ℕ) : Type 0 where
  pub few : leb (length t) 1024 ≡ true
  pub rest_is_empty : live_rows_first t ≡ true
  pub names_left : leb i 1000000 ≡ true
  pub rise : rows_in_order (suc i) (live_rows t) ≡ true

pub ordered : (t : List Cap) (i : ℕ) → in_order t i ≡ true → Ordered t i
unfolding in_order
ordered t i h =
    let p = and_both (leb (length t) 1024 && live_rows_first t && leb i 1000000) (rows_in_order (suc i) (live_rows t)) h in
    let q = and_both (leb (length t) 1024 && live_rows_first t) (leb i 1000000) p.0 in
    let r = and_both (leb (length t) 1024) (live_rows_first t) q.0 in
    record { few = r.0; rest_is_empty = r.1; names_left = q.1; rise = p.1 }

module _ (sheet : Sheet) (v : View) (o : Ordered v.table v.issued) where
  abbrev t : List Cap
  t = v.table

  abbrev i : ℕ
  i = v.issued

  pub next_named : (q : Request) → Named (rows_after sheet i (live_rows t) q)
  unfolding rows_after rows_without
  next_named (Single by (Create w s r)) = (ne_eqb 0 (suc i) (λ (q : 0 ≡ suc i). omega arith), access_named sheet (live_rows t) (live_named t) Writing (suc i) s)
  next_named (Single by (Borrow w u s r)) = (ne_eqb 0 (suc i) (λ (q : 0 ≡ suc i). omega arith), live_named t)
  next_named (Single by (Read u s)) = access_named sheet (live_rows t) (live_named t) Reading u.0 s
  next_named (Single by (Write u s)) = access_named sheet (live_rows t) (live_named t) Writing u.0 s
  next_named (Single by (Drop u)) = revoke_named _ _ (live_rows t) (live_named t)
  next_named (Group by names) = revoke_named _ _ (live_rows t) (live_named t)
  next_named (Mark by k) = live_named t
  next_named (Back by k) = live_named t

  pub names_enough : (q : Request) → judge v q ≡ 0 → leb (issued_after i q) 1000000 ≡ true
  unfolding refusals
  names_enough (Single by (Create w s r)) h = le-leb (suc i) 1000000 (leb-false 1000000 i (allowed v (Single by (Create w s r)) h 9))
  names_enough (Single by (Borrow w u s r)) h = le-leb (suc i) 1000000 (leb-false 1000000 i (allowed v (Single by (Borrow w u s r)) h 9))
  names_enough (Single by (Read u s)) h = o.names_left
  names_enough (Single by (Write u s)) h = o.names_left
  names_enough (Single by (Drop u)) h = o.names_left
  names_enough (Group by names) h = o.names_left
  names_enough (Mark by k) h = o.names_left
  names_enough (Back by k) h = o.names_left

  row_in_order_root : (by : Caller) (w : Option Name) (s : Span) (r : Terms) → judge v (Single by (Create w s r)) ≡ 0 → (earlier : List Cap) → row_in_order (row (root by i s r) r.right 1) earlier ≡ true
  unfolding row_in_order parent_in_order terms_in_order refusals
  row_in_order_root by w s r h earlier =
      let p = allowed v (Single by (Create w s r)) h in
      let made = root_given v by w s r h in
      let placed = or_neither (not (legal s)) (eqb r.fresh 1 && ltb 65536 (end s)) (p 3) in
      rw (not-false (legal s) placed.0, made.0.right, made.0.domain, made.0.holder, made.1, low (eqb r.fresh 1) (end s) placed.1)
    where
      low : (m : Bool) (x : ℕ) → m && ltb 65536 x ≡ false → not m || leb x 65536 ≡ true
      low true x h = le-leb x 65536 (ltb-false 65536 x h)
      low false x h = refl

  row_in_order_child : (by : Caller) (w : Option Name) (u : Name) (s : Span) (r : Terms) → judge v (Single by (Borrow w u s r)) ≡ 0 → row_in_order (row (child by i u (lookup u.0 (live_rows t)).fresh s r) r.right (suc (lookup u.0 (live_rows t)).depth)) (live_rows t) ≡ true
  unfolding row_in_order parent_in_order row_fits_parent terms_in_order refusals
  row_in_order_child by w u s r h =
      let p = allowed v (Single by (Borrow w u s r)) h in
      let c : Cap = lookup u.0 (live_rows t) in
      let made = child_given v by w s r u h in
      let parent = fitting (derivation c) (lookup_found (λ c. terms_in_order (derivation c) ≡ true) u.0 (live_rows t) (not-false (any (named u.0) (live_rows t)) (p 5)) (terms_given (suc i) (live_rows t) o.rise)) in
      let ends = and_both (leb c.start.0 s.start.0) (leb (end s) (end (span c))) (not-false (inside s (span c)) (p 6)) in
      rw (
        not-false (legal s) (p 3),
        made.0.right,
        made.1,
        made.0.domain,
        made.0.holder,
        parent.has_mark,
        lower_end (is_marked (derivation c)) (end s) (end (span c)) (leb-true (end s) (end (span c)) ends.1) parent.is_low,
        eq-eqb c.fresh c.fresh refl,
        (or_neither (eqb u.0 0) (ltb i u.0) (p 4)).0,
        not-false (any (named u.0) (live_rows t)) (p 5),
        not-false (inside s (span c)) (p 6),
        le-leb r.right c.right (ltb-false c.right r.right (p 7)),
        eq-eqb (suc c.depth) (c.depth + 1) (omega arith),
        le-leb (suc c.depth) 64 (leb-false 64 c.depth (p 8)),
      )
    where
      lower_end : (m : Bool) (x y : ℕ) → x ≤ y → not m || leb y 65536 ≡ true → not m || leb x 65536 ≡ true
      lower_end true x y l h = le-leb x 65536 (omega (arith, leb-true y 65536 h))
      lower_end false x y l h = refl

  used_rows_in_order : (a : Access) (u : ℕ) (s : Span) → rows_in_order (suc i) (after_access sheet a u s (live_rows t)) ≡ true
  used_rows_in_order = access_rows_in_order sheet (suc i) (live_rows t) (live_named t) o.rise

  without_rows_in_order : (names : List ℕ) → rows_in_order (suc i) (rows_without names (live_rows t)) ≡ true
  unfolding rows_without
  without_rows_in_order names = revoke_rows_in_order _ _ (suc i) (live_rows t) (dropped_spreads (suc i) (live_rows t) (live_named t) o.rise names) (All_of _ (λ c e. e) (live_rows t)) o.rise

  pub next_rows_in_order : (q : Request) → judge v q ≡ 0 → rows_in_order (suc (issued_after i q)) (rows_after sheet i (live_rows t) q) ≡ true
  unfolding rows_after refusals
  next_rows_in_order (Single by (Create w s r)) h =
      let left : List Cap = after_access sheet Writing (suc i) s (live_rows t) in
      risen (suc (suc i)) (row (root by i s r) r.right 1) left (record { below_bound = omega arith; in_place = row_in_order_root by w s r h left; rest = used_rows_in_order Writing (suc i) s })
  next_rows_in_order (Single by (Borrow w u s r)) h =
      risen (suc (suc i)) (row (child by i u (lookup u.0 (live_rows t)).fresh s r) r.right (suc (lookup u.0 (live_rows t)).depth)) (live_rows t) (record { below_bound = omega arith; in_place = row_in_order_child by w u s r h; rest = o.rise })
  next_rows_in_order (Single by (Read u s)) h = used_rows_in_order Reading u.0 s
  next_rows_in_order (Single by (Write u s)) h = used_rows_in_order Writing u.0 s
  next_rows_in_order (Single by (Drop u)) h = without_rows_in_order (u.0 ∷ [])
  next_rows_in_order (Group by names) h = without_rows_in_order names
  next_rows_in_order (Mark by k) h = o.rise
  next_rows_in_order (Back by k) h = o.rise

  -- a new row over what is left of the rows fits: by an empty row, or by the limits' sum
  new_fits : (limits : Limits) (c : Cap) (left : List Cap) → refused_sheet t limits ≡ false → no_row limits (live_rows t) (length t) ≡ false → limit_reached limits (live_rows t) c.maker ≡ false
      → ((d : ℕ) → made d left ≤ made d (live_rows t)) → length left ≤ length (live_rows t) → All (λ c. terms_in_order (derivation c) ≡ true) (c ∷ left) → length (c ∷ left) ≤ length t
  unfolding refused_sheet no_row limit_reached
  new_fits Unlimited c left r n l f k a = omega (arith, k, leb-false (length t) (length (live_rows t)) n)
  new_fits (Limited sheet) c left r n l f k a =
      let p = or_neither (not (eqb (length sheet) 64)) (ltb (length t) (sum sheet) || exceeds 0 (live_rows t) sheet) r in
      let q = or_neither (ltb (length t) (sum sheet)) (exceeds 0 (live_rows t) sheet) p.1 in
      omega (
        arith,
        ltb-false (length t) (sum sheet) q.0,
        fewer_than_limits sheet 0 (c ∷ left) (All_map _ _ (domain (eqb-true (length sheet) 64 (not-false (eqb (length sheet) 64) p.0))) (c ∷ left) a)
            (exceeds_new c left 0 c.maker sheet (omega arith) (omega (arith, f c.maker, leb-false (get_or sheet c.maker 0) (made c.maker (live_rows t)) l)) (exceeds_fewer (live_rows t) left f 0 sheet q.1)),
      )
    where
      domain : length sheet ≡ 64 → (c : Cap) → terms_in_order (derivation c) ≡ true → (0 ≤ c.maker) × (c.maker < 0 + length sheet)
      domain e c h = let l = ltb-true c.maker 64 (fitting (derivation c) h).has_domain in (omega arith, omega arith)

  pub next_fits : (q : Request) → judge v q ≡ 0 → length (rows_after sheet i (live_rows t) q) ≤ length t
  unfolding rows_after after_access rows_without refusals
  next_fits (Single by (Create w s r)) h =
      new_fits by.limits (row (root by i s r) r.right 1) (after_access sheet Writing (suc i) s (live_rows t)) (sheet_allowed v (Single by (Create w s r)) h) (allowed v (Single by (Create w s r)) h 10) (allowed v (Single by (Create w s r)) h 18)
      (λ d. made_revoke d _ _ (live_rows t)) (access_fits sheet Writing (suc i) s (live_rows t)) (terms_given (suc (suc i)) (row (root by i s r) r.right 1 ∷ after_access sheet Writing (suc i) s (live_rows t)) (next_rows_in_order (Single by (Create w s r)) h))
  next_fits (Single by (Borrow w u s r)) h =
      let c : Cap = row (child by i u (lookup u.0 (live_rows t)).fresh s r) r.right (suc (lookup u.0 (live_rows t)).depth) in
      new_fits by.limits c (live_rows t) (sheet_allowed v (Single by (Borrow w u s r)) h) (allowed v (Single by (Borrow w u s r)) h 10) (allowed v (Single by (Borrow w u s r)) h 18)
      (λ d. omega arith) (omega arith) (terms_given (suc (suc i)) (c ∷ live_rows t) (next_rows_in_order (Single by (Borrow w u s r)) h))
  next_fits (Single by (Read u s)) h = revoke_fits _ _ (live_rows t) (length t) (length_live t)
  next_fits (Single by (Write u s)) h = revoke_fits _ _ (live_rows t) (length t) (length_live t)
  next_fits (Single by (Drop u)) h = revoke_fits _ _ (live_rows t) (length t) (length_live t)
  next_fits (Group by names) h = revoke_fits _ _ (live_rows t) (length t) (length_live t)
  next_fits (Mark by k) h = length_live t
  next_fits (Back by k) h = length_live t

  -- an allowed request keeps the rows within the sheet of limits that is lent with it
  pub exceeds_next : (limits : List ℕ) (q : Request) → (caller_of q).limits ≡ Limited limits → judge v q ≡ 0 → exceeds 0 (live_rows t) limits ≡ false → exceeds 0 (rows_after sheet i (live_rows t) q) limits ≡ false
  unfolding rows_after after_access rows_without refusals limit_reached
  exceeds_next limits (Single by (Create w s r)) l z x =
      let reached : leb (get_or limits by.actor 0) (made by.actor (live_rows t)) ≡ false = rw l at (allowed v (Single by (Create w s r)) z 18) in
      let left : List Cap = after_access sheet Writing (suc i) s (live_rows t) in
      let fewer : (d : ℕ) → made d left ≤ made d (live_rows t) = λ d. made_revoke d _ _ (live_rows t) in
      exceeds_new (row (root by i s r) r.right 1) left 0 by.actor limits (omega arith) (omega (arith, fewer by.actor, leb-false (get_or limits by.actor 0) (made by.actor (live_rows t)) reached))
      (exceeds_fewer (live_rows t) left fewer 0 limits x)
  exceeds_next limits (Single by (Borrow w u s r)) l z x =
      let reached : leb (get_or limits by.actor 0) (made by.actor (live_rows t)) ≡ false = rw l at (allowed v (Single by (Borrow w u s r)) z 18) in
      exceeds_new (row (child by i u (lookup u.0 (live_rows t)).fresh s r) r.right (suc (lookup u.0 (live_rows t)).depth)) (live_rows t) 0 by.actor limits (omega arith)
      (leb-false (get_or limits by.actor 0) (made by.actor (live_rows t)) reached) x
  exceeds_next limits (Single by (Read u s)) l z x = exceeds_fewer (live_rows t) (after_access sheet Reading u.0 s (live_rows t)) (λ d. made_revoke d _ _ (live_rows t)) 0 limits x
  exceeds_next limits (Single by (Write u s)) l z x = exceeds_fewer (live_rows t) (after_access sheet Writing u.0 s (live_rows t)) (λ d. made_revoke d _ _ (live_rows t)) 0 limits x
  exceeds_next limits (Single by (Drop u)) l z x = exceeds_fewer (live_rows t) (rows_without (u.0 ∷ []) (live_rows t)) (λ d. made_revoke d _ _ (live_rows t)) 0 limits x
  exceeds_next limits (Group by names) l z x = exceeds_fewer (live_rows t) (rows_without names (live_rows t)) (λ d. made_revoke d _ _ (live_rows t)) 0 limits x
  exceeds_next limits (Mark by k) l z x = x
  exceeds_next limits (Back by k) l z x = x

  pub sheet_next : (q : Request) → judge v q ≡ 0 → refused_sheet (lent_table (length t) (rows_after sheet i (live_rows t) q)) (caller_of q).limits ≡ false
  unfolding refused_sheet
  sheet_next q z = go (caller_of q).limits refl (sheet_allowed v q z)
    where
      go : (limits : Limits) → (caller_of q).limits ≡ limits → refused_sheet t limits ≡ false → refused_sheet (lent_table (length t) (rows_after sheet i (live_rows t) q)) limits ≡ false
      go Unlimited l r = refl
      go (Limited limits) l r =
          let p = or_neither (not (eqb (length limits) 64)) (ltb (length t) (sum limits) || exceeds 0 (live_rows t) limits) r in
          let x = or_neither (ltb (length t) (sum limits)) (exceeds 0 (live_rows t) limits) p.1 in
          rw (p.0, length_lent (length t) (rows_after sheet i (live_rows t) q) (next_fits q z), x.0, live_lent (length t) (rows_after sheet i (live_rows t) q) (next_named q)) (exceeds_next limits q l z x.1)

  -- a table as long as this one with rows that fit and rise
  lent_in_order : (rows : List Cap) (j : ℕ) → length rows ≤ length t → Named rows → leb j 1000000 ≡ true → rows_in_order (suc j) rows ≡ true → in_order (lent_table (length t) rows) j ≡ true
  unfolding in_order
  lent_in_order rows j l n b h = rw (length_lent (length t) rows l, o.few, live_rows_first_lent (length t) rows n, b, live_lent (length t) rows n) h

  pub order_next : (q : Request) → judge v q ≡ 0 → in_order (lent_table (length t) (rows_after sheet i (live_rows t) q)) (issued_after i q) ≡ true
  order_next q h = lent_in_order (rows_after sheet i (live_rows t) q) (issued_after i q) (next_fits q h) (next_named q) (names_enough q h) (next_rows_in_order q h)

  -- an access through any name leaves a table in order; so does the half of a create that takes rows away
  pub access_in_order : (a : Access) (u : ℕ) (s : Span) → in_order (lent_table (length t) (after_access sheet a u s (live_rows t))) i ≡ true
  access_in_order a u s =
      lent_in_order (after_access sheet a u s (live_rows t)) i (omega (arith, access_fits sheet a u s (live_rows t), length_live t)) (access_named sheet (live_rows t) (live_named t) a u s) o.names_left (used_rows_in_order a u s)

-- what a back brings, where it is allowed: a table that is fit with the sheet of limits lent with it, and has as many rows as the present one
pub record Brought (limits : Limits) (present table : List Cap) (issued : ℕ) : Type 0 where
  pub fit : unfit_table limits table issued ≡ false
  pub size : length table ≡ length present

pub brought : (h : State) (by : Caller) (k : ℕ) → judge (view h) (Back by k) ≡ 0 → Brought by.limits h.memory.table (stored_or h.memory (get_or h.slots k Nothing)).table h.tally.issued
unfolding unfit_slot
brought h by k z = go (get_or h.slots k Nothing) (stored_fit (view h) (Back by k) z)
  where
    go : (s : Slot Memory) → unfit_slot by.limits (length h.memory.table) h.tally.issued (table_in s) ≡ false → Brought by.limits h.memory.table (stored_or h.memory s).table h.tally.issued
    go Nothing f = record { fit = fit_table by.limits (view h) (is_fit (view h) (Back by k) z); size = refl }
    go (Stored m) f =
        let p = or_neither (not (eqb (length m.table) (length h.memory.table))) (unfit_table by.limits m.table h.tally.issued) f in
        record { fit = p.1; size = eqb-true (length m.table) (length h.memory.table) (not-false (eqb (length m.table) (length h.memory.table)) p.0) }

-- its parts
module _ (h : State) (by : Caller) (k : ℕ) (z : judge (view h) (Back by k) ≡ 0) where
  abbrev came : List Cap
  came = (stored_or h.memory (get_or h.slots k Nothing)).table

  parts : (not (in_order came h.tally.issued) ≡ false) × (refused_sheet came by.limits ≡ false)
  parts = or_neither (not (in_order came h.tally.issued)) (refused_sheet came by.limits) (brought h by k z).fit

  pub brought_order : in_order came h.tally.issued ≡ true
  brought_order = not-false (in_order came h.tally.issued) parts.0

  pub brought_sheet : refused_sheet came by.limits ≡ false
  brought_sheet = parts.1

order_outcome : (sheet : Sheet) (h : State) (q : Request) (j : ℕ) → judge (view h) q ≡ j → in_order h.memory.table h.tally.issued ≡ true
    → in_order (Step.outcome sheet j h q).memory.table (Step.outcome sheet j h q).tally.issued ≡ true
order_outcome sheet h (Single by e) zero z o =
    rw (counted_issued (Single by e) h.tally) (order_next sheet (view h) (ordered h.memory.table h.tally.issued o) (Single by e) z)
order_outcome sheet h (Group by names) zero z o = order_next sheet (view h) (ordered h.memory.table h.tally.issued o) (Group by names) z
order_outcome sheet h (Mark by k) zero z o = o
order_outcome sheet h (Back by k) zero z o = brought_order h by k z
order_outcome sheet h q (suc zero) z o = o
order_outcome sheet h q (suc (suc j)) z o = o

-- A table in order is in order after every request.
pub order_after : (sheet : Sheet) (h : State) (q : Request) → in_order h.memory.table h.tally.issued ≡ true → in_order (Step.after sheet h q).memory.table (Step.after sheet h q).tally.issued ≡ true
unfolding Step.after
order_after sheet h q = order_outcome sheet h q (judge (view h) q) refl

-- a sheet of limits that is not refused stays so
sheet_outcome : (sheet : Sheet) (h : State) (q : Request) (j : ℕ) → judge (view h) q ≡ j → in_order h.memory.table h.tally.issued ≡ true → refused_sheet h.memory.table (caller_of q).limits ≡ false
    → refused_sheet (Step.outcome sheet j h q).memory.table (caller_of q).limits ≡ false
sheet_outcome sheet h (Single by e) zero z o l = sheet_next sheet (view h) (ordered h.memory.table h.tally.issued o) (Single by e) z
sheet_outcome sheet h (Group by names) zero z o l = sheet_next sheet (view h) (ordered h.memory.table h.tally.issued o) (Group by names) z
sheet_outcome sheet h (Mark by k) zero z o l = l
sheet_outcome sheet h (Back by k) zero z o l = brought_sheet h by k z
sheet_outcome sheet h q (suc zero) z o l = l
sheet_outcome sheet h q (suc (suc j)) z o l = l

sheet_after : (sheet : Sheet) (h : State) (q : Request) → in_order h.memory.table h.tally.issued ≡ true → refused_sheet h.memory.table (caller_of q).limits ≡ false
    → refused_sheet (Step.after sheet h q).memory.table (caller_of q).limits ≡ false
unfolding Step.after
sheet_after sheet h q = sheet_outcome sheet h q (judge (view h) q) refl

-- ---- sizes

-- what is stored has as many bytes as are lent
abbrev pub SizedSlot : Slot Memory → Type 0
SizedSlot = InSlot (λ m. length m.bits ≡ 8192)

pub none_sized : All SizedSlot unstored
none_sized = All_replicate SizedSlot Nothing tt 8

-- a request keeps the number of bytes, where what is stored has as many
size_outcome : (sheet : Sheet) (h : State) (q : Request) (j : ℕ) → All SizedSlot h.slots → length h.memory.bits ≡ 8192 → length (Step.outcome sheet j h q).memory.bits ≡ 8192
size_outcome sheet h (Single by e) zero a l = length_after h.memory.bits (Single by e) ∙ l
size_outcome sheet h (Group by names) zero a l = length_after h.memory.bits (Group by names) ∙ l
size_outcome sheet h (Mark by k) zero a l = l
size_outcome sheet h (Back by k) zero a l = in_stored (λ m. length m.bits ≡ 8192) h.memory l (get_or h.slots k Nothing) (All_get_d SizedSlot h.slots Nothing tt a k)
size_outcome sheet h q (suc zero) a l = l
size_outcome sheet h q (suc (suc j)) a l = l

size_after : (sheet : Sheet) (h : State) (q : Request) → All SizedSlot h.slots → length h.memory.bits ≡ 8192 → length (Step.after sheet h q).memory.bits ≡ 8192
unfolding Step.after
size_after sheet h q = size_outcome sheet h q (judge (view h) q)

-- and what is stored keeps having them
sized_outcome : (sheet : Sheet) (h : State) (q : Request) (j : ℕ) → All SizedSlot h.slots → length h.memory.bits ≡ 8192 → All SizedSlot (Step.outcome sheet j h q).slots
sized_outcome sheet h (Single by e) zero a l = a
sized_outcome sheet h (Group by names) zero a l = a
sized_outcome sheet h (Mark by k) zero a l = All_set SizedSlot h.slots k (Stored h.memory) l a
sized_outcome sheet h (Back by k) zero a l = a
sized_outcome sheet h q (suc zero) a l = a
sized_outcome sheet h q (suc (suc j)) a l = a

pub sized_after : (sheet : Sheet) (h : State) (q : Request) → All SizedSlot h.slots → length h.memory.bits ≡ 8192 → All SizedSlot (Step.after sheet h q).slots
unfolding Step.after
sized_after sheet h q = sized_outcome sheet h q (judge (view h) q)

-- no request makes slots more or fewer
pub slots_after_lem : (sheet : Sheet) (h : State) (q : Request) → length (Step.after sheet h q).slots ≡ length h.slots
unfolding Step.after
slots_after_lem sheet h q = go (judge (view h) q)
  where
    go : (j : ℕ) → length (Step.outcome sheet j h q).slots ≡ length h.slots
    go zero = slots_size h.memory h.slots q
    go (suc zero) = refl
    go (suc (suc j)) = refl

-- What is fit, with the sheet of limits that is lent with a request, stays fit with it, where all that is stored has as many bytes as are lent: how
-- many bytes are stored is nowhere judged.
pub fit_after : (sheet : Sheet) (h : State) (q : Request) → All SizedSlot h.slots → unfit (caller_of q).limits (view h) ≡ false → unfit (caller_of q).limits (view (Step.after sheet h q)) ≡ false
fit_after sheet h q a f =
    let limits = (caller_of q).limits in
    fit_all limits (view (Step.after sheet h q)) (order_after sheet h q (fit_order limits (view h) f)) (sheet_after sheet h q (fit_order limits (view h) f) (fit_sheet limits (view h) f)) (size_after sheet h q a (fit_size limits (view h) f)) (slots_after_lem sheet h q ∙ fit_slots limits (view h) f)

pub order_final : (sheet : Sheet) (qs : List Request) (h : State) → in_order h.memory.table h.tally.issued ≡ true → in_order (final (Step.after sheet) h qs).memory.table (final (Step.after sheet) h qs).tally.issued ≡ true
order_final sheet [] h o = o
order_final sheet (q ∷ qs) h o = order_final sheet qs (Step.after sheet h q) (order_after sheet h q o)

-- Zero rows are in order, up to 1,024 of them.
pub order_fresh : (n : ℕ) (t : Tally) → n ≤ 1024 → t.issued ≡ 0 → in_order (Step.initial n t).memory.table t.issued ≡ true
unfolding in_order live_rows rows_in_order
order_fresh n t l z = rw (z, length-replicate n empty_row, le-leb n 1024 l, live_rows_first_zeros n, filter_none (λ c. not (named 0 c)) empty_row refl n)
