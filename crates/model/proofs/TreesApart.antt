-- Trees apart: no two live roots share an address, so what goes through a name stays in that name's tree.
-- Assumes nothing.
use Rattle.std.specs.Prelude.{Option}
use mathlib.Core.Path.{◌≡◌, refl, sym, ap, ap₂, ◌∙◌}
use mathlib.Core.Logic.{◌⊎◌, inl, inr}
use mathlib.Core.Bool.{Bool, true, false, not, cond, ◌&&◌, ◌||◌, or-true}
use mathlib.Core.List.{List, [], ◌∷◌, map-map}
use Prim.Native.Nat.{ℕ, zero, suc, ◌+◌, ◌<◌, ◌≤◌}
use native.Mathlib.Omega.{arith}
use lib.Dec.{eqb, leb, ltb}
use lib.ListN.{length, get_or}
use borrow.Author.Tests.{eqb-true, eq-eqb, ne_eqb, leb-true, le-leb, lt-leb, not-true, not-false}
use Rattle.model.specs.declared.Span.{Span}
use Rattle.model.specs.declared.Cap.{Cap}
use Rattle.model.specs.declared.Name.{Name}
use Rattle.model.specs.declared.Terms.{Terms}
use Rattle.model.specs.declared.Tally.{Tally}
use Rattle.model.specs.declared.Sheet.{Sheet}
use Rattle.model.specs.declared.Event.TheVariants.{Create, Borrow, Read, Write, Drop}
use Rattle.model.specs.declared.Access.{Access}
use Rattle.model.specs.declared.Access.TheVariants.{Reading, Writing}
use Rattle.model.specs.declared.Origin.TheVariants.{Stranger}
use Rattle.model.specs.Requests.{Unlimited, Caller, Request, Single, Group, Mark, Back, caller_of, turns_state, is_back}
use Rattle.model.specs.Slots.{Memory, Slot, Nothing, Stored}
use Rattle.model.specs.Strike.{is_lower, is_end, result_of, struck}
use Rattle.model.specs.Lists.{cons_if, filter, any, all, first, final}
use Rattle.model.specs.Values.{end, inside, touches}
use Rattle.model.specs.Derivation.{Derivation, ancestry}
use Rattle.model.specs.Table.{row, empty_row, span, derivation, derivations, named, live_rows, lookup, row_fits_parent, parent_in_order, rows_in_order, in_order}
use Rattle.model.specs.Sheet6.{sheet6}
use Rattle.model.specs.Effects.{lowered, revoke, after_access, in_subtrees, rows_without, root, child, rows_after, new_name, issued_after}
use Rattle.model.specs.Refusals.{room, not_written, standings, checks, unfit, refusals, judge}
use Rattle.model.specs.Bits.{bit_at}
use Rattle.model.specs.Limits.{refused_sheet, no_row, limit_reached}
use Rattle.model.specs.Step.{State, view, initial, outcome, after, state_after}
use Rattle.model.specs.TreesApart.{StrangersEnd, last_name, root_of, tree, is_root, roots_apart, stays_in, concerns, tree_after, live, tree_alone, TreesApart}
use Rattle.model.proofs.Lists.{All, All_map, All_of, All_sub, All_filter, All_unfilter, All_zip, All_mapped, All_unmap, All_get_d, All_replicate, All_set, any_kept, test, clash, unless, and_both, or_neither, any_false, any_none, any_found, of_all, all_of, passes, filter_cong, filter_nothing}
use Rattle.model.proofs.Slots.{InSlot, in_stored}
use Rattle.model.proofs.Ancestries.{Falling, Closed, same, below_differs, ancestry_here, ancestry_past}
use Rattle.model.proofs.Lent.{Named, no_rows, live_lent, length_lent, lookup_kept, lookup_found, lookup_named, lookup_none}
use Rattle.model.proofs.Order.{Ordered, ordered, live_rows_first_lent, rows_in_order_kept, rows_in_order_wider, spreads_kept, live_named, next_named, next_rows_in_order, Spreads, struck_spreads, dropped_spreads, access_rows_in_order, access_named, rises, steps, place, found_below, parent_in_order_row_fits_parent, rows_in_order_falling}
use Rattle.model.proofs.Judged.{allowed, in_order_lem, fit_order, fit_size, fit_slots, fit_all, no_slot, works_memory, stores_nothing, counted_issued}
use Rattle.model.proofs.Match.{count_raised}
use Rattle.model.proofs.Rows.{lookup_each, found_each, no_ancestry}
use Rattle.model.proofs.Parts.{part, revoke_found, revoke_part, revoke_all, ancestry_part, access_spared, without_spared, access_part, without_part}
use Rattle.model.proofs.Fresh.{stranger_takes_lem}
use Rattle.model.proofs.Addresses.{shared, touching, touches_none, inside_each}

-- ---- a row under its root

-- the last of a longer ancestry is the last of what goes on above
last_grown : (x y : ℕ) (up : List Derivation) → any (λ d. true) up ≡ true → last_name x up ≡ last_name y up
unfolding last_name
last_grown x y [] h = clash h refl
last_grown x y (d ∷ up) h = refl

inside_itself : (s : Span) → inside s s ≡ true
inside_itself s = rw (le-leb s.start.0 s.start.0 (omega arith), le-leb (end s) (end s) (omega arith))

inside_further : (s t v : Span) → inside s t ≡ true → inside t v ≡ true → inside s v ≡ true
inside_further s t v h k =
    let p = and_both (leb t.start.0 s.start.0) (leb (end s) (end t)) h in
    let q = and_both (leb v.start.0 t.start.0) (leb (end t) (end v)) k in
    rw (
      le-leb v.start.0 s.start.0 (omega (arith, leb-true t.start.0 s.start.0 p.0, leb-true v.start.0 t.start.0 q.0)),
      le-leb (end s) (end v) (omega (arith, leb-true (end s) (end t) p.1, leb-true (end t) (end v) q.1)),
    )

-- the last of an ancestry has a row, with parent 0, that the row lies inside
record Under (rows : List Cap) (c : Cap) (up : List Derivation) : Type 0 where
  lives : any (named (last_name 0 up)) rows ≡ true
  is_root_lem : is_root (lookup (last_name 0 up) rows) ≡ true
  is_reference : (lookup (last_name 0 up) rows).kind ≡ 0
  within_root : inside (span c) (span (lookup (last_name 0 up) rows)) ≡ true
  root_on : (p : Derivation → Bool) → p (derivation (lookup (last_name 0 up) rows)) ≡ true → any p up ≡ true

under_wider : (d : Cap) (rows : List Cap) (c : Cap) (up : List Derivation) → rows_in_order d.name.0 rows ≡ true → Under rows c up → Under (d ∷ rows) c up
unfolding lookup
under_wider d rows c up h u =
    let e : named (last_name 0 up) d ≡ false = below_differs (found_below d.name.0 rows (last_name 0 up) h u.lives) in
    record { lives = rw (e) u.lives; is_root_lem = rw e u.is_root_lem; is_reference = rw e u.is_reference; within_root = rw e u.within_root; root_on = rw e u.root_on }

under_itself : (c : Cap) (rows : List Cap) → is_root c ≡ true → parent_in_order c rows ≡ true → Under (c ∷ rows) c (derivation c ∷ [])
unfolding lookup last_name parent_in_order
under_itself c rows r h =
    let p = and_both (eqb c.depth 1) (eqb c.kind 0) (rw r at h) in
    let e : named c.name.0 c ≡ true = same c.name.0 in
    record {
      lives = rw e;
      is_root_lem = rw e r;
      is_reference = rw e (eqb-true c.kind 0 p.1);
      within_root = rw e (inside_itself (span c));
      root_on = rw e (λ p h. rw h);
    }

under_parent : (c p : Cap) (rows : List Cap) (up : List Derivation) → inside (span c) (span p) ≡ true → Under rows p up → Under rows c (derivation c ∷ up)
unfolding last_name
under_parent c p rows up i u =
    let e : last_name c.name.0 up ≡ last_name 0 up = last_grown c.name.0 0 up (u.root_on (λ d. true) refl) in
    record {
      lives = rw e u.lives;
      is_root_lem = rw e u.is_root_lem;
      is_reference = rw e u.is_reference;
      within_root = rw e (inside_further (span c) (span p) (span (lookup (last_name 0 up) rows)) i u.within_root);
      root_on = rw e (λ t h. rw (u.root_on t h) (or-true (t (derivation c))));
    }

fits_inside : (c p : Cap) → row_fits_parent c p ≡ true → inside (span c) (span p) ≡ true
unfolding row_fits_parent
fits_inside c p h =
    let m = and_both (inside (span c) (span p) && leb c.right p.right && eqb c.depth (p.depth + 1) && leb c.depth 64) (eqb c.fresh p.fresh) h in
    let d = and_both (inside (span c) (span p) && leb c.right p.right && eqb c.depth (p.depth + 1)) (leb c.depth 64) m.0 in
    let o = and_both (inside (span c) (span p) && leb c.right p.right) (eqb c.depth (p.depth + 1)) d.0 in
    (and_both (inside (span c) (span p)) (leb c.right p.right) o.0).0

-- every row of a table in order
Rooted : List Cap → Cap → Type 0
Rooted rows c = Under rows c (ancestry (derivations rows) c.name.0)

rooted_next : (bound : ℕ) (c : Cap) (rows : List Cap) → Named (c ∷ rows) → rows_in_order bound (c ∷ rows) ≡ true → All (Rooted rows) rows → All (Rooted (c ∷ rows)) (c ∷ rows)
unfolding Rooted lookup
rooted_next bound c rows n h ih = (
  rw (ancestry_here (derivation c) (derivations rows) c.name.0 (same c.name.0)) (here (test (is_root c))),
  All_map _ _ later rows (All_zip _ _ rows (lookup_each c.name.0 rows earlier) ih),
)
  where
    earlier : rows_in_order c.name.0 rows ≡ true
    earlier = (rises bound c rows h).rest

    hangs : parent_in_order c rows ≡ true
    hangs = (place c rows (rises bound c rows h).in_place).does_hang

    later : (e : Cap) → ((e.name.0 < c.name.0) × (lookup e.name.0 rows ≡ e)) × Rooted rows e → Rooted (c ∷ rows) e
    later e (l, u) = rw (ancestry_past (derivation c) (derivations rows) e.name.0 (below_differs l.0)) (under_wider c rows e (ancestry (derivations rows) e.name.0) earlier u)

    here : (is_root c ≡ true) ⊎ (is_root c ≡ false) → Under (c ∷ rows) c (derivation c ∷ ancestry (derivations rows) c.parent.0)
    here (inl r) =
        let none : ancestry (derivations rows) c.parent.0 ≡ [] = ap (ancestry (derivations rows)) (eqb-true c.parent.0 0 r) ∙ no_ancestry c.name.0 rows n.1 earlier in
        rw none (under_itself c rows r hangs)
    here (inr r) =
        let q = parent_in_order_row_fits_parent c rows r hangs in
        let p : Cap = lookup c.parent.0 rows in
        let u : Under rows p (ancestry (derivations rows) c.parent.0) = rw (lookup_named c.parent.0 rows q.0) at (lookup_found (Rooted rows) c.parent.0 rows q.0 ih) in
        under_wider c rows c (derivation c ∷ ancestry (derivations rows) c.parent.0) earlier (under_parent c p rows (ancestry (derivations rows) c.parent.0) (fits_inside c p q.1) u)

rooted : (bound : ℕ) (rows : List Cap) → Named rows → rows_in_order bound rows ≡ true → All (Rooted rows) rows
rooted bound [] n h = tt
rooted bound (c ∷ rows) n h = rooted_next bound c rows n h (rooted c.name.0 rows n.1 (rises bound c rows h).rest)

-- the name x is in the tree of r
abbrev in_tree : List Cap → ℕ → ℕ → Bool
in_tree rows r x = eqb r (root_of rows x)

-- ---- spans

touches_back : (s t : Span) → touches s t ≡ false → touches t s ≡ false
touches_back s t f = unless (touches t s) (λ e. let a = shared t s e in clash (touching s t a.0 a.1.1 a.1.0) f)

-- what lies inside spans that share no address
touches_inside : (s t v w : Span) → inside s v ≡ true → inside t w ≡ true → touches v w ≡ false → touches s t ≡ false
touches_inside s t v w i j f = unless (touches s t) (λ e. let a = shared s t e in clash (touching v w a.0 (inside_each s v i a.0 a.1.0) (inside_each t w j a.0 a.1.1)) f)

-- two roots of different names
roots_differ : (rows : List Cap) → roots_apart rows ≡ true → (x y : ℕ) → any (named x) rows ≡ true → any (named y) rows ≡ true → is_root (lookup x rows) ≡ true → is_root (lookup y rows) ≡ true → eqb x y ≡ false
    → touches (span (lookup x rows)) (span (lookup y rows)) ≡ false
unfolding roots_apart lookup
roots_differ [] a x y e f r t d = clash e refl
roots_differ (c ∷ rows) a x y e f r t d = go (test (named x c)) (test (named y c)) (roots_differ rows p.1 x y)
  where
    p : (all (λ d. not (is_root c && (is_root d && touches (span c) (span d)))) rows ≡ true) × (roots_apart rows ≡ true)
    p = and_both (all (λ d. not (is_root c && (is_root d && touches (span c) (span d)))) rows) (roots_apart rows) a

    off : (z : ℕ) → any (named z) rows ≡ true → is_root c ≡ true → is_root (lookup z rows) ≡ true → touches (span c) (span (lookup z rows)) ≡ false
    off z e r t = not-true (touches (span c) (span (lookup z rows))) (rw (r, t) at (lookup_found (λ d. not (is_root c && (is_root d && touches (span c) (span d))) ≡ true) z rows e (of_all _ rows p.0)))

    go : (named x c ≡ true) ⊎ (named x c ≡ false) → (named y c ≡ true) ⊎ (named y c ≡ false)
        → (any (named x) rows ≡ true → any (named y) rows ≡ true → is_root (lookup x rows) ≡ true → is_root (lookup y rows) ≡ true → eqb x y ≡ false → touches (span (lookup x rows)) (span (lookup y rows)) ≡ false)
        → touches (span (cond (named x c) c (lookup x rows))) (span (cond (named y c) c (lookup y rows))) ≡ false
    go (inl m) (inl k) ih = clash (eq-eqb x y (eqb-true x c.name.0 m ∙ sym (eqb-true y c.name.0 k))) d
    go (inl m) (inr k) ih = rw (m, k) (off y (rw k at f) (rw m at r) (rw k at t))
    go (inr m) (inl k) ih = rw (m, k) (touches_back (span c) (span (lookup x rows)) (off x (rw m at e) (rw k at t) (rw m at r)))
    go (inr m) (inr k) ih = rw (m, k) (ih (rw m at e) (rw k at f) (rw m at r) (rw k at t) d)

-- ---- a tree of rows in order

module _ (bound : ℕ) (rows : List Cap) (n : Named rows) (h : rows_in_order bound rows ≡ true) where
  falls : Falling bound (derivations rows)
  falls = rows_in_order_falling bound rows n h

  -- what is made from a parent is in its tree
  parent_root : All (λ c. is_root c ≡ false → root_of rows c.parent.0 ≡ root_of rows c.name.0) rows
  unfolding Rooted last_name
  parent_root = All_map _ _ up rows (All_zip _ _ rows (All_zip _ _ rows (steps bound rows n h) (lookup_each bound rows h)) (rooted bound rows n h))
    where
      D : List Derivation
      D = derivations rows

      go : (c : Cap) (above : List Derivation) → lookup c.name.0 rows ≡ c → is_root (lookup (last_name 0 (derivation c ∷ above)) rows) ≡ true → is_root c ≡ false → last_name 0 above ≡ last_name 0 (derivation c ∷ above)
      go c [] e r f = clash (ap is_root (sym e) ∙ r) f
      go c (d ∷ above) e r f = refl

      up : (c : Cap) → ((ancestry D c.name.0 ≡ derivation c ∷ ancestry D c.parent.0) × ((c.name.0 < bound) × (lookup c.name.0 rows ≡ c))) × Rooted rows c
          → is_root c ≡ false → root_of rows c.parent.0 ≡ root_of rows c.name.0
      up c ((e, q), u) f = rw e (go c (ancestry D c.parent.0) q.1 (rw e at u.is_root_lem) f)

  -- a root is its own
  root_itself : All (λ c. is_root c ≡ true → root_of rows c.name.0 ≡ c.name.0) rows
  unfolding last_name
  root_itself = All_map _ _ (λ c e t. rw e (ap (λ (x : ℕ). last_name c.name.0 (ancestry (derivations rows) x)) (eqb-true c.parent.0 0 t) ∙ ap (last_name c.name.0) (no_ancestry bound rows n h))) rows (steps bound rows n h)

  -- so a tree is a part of the forest
  tree_closed : (r : ℕ) → Closed (in_tree rows r) (derivations rows)
  tree_closed r = All_mapped derivation (λ b. in_tree rows r b.name ≡ true → eqb b.parent 0 || in_tree rows r b.parent ≡ true) rows (All_map _ _ (λ c e k. go c e k (test (is_root c))) rows parent_root)
    where
      go : (c : Cap) → (is_root c ≡ false → root_of rows c.parent.0 ≡ root_of rows c.name.0) → in_tree rows r c.name.0 ≡ true → (is_root c ≡ true) ⊎ (is_root c ≡ false) → is_root c || in_tree rows r c.parent.0 ≡ true
      go c e k (inl t) = rw t
      go c e k (inr f) = rw (f, e f) k

  -- a row of a live name
  found : (x : ℕ) → any (named x) rows ≡ true → Under rows (lookup x rows) (ancestry (derivations rows) x)
  unfolding Rooted lookup
  found x e = rw (lookup_named x rows e) at (lookup_found (Rooted rows) x rows e (rooted bound rows n h))

  root_below : (x : ℕ) → any (named x) rows ≡ true → root_of rows x < bound
  root_below x e = found_below bound rows (root_of rows x) h (found x e).lives

  -- no tree is rooted at a name that was not given out
  no_tree : (r : ℕ) → bound ≤ r → tree rows r ≡ []
  no_tree r l = filter_nothing (λ c. in_tree rows r c.name.0) rows (All_map _ _ (λ c e. ne_eqb r (root_of rows c.name.0) (λ (q : r ≡ root_of rows c.name.0). omega (arith, root_below c.name.0 e))) rows (found_each rows))

  -- ---- roots that share no address

  module _ (a : roots_apart rows ≡ true) where
    trees_differ : (x y : ℕ) → any (named x) rows ≡ true → any (named y) rows ≡ true → eqb (root_of rows x) (root_of rows y) ≡ false → touches (span (lookup x rows)) (span (lookup y rows)) ≡ false
    trees_differ x y e f d =
        let u = found x e in
        let v = found y f in
        touches_inside (span (lookup x rows)) (span (lookup y rows)) (span (lookup (root_of rows x) rows)) (span (lookup (root_of rows y) rows)) u.within_root v.within_root
        (roots_differ rows a (root_of rows x) (root_of rows y) u.lives v.lives u.is_root_lem v.is_root_lem d)

    -- a span inside a capability touches no row of another tree
    elsewhere : (u : ℕ) (s : Span) (r : ℕ) → any (named u) rows ≡ true → inside s (span (lookup u rows)) ≡ true → eqb r (root_of rows u) ≡ false → All (λ c. in_tree rows r c.name.0 ≡ true → touches s (span c) ≡ false) rows
    elsewhere u s r e i d = All_map _ _ apart rows (All_zip _ _ rows (found_each rows) (lookup_each bound rows h))
      where
        apart : (c : Cap) → (any (named c.name.0) rows ≡ true) × ((c.name.0 < bound) × (lookup c.name.0 rows ≡ c)) → in_tree rows r c.name.0 ≡ true → touches s (span c) ≡ false
        apart c (f, q) t =
            touches_inside s (span c) (span (lookup u rows)) (span c) i (inside_itself (span c))
            (ap (λ (x : Cap). touches (span (lookup u rows)) (span x)) (sym q.1) ∙ trees_differ u c.name.0 e f (ne_eqb (root_of rows u) (root_of rows c.name.0) (λ (z : root_of rows u ≡ root_of rows c.name.0). clash (eq-eqb r (root_of rows u) (eqb-true r (root_of rows c.name.0) t ∙ sym z)) d)))

-- ---- rows that are left, and a new one

module _ (bound : ℕ) (rows : List Cap) (n : Named rows) (h : rows_in_order bound rows ≡ true) (ends lowers : ℕ → Bool) (spreads : Spreads ends rows) where
  left : Cap → Bool
  left c = not (ends c.name.0)

  left_closed : Closed (λ x. not (ends x)) (derivations rows)
  left_closed = All_mapped derivation (λ b. not (ends b.name) ≡ true → eqb b.parent 0 || not (ends b.parent) ≡ true) rows (spreads_kept ends rows spreads)

  root_left : (x : ℕ) → ends x ≡ false → root_of (revoke ends lowers rows) x ≡ root_of rows x
  unfolding revoke
  root_left x e =
      ap (last_name 0)
      (ap (λ B. ancestry B x) (map-map derivation (λ c. lowered (lowers c.name.0) c) (part (λ x. not (ends x)) rows))
      ∙ ancestry_part (λ x. not (ends x)) bound rows (falls bound rows n h) left_closed x (rw e (or-true (eqb x 0))))

  same_roots : (r : ℕ) → All (λ c. in_tree (revoke ends lowers rows) r c.name.0 ≡ in_tree rows r c.name.0) (revoke ends lowers rows)
  unfolding revoke left
  same_roots r =
      All_mapped (λ c. lowered (lowers c.name.0) c) (λ c. in_tree (revoke ends lowers rows) r c.name.0 ≡ in_tree rows r c.name.0) (filter left rows)
      (All_map _ _ (λ c k. ap (eqb r) (root_left c.name.0 (not-true (ends c.name.0) k))) (filter left rows) (passes left rows))

  tree_left : (r : ℕ) → tree (revoke ends lowers rows) r ≡ part (in_tree rows r) (revoke ends lowers rows)
  tree_left r = filter_cong (λ c. in_tree (revoke ends lowers rows) r c.name.0) (λ c. in_tree rows r c.name.0) (revoke ends lowers rows) (same_roots r)

tree_new : (c : Cap) (rows : List Cap) (r : ℕ) → All (λ e. e.name.0 < c.name.0) rows → tree (c ∷ rows) r ≡ cons_if (eqb r (last_name c.name.0 (ancestry (derivations rows) c.parent.0))) c (tree rows r)
unfolding last_name
tree_new c rows r l =
    ap₂ (λ b rest. cons_if (eqb r b) c rest)
    (ap (last_name 0) (ancestry_here (derivation c) (derivations rows) c.name.0 (same c.name.0)))
    (filter_cong (λ e. in_tree (c ∷ rows) r e.name.0) (λ e. in_tree rows r e.name.0) rows (All_map _ _ (λ e k. ap (λ B. eqb r (last_name 0 B)) (ancestry_past (derivation c) (derivations rows) e.name.0 (below_differs k))) rows l))

-- ---- roots that are left, and a new one

-- rows of which some are taken away, and others lowered, have their roots apart still
apart_left : (ends lowers : ℕ → Bool) (rows : List Cap) → roots_apart rows ≡ true → roots_apart (revoke ends lowers rows) ≡ true
unfolding revoke roots_apart
apart_left ends lowers [] a = refl
apart_left ends lowers (c ∷ rows) a = go (test (ends c.name.0)) (apart_left ends lowers rows p.1)
  where
    p : (all (λ d. not (is_root c && (is_root d && touches (span c) (span d)))) rows ≡ true) × (roots_apart rows ≡ true)
    p = and_both (all (λ d. not (is_root c && (is_root d && touches (span c) (span d)))) rows) (roots_apart rows) a

    all_left : all (λ d. not (is_root c && (is_root d && touches (span c) (span d)))) (revoke ends lowers rows) ≡ true
    all_left =
        all_of (λ d. not (is_root c && (is_root d && touches (span c) (span d)))) (revoke ends lowers rows)
        (All_mapped (λ e. lowered (lowers e.name.0) e) (λ d. not (is_root c && (is_root d && touches (span c) (span d))) ≡ true) (filter (λ e. not (ends e.name.0)) rows)
        (All_sub (λ e. not (ends e.name.0)) (λ d. not (is_root c && (is_root d && touches (span c) (span d))) ≡ true) rows (of_all _ rows p.0)))

    go : (ends c.name.0 ≡ true) ⊎ (ends c.name.0 ≡ false) → roots_apart (revoke ends lowers rows) ≡ true → roots_apart (revoke ends lowers (c ∷ rows)) ≡ true
    go (inl e) ih = rw e ih
    go (inr e) ih = rw (e, all_left) ih

-- a row that is no root stands apart from them
apart_child : (c : Cap) (rows : List Cap) → is_root c ≡ false → roots_apart rows ≡ true → roots_apart (c ∷ rows) ≡ true
unfolding roots_apart
apart_child c rows f a = rw (all_of (λ d. not (is_root c && (is_root d && touches (span c) (span d)))) rows (All_of _ (λ d. rw f) rows), a)

apart_root : (c : Cap) (rows : List Cap) → All (λ d. is_root d ≡ true → touches (span c) (span d) ≡ false) rows → roots_apart rows ≡ true → roots_apart (c ∷ rows) ≡ true
unfolding roots_apart
apart_root c rows h a = rw (all_of (λ d. not (is_root c && (is_root d && touches (span c) (span d)))) rows (All_map _ _ (λ d f. off (is_root c) (is_root d) (touches (span c) (span d)) f) rows h), a)
  where
    off : (x y z : Bool) → (y ≡ true → z ≡ false) → not (x && (y && z)) ≡ true
    off true true z f = ap not (f refl)
    off true false z f = refl
    off false y z f = refl

-- ---- what a request does to each tree

module _ (sheet : Sheet) (i : ℕ) (rows : List Cap) (n : Named rows) (h : rows_in_order (suc i) rows ≡ true) where
  abbrev rest : Access → ℕ → Span → List Cap
  rest b u s = after_access sheet b u s rows

  access_tree : (b : Access) (u : ℕ) (s : Span) (r : ℕ) → tree (rest b u s) r ≡ part (in_tree rows r) (rest b u s)
  unfolding after_access
  access_tree b u s r = tree_left (suc i) rows n h _ _ (struck_spreads (suc i) rows n h sheet is_end b u s) r

  without_tree : (names : List ℕ) (r : ℕ) → tree (rows_without names rows) r ≡ part (in_tree rows r) (rows_without names rows)
  unfolding rows_without
  without_tree names r = tree_left (suc i) rows n h _ _ (dropped_spreads (suc i) rows n h names) r

  -- an access that touches no row of a tree leaves it
  spared_tree : (b : Access) (u : ℕ) (s : Span) (r : ℕ) → All (λ c. in_tree rows r c.name.0 ≡ true → touches s (span c) ≡ false) rows → tree (rest b u s) r ≡ tree rows r
  spared_tree b u s r t = access_tree b u s r ∙ access_spared (in_tree rows r) (suc i) rows (falls (suc i) rows n h) (tree_closed (suc i) rows n h r) sheet b u s t

  -- so does a drop of names of other trees
  spared_names : (names : List ℕ) (r : ℕ) → All (λ u. in_tree rows r u ≡ false) names → tree (rows_without names rows) r ≡ tree rows r
  spared_names names r a = without_tree names r ∙ without_spared (in_tree rows r) (suc i) rows (falls (suc i) rows n h) (tree_closed (suc i) rows n h r) names (All_map _ _ (λ u f. All_of _ (off u f) rows) names a)
    where
      off : (u : ℕ) → in_tree rows r u ≡ false → (c : Cap) → in_tree rows r c.name.0 ≡ true → eqb u c.name.0 ≡ false
      off u f c t = ne_eqb u c.name.0 (λ (e : u ≡ c.name.0). clash (ap (in_tree rows r) e ∙ t) f)

  -- what is borrowed is in the tree of what it is borrowed from
  borrowed : (by : Caller) (w : Option Name) (u : Name) (s : Span) (t : Terms) (r : ℕ) → any (named u.0) rows ≡ true
      → tree (rows_after sheet i rows (Single by (Borrow w u s t))) r ≡ cons_if (in_tree rows r u.0) (row (child by i u (lookup u.0 rows).fresh s t) t.right (suc (lookup u.0 rows).depth)) (tree rows r)
  unfolding rows_after
  borrowed by w u s t r e =
      let c : Cap = row (child by i u (lookup u.0 rows).fresh s t) t.right (suc (lookup u.0 rows).depth) in
      tree_new c rows r (All_map _ _ (λ d q. q.0) rows (lookup_each (suc i) rows h))
      ∙ ap (λ (x : ℕ). cons_if (eqb r x) c (tree rows r)) (last_grown (suc i) 0 (ancestry (derivations rows) u.0) ((found (suc i) rows n h u.0 e).root_on (λ d. true) refl))

  -- what is created is in a tree of its own
  created : (by : Caller) (w : Option Name) (s : Span) (t : Terms) (r : ℕ) → tree (rows_after sheet i rows (Single by (Create w s t))) r ≡ cons_if (eqb r (suc i)) (row (root by i s t) t.right 1) (tree (rest Writing (suc i) s) r)
  unfolding rows_after last_name
  created by w s t r =
      let c : Cap = row (root by i s t) t.right 1 in
      let left_in_order = access_rows_in_order sheet (suc i) rows n h Writing (suc i) s in
      let left_named = access_named sheet rows n Writing (suc i) s in
      tree_new c (rest Writing (suc i) s) r (All_map _ _ (λ d q. q.0) (rest Writing (suc i) s) (lookup_each (suc i) (rest Writing (suc i) s) left_in_order))
      ∙ ap (λ B. cons_if (eqb r (last_name (suc i) B)) c (tree (rest Writing (suc i) s) r)) (no_ancestry (suc i) (rest Writing (suc i) s) left_named left_in_order)

  -- ---- the root of what is left

  root_stays : (ends lowers : ℕ → Bool) → Spreads ends rows → (x : ℕ) → any (named x) (revoke ends lowers rows) ≡ true → (any (named x) rows ≡ true) × (root_of (revoke ends lowers rows) x ≡ root_of rows x)
  root_stays ends lowers p x e = let q = revoke_found ends lowers x rows e in (q.0, root_left (suc i) rows n h ends lowers p x q.1)

  -- a name that is not new keeps its root as long as it lives
  pub root_after : (q : Request) (x : ℕ) → any (named x) (rows_after sheet i rows q) ≡ true → eqb x (new_name i q) ≡ false → (any (named x) rows ≡ true) × (root_of (rows_after sheet i rows q) x ≡ root_of rows x)
  unfolding rows_after after_access rows_without
  root_after (Single by (Create w s t)) x e d =
      let p = root_stays (struck sheet is_end Writing (derivations rows) (suc i) s) (struck sheet is_lower Writing (derivations rows) (suc i) s) (struck_spreads (suc i) rows n h sheet is_end Writing (suc i) s) x (rw d at e) in
      (p.0, ap (last_name 0) (ancestry_past (root by i s t) (derivations (rest Writing (suc i) s)) x d) ∙ p.1)
  root_after (Single by (Borrow w u s t)) x e d = (rw d at e, ap (last_name 0) (ancestry_past (child by i u (lookup u.0 rows).fresh s t) (derivations rows) x d))
  root_after (Single by (Read u s)) x e d = root_stays (struck sheet is_end Reading (derivations rows) u.0 s) (struck sheet is_lower Reading (derivations rows) u.0 s) (struck_spreads (suc i) rows n h sheet is_end Reading u.0 s) x e
  root_after (Single by (Write u s)) x e d = root_stays (struck sheet is_end Writing (derivations rows) u.0 s) (struck sheet is_lower Writing (derivations rows) u.0 s) (struck_spreads (suc i) rows n h sheet is_end Writing u.0 s) x e
  root_after (Single by (Drop u)) x e d = root_stays (λ y. in_subtrees (u.0 ∷ []) (ancestry (derivations rows) y)) (λ y. false) (dropped_spreads (suc i) rows n h (u.0 ∷ [])) x e
  root_after (Group by names) x e d = root_stays (λ y. in_subtrees names (ancestry (derivations rows) y)) (λ y. false) (dropped_spreads (suc i) rows n h names) x e
  root_after (Mark by k) x e d = (e, refl)
  root_after (Back by k) x e d = (e, refl)

  -- a new one is its own root, or has that of what it is borrowed from
  pub root_created : (by : Caller) (w : Option Name) (s : Span) (t : Terms) → root_of (rows_after sheet i rows (Single by (Create w s t))) (suc i) ≡ suc i
  unfolding rows_after last_name
  root_created by w s t =
      ap (last_name 0) (ancestry_here (root by i s t) (derivations (rest Writing (suc i) s)) (suc i) (same (suc i)))
      ∙ ap (last_name (suc i)) (no_ancestry (suc i) (rest Writing (suc i) s) (access_named sheet rows n Writing (suc i) s) (access_rows_in_order sheet (suc i) rows n h Writing (suc i) s))

  pub root_borrowed : (by : Caller) (w : Option Name) (u : Name) (s : Span) (t : Terms) → any (named u.0) rows ≡ true → root_of (rows_after sheet i rows (Single by (Borrow w u s t))) (suc i) ≡ root_of rows u.0
  unfolding rows_after last_name
  root_borrowed by w u s t e =
      ap (last_name 0) (ancestry_here (child by i u (lookup u.0 rows).fresh s t) (derivations rows) (suc i) (same (suc i)))
      ∙ last_grown (suc i) 0 (ancestry (derivations rows) u.0) ((found (suc i) rows n h u.0 e).root_on (λ d. true) refl)

  -- ---- a create

  module _ (s : Span) where
    untouched_tree : (r : ℕ) → touches s (span (lookup r rows)) ≡ false → tree (rest Writing (suc i) s) r ≡ tree rows r
    unfolding Rooted
    untouched_tree r f = spared_tree Writing (suc i) s r (All_map _ _ apart rows (rooted (suc i) rows n h))
      where
        apart : (c : Cap) → Rooted rows c → in_tree rows r c.name.0 ≡ true → touches s (span c) ≡ false
        apart c u t =
            touches_inside s (span c) s (span (lookup (root_of rows c.name.0) rows)) (inside_itself s) u.within_root
            (ap (λ (x : ℕ). touches s (span (lookup x rows))) (sym (eqb-true r (root_of rows c.name.0) t)) ∙ f)

    module _ (strangers_end : StrangersEnd sheet) where
      -- it ends every row below a root that it touches
      ended_below : (x : ℕ) → any (named x) rows ≡ true → touches s (span (lookup (root_of rows x) rows)) ≡ true → struck sheet is_end Writing (derivations rows) (suc i) s x ≡ true
      ended_below x e t =
          let u = found (suc i) rows n h x e in
          stranger_takes_lem sheet i rows n h s is_end refl x
          ∙ u.root_on (λ d. touches s d.span && is_end (result_of sheet d.kind Writing Stranger)) (rw (t, u.is_reference, strangers_end))

      touched_tree : (r : ℕ) → touches s (span (lookup r rows)) ≡ true → tree (rest Writing (suc i) s) r ≡ []
      unfolding after_access
      touched_tree r t =
          access_tree Writing (suc i) s r
          ∙ revoke_part (in_tree rows r) _ _ rows
          ∙ revoke_all _ _ (tree rows r) (All_filter (λ c. in_tree rows r c.name.0) (λ c. struck sheet is_end Writing (derivations rows) (suc i) s c.name.0 ≡ true) rows (All_map _ _ ends rows (found_each rows)))
        where
          ends : (c : Cap) → any (named c.name.0) rows ≡ true → in_tree rows r c.name.0 ≡ true → struck sheet is_end Writing (derivations rows) (suc i) s c.name.0 ≡ true
          ends c e k = ended_below c.name.0 e (ap (λ (x : ℕ). touches s (span (lookup x rows))) (sym (eqb-true r (root_of rows c.name.0) k)) ∙ t)

      -- so the roots that are left share no address with the new one
      apart_created : (by : Caller) (w : Option Name) (t : Terms) → roots_apart rows ≡ true → roots_apart (rows_after sheet i rows (Single by (Create w s t))) ≡ true
      unfolding rows_after after_access revoke
      apart_created by w t a =
          apart_root (row (root by i s t) t.right 1) (rest Writing (suc i) s)
          (All_mapped (λ c. lowered (struck sheet is_lower Writing (derivations rows) (suc i) s c.name.0) c) (λ d. is_root d ≡ true → touches s (span d) ≡ false) (filter left' rows)
          (All_filter left' (λ d. is_root d ≡ true → touches s (span d) ≡ false) rows (All_map _ _ off rows (All_zip _ _ rows (All_zip _ _ rows (found_each rows) (lookup_each (suc i) rows h)) (root_itself (suc i) rows n h)))))
          (apart_left (struck sheet is_end Writing (derivations rows) (suc i) s) (struck sheet is_lower Writing (derivations rows) (suc i) s) rows a)
        where
          left' : Cap → Bool
          left' c = not (struck sheet is_end Writing (derivations rows) (suc i) s c.name.0)

          off : (c : Cap) → ((any (named c.name.0) rows ≡ true) × ((c.name.0 < suc i) × (lookup c.name.0 rows ≡ c))) × (is_root c ≡ true → root_of rows c.name.0 ≡ c.name.0)
              → left' c ≡ true → is_root c ≡ true → touches s (span c) ≡ false
          off c ((e, q), f) l r =
              unless (touches s (span c)) (λ t. clash (ended_below c.name.0 e (ap (λ (x : ℕ). touches s (span (lookup x rows))) (f r) ∙ ap (λ (x : Cap). touches s (span x)) q.1 ∙ t)) (not-true (struck sheet is_end Writing (derivations rows) (suc i) s c.name.0) l))

-- ---- every request

-- what is stored is such that a back to it, when so many names have been issued, leaves rows in order with their roots apart
abbrev Grown : ℕ → Memory → Type 0
Grown i m = (rows_in_order (suc i) (live_rows m.table) ≡ true) × (roots_apart (live_rows m.table) ≡ true)

abbrev pub Planted : ℕ → Slot Memory → Type 0
Planted i = InSlot (Grown i)

-- What stays true: the live rows are in order, and their roots apart; and so are the rows of each stored table. (A table above 1,024 rows stays
-- empty.)
pub record Forest (h : State) : Type 0 where
  pub rise : rows_in_order (suc h.tally.issued) (live h) ≡ true
  pub roots_apart_lem : roots_apart (live h) ≡ true
  pub stored : All (Planted h.tally.issued) h.slots

-- as names are given, it stays so
planted_later : (i j : ℕ) → i ≤ j → (s : Slot Memory) → Planted i s → Planted j s
planted_later i j l Nothing p = tt
planted_later i j l (Stored m) p = (rows_in_order_wider (suc i) (suc j) (live_rows m.table) (omega arith) p.0, p.1)

-- a name is found among some rows as among all
abbrev pub Found : List Cap → List Cap → ℕ → Type 0
Found some rows u = (any (named u) some ≡ any (named u) rows) × (lookup u some ≡ lookup u rows)

-- so is each that a request goes through
abbrev pub AllFound : List Cap → List Cap → Request → Type 0
AllFound some rows (Single by (Create w s t)) = Unit {0}
AllFound some rows (Single by (Borrow w u s t)) = Found some rows u.0
AllFound some rows (Single by (Read u s)) = Found some rows u.0
AllFound some rows (Single by (Write u s)) = Found some rows u.0
AllFound some rows (Single by (Drop u)) = Found some rows u.0
AllFound some rows (Group by names) = All (Found some rows) names
AllFound some rows (Mark by k) = Unit {0}
AllFound some rows (Back by k) = Unit {0}

-- what stays in a tree turns no state, and what does not concern one is no back
stays_works : (rows : List Cap) (i r : ℕ) (q : Request) → stays_in rows i r q ≡ true → (turns_state q ≡ false) × (is_back q ≡ false)
unfolding stays_in
stays_works rows i r (Single by e) c = (refl, refl)
stays_works rows i r (Group by names) c = (refl, refl)
stays_works rows i r (Mark by k) c = clash c refl
stays_works rows i r (Back by k) c = clash c refl

unconcerned : (rows : List Cap) (i r : ℕ) (q : Request) → concerns rows i r q ≡ false → is_back q ≡ false
unfolding concerns
unconcerned rows i r (Single by e) c = refl
unconcerned rows i r (Group by names) c = refl
unconcerned rows i r (Mark by k) c = refl
unconcerned rows i r (Back by k) c = clash refl c

module _ (sheet : Sheet) (h : State) (f : Forest h) where
  abbrev i : ℕ
  i = h.tally.issued

  abbrev rows : List Cap
  rows = live h

  pub are_named : Named rows
  are_named = live_named h.memory.table

  falls_here : Falling (suc i) (derivations rows)
  falls_here = falls (suc i) rows are_named f.rise

  closed_here : (r : ℕ) → Closed (in_tree rows r) (derivations rows)
  closed_here = tree_closed (suc i) rows are_named f.rise

  -- a read or write of s through u leaves the other trees
  access_others : (b : Access) (u : ℕ) (s : Span) (r : ℕ) → any (named u) rows ≡ true → inside s (span (lookup u rows)) ≡ true → in_tree rows r u ≡ false → tree (after_access sheet b u s rows) r ≡ tree rows r
  access_others b u s r e k c = spared_tree sheet i rows are_named f.rise b u s r (elsewhere (suc i) rows are_named f.rise f.roots_apart_lem u s r e k c)

  -- and does in its own what it does where that stands alone
  access_own : (b : Access) (u : ℕ) (s : Span) (r : ℕ) → in_tree rows r u ≡ true → tree (after_access sheet b u s rows) r ≡ after_access sheet b u s (tree rows r)
  access_own b u s r c = access_tree sheet i rows are_named f.rise b u s r ∙ access_part (in_tree rows r) (suc i) rows falls_here (closed_here r) sheet b u s (rw c (or-true (eqb u 0)))

  without_own : (names : List ℕ) (r : ℕ) → tree (rows_without names rows) r ≡ rows_without names (tree rows r)
  without_own names r = without_tree sheet i rows are_named f.rise names r ∙ without_part (in_tree rows r) (suc i) rows falls_here (closed_here r) names

  module _ (q : Request) (z : judge (view h) q ≡ 0) where
    in_place : Ordered h.memory.table i
    in_place = ordered h.memory.table i (in_order_lem (view h) q z)

    left_rows : turns_state q ≡ false → live (outcome sheet 0 h q) ≡ rows_after sheet i rows q
    left_rows t = rw (works_memory sheet h q t) (live_lent (length h.memory.table) (rows_after sheet i rows q) (next_named sheet (view h) in_place q))

  live_outcome : (q : Request) → is_back q ≡ false → judge (view h) q ≡ 0 → live (outcome sheet 0 h q) ≡ rows_after sheet i rows q
  unfolding rows_after
  live_outcome (Single by e) b z = left_rows (Single by e) z refl
  live_outcome (Group by names) b z = left_rows (Group by names) z refl
  live_outcome (Mark by k) b z = refl
  live_outcome (Back by k) b z = clash refl b

  pub live_after : (q : Request) → is_back q ≡ false → judge (view h) q ≡ 0 → live (after sheet h q) ≡ rows_after sheet i rows q
  unfolding after
  live_after q b z = rw z (live_outcome q b z)

  others_rows : (q : Request) → judge (view h) q ≡ 0 → (r : ℕ) → concerns rows i r q ≡ false → tree (rows_after sheet i rows q) r ≡ tree rows r
  unfolding concerns rows_after refusals
  others_rows (Single by (Create w s t)) z r c =
      let p = or_neither (eqb r (suc i)) (touches s (span (lookup r rows))) c in
      created sheet i rows are_named f.rise by w s t r ∙ rw p.0 (untouched_tree sheet i rows are_named f.rise s r p.1)
  others_rows (Single by (Borrow w u s t)) z r c =
      borrowed sheet i rows are_named f.rise by w u s t r (not-false (any (named u.0) rows) (allowed (view h) (Single by (Borrow w u s t)) z 5)) ∙ rw c
  others_rows (Single by (Read u s)) z r c =
      let p = allowed (view h) (Single by (Read u s)) z in
      access_others Reading u.0 s r (not-false (any (named u.0) rows) (p 5)) (not-false (inside s (span (lookup u.0 rows))) (p 6)) c
  others_rows (Single by (Write u s)) z r c =
      let p = allowed (view h) (Single by (Write u s)) z in
      access_others Writing u.0 s r (not-false (any (named u.0) rows) (p 5)) (not-false (inside s (span (lookup u.0 rows))) (p 6)) c
  others_rows (Single by (Drop u)) z r c = spared_names sheet i rows are_named f.rise (u.0 ∷ []) r (c, tt)
  others_rows (Group by names) z r c = spared_names sheet i rows are_named f.rise names r (any_none (in_tree rows r) names c)
  others_rows (Mark by k) z r c = refl
  others_rows (Back by k) z r c = clash refl c

  others_stay : (q : Request) (r : ℕ) → concerns rows i r q ≡ false → tree (live (after sheet h q)) r ≡ tree rows r
  unfolding after
  others_stay q r c = go (judge (view h) q) refl
    where
      go : (j : ℕ) → judge (view h) q ≡ j → tree (live (outcome sheet j h q)) r ≡ tree rows r
      go zero z = ap (λ l. tree l r) (live_outcome q (unconcerned rows i r q c) z) ∙ others_rows q z r c
      go (suc zero) z = refl
      go (suc (suc j)) z = refl

  own_rows : (q : Request) → judge (view h) q ≡ 0 → (r : ℕ) → stays_in rows i r q ≡ true → tree (rows_after sheet i rows q) r ≡ rows_after sheet i (tree rows r) q
  unfolding stays_in rows_after after_access revoke refusals
  own_rows (Single by (Create w s t)) z r c =
      let new : suc i ≤ r = omega (arith, eqb-true r (suc i) c) in
      let none : tree rows r ≡ [] = no_tree (suc i) rows are_named f.rise r new in
      let none_left = no_tree (suc i) (after_access sheet Writing (suc i) s rows) (access_named sheet rows are_named Writing (suc i) s) (access_rows_in_order sheet (suc i) rows are_named f.rise Writing (suc i) s) r new in
      created sheet i rows are_named f.rise by w s t r ∙ ap₂ (λ b l. cons_if b (row (root by i s t) t.right 1) l) c none_left ∙ ap {B = List Cap} (λ l. row (root by i s t) t.right 1 ∷ after_access sheet Writing (suc i) s l) (sym none)
  own_rows (Single by (Borrow w u s t)) z r c =
      borrowed sheet i rows are_named f.rise by w u s t r (not-false (any (named u.0) rows) (allowed (view h) (Single by (Borrow w u s t)) z 5)) ∙ rw (c, lookup_kept (in_tree rows r) u.0 c rows)
  own_rows (Single by (Read u s)) z r c = access_own Reading u.0 s r c
  own_rows (Single by (Write u s)) z r c = access_own Writing u.0 s r c
  own_rows (Single by (Drop u)) z r c = without_own (u.0 ∷ []) r
  own_rows (Group by names) z r c = without_own names r
  own_rows (Mark by k) z r c = clash c refl
  own_rows (Back by k) z r c = clash c refl

  -- ---- answers in the tree alone

  -- a name of a tree is found in it
  pub in_own : (u r : ℕ) → in_tree rows r u ≡ true → Found (tree rows r) rows u
  in_own u r c = (any_kept (λ c. c.name.0) (in_tree rows r) u c rows, lookup_kept (in_tree rows r) u c rows)

  all_in_own : (q : Request) (r : ℕ) → stays_in rows i r q ≡ true → AllFound (tree rows r) rows q
  unfolding stays_in
  all_in_own (Single by (Create w s t)) r c = tt
  all_in_own (Single by (Borrow w u s t)) r c = in_own u.0 r c
  all_in_own (Single by (Read u s)) r c = in_own u.0 r c
  all_in_own (Single by (Write u s)) r c = in_own u.0 r c
  all_in_own (Single by (Drop u)) r c = in_own u.0 r c
  all_in_own (Group by names) r c = All_map _ _ (λ u e. in_own u r e) names (of_all (in_tree rows r) names c)
  all_in_own (Mark by k) r c = tt
  all_in_own (Back by k) r c = tt

  module _ (r m : ℕ) where
    abbrev own : List Cap
    own = tree rows r

    module _ (here_room : length rows < length h.memory.table) (Own_room : length own < m) where
      same_room : (by : Caller) → by.limits ≡ Unlimited → (w : Option Name) → first (room own i by m w) ≡ first (room rows i by (length h.memory.table) w)
      unfolding no_row limit_reached
      same_room by l w = rw (l, lt-leb (length h.memory.table) (length rows) here_room, lt-leb m (length own) Own_room)

      same_standings : (actor : ℕ) (names : List ℕ) → All (Found own rows) names → first (standings own i actor names) ≡ first (standings rows i actor names)
      unfolding standings
      same_standings actor [] c = refl
      same_standings actor (u ∷ names) c = rw (c.0.0, c.0.1, same_standings actor names c.1)

      same_checks : (q : Request) → (caller_of q).limits ≡ Unlimited → AllFound own rows q → first (checks own i (bit_at h.memory.bits) (view h).slot m q) ≡ first (checks rows i (bit_at h.memory.bits) (view h).slot (length h.memory.table) q)
      unfolding not_written
      same_checks (Single by (Create w s t)) l c = rw (same_room by l w)
      same_checks (Single by (Borrow w u s t)) l c = rw (c.0, c.1, same_room by l w)
      same_checks (Single by (Read u s)) l c = rw (c.0, c.1)
      same_checks (Single by (Write u s)) l c = rw (c.0, c.1)
      same_checks (Single by (Drop u)) l c = rw (c.0, c.1)
      same_checks (Group by names) l c = rw (same_standings by.actor names c)
      same_checks (Mark by k) l c = refl
      same_checks (Back by k) l c = refl

      own_named : Named own
      own_named = All_sub (λ c. in_tree rows r c.name.0) (λ c. named 0 c ≡ false) rows are_named

      own_rise : rows_in_order (suc i) own ≡ true
      own_rise = rows_in_order_kept (in_tree rows r) (suc i) rows (All_unmap derivation (λ b. in_tree rows r b.name ≡ true → eqb b.parent 0 || in_tree rows r b.parent ≡ true) rows (closed_here r)) f.rise

      own_fit : m ≤ 1024 → unfit Unlimited (view h) ≡ false → unfit Unlimited (tree_alone h m r) ≡ false
      unfolding in_order refused_sheet
      own_fit l k =
          let o = ordered h.memory.table i (fit_order Unlimited (view h) k) in
          fit_all Unlimited (tree_alone h m r) (rw (length_lent m own (omega arith), le-leb m 1024 l, live_rows_first_lent m own own_named, o.names_left, live_lent m own own_named) own_rise) refl (fit_size Unlimited (view h) k) (fit_slots Unlimited (view h) k)

      pub answered_alone : (q : Request) → turns_state q ≡ false → (caller_of q).limits ≡ Unlimited → unfit Unlimited (view h) ≡ false → AllFound own rows q → m ≤ 1024 → judge (tree_alone h m r) q ≡ judge (view h) q
      unfolding judge refusals
      answered_alone q t l k c s =
          rw (no_slot (tree_alone h m r) q t, no_slot (view h) q t, l, own_fit s k, k)
          (ap₂ (λ n o. first (checks o i (bit_at h.memory.bits) (view h).slot n q)) (length_lent m own (omega arith)) (live_lent m own own_named) ∙ same_checks q l c)

  -- ---- roots stay apart

  module _ (strangers_end : StrangersEnd sheet) where
    created_ends : (by : Caller) (w : Option Name) (s : Span) (t : Terms) (r : ℕ) → judge (view h) (Single by (Create w s t)) ≡ 0 → touches s (span (lookup r rows)) ≡ true → tree (live (after sheet h (Single by (Create w s t)))) r ≡ []
    created_ends by w s t r z k =
        ap (λ l. tree l r) (live_after (Single by (Create w s t)) refl z)
        ∙ created sheet i rows are_named f.rise by w s t r
        ∙ rw (given_out (test (any (named r) rows))) (touched_tree sheet i rows are_named f.rise s strangers_end r k)
      where
        given_out : (any (named r) rows ≡ true) ⊎ (any (named r) rows ≡ false) → eqb r (suc i) ≡ false
        given_out (inl e) = below_differs (found_below (suc i) rows r f.rise e)
        given_out (inr e) = clash k (ap (λ (c : Cap). touches s (span c)) (lookup_none r rows e) ∙ touches_back (span empty_row) s (touches_none (span empty_row) s refl))

    -- ---- every tree by itself

    -- a create that touches a row of a tree touches its root
    touches_root : (s : Span) (r : ℕ) → any (λ c. touches s (span c)) (tree rows r) ≡ true → touches s (span (lookup r rows)) ≡ true
    unfolding Rooted
    touches_root s r =
        any_found (λ c. touches s (span c)) (touches s (span (lookup r rows)) ≡ true) (tree rows r)
        (All_filter (λ c. in_tree rows r c.name.0) (λ c. touches s (span c) ≡ true → touches s (span (lookup r rows)) ≡ true) rows (All_map _ _ up rows (rooted (suc i) rows are_named f.rise)))
      where
        up : (c : Cap) → Rooted rows c → in_tree rows r c.name.0 ≡ true → touches s (span c) ≡ true → touches s (span (lookup r rows)) ≡ true
        up c u k t =
            let a = shared s (span c) t in
            ap (λ (x : ℕ). touches s (span (lookup x rows))) (eqb-true r (root_of rows c.name.0) k)
            ∙ touching s (span (lookup (root_of rows c.name.0) rows)) a.0 a.1.0 (inside_each (span c) (span (lookup (root_of rows c.name.0) rows)) u.within_root a.0 a.1.1)

    created_tree : (s : Span) (r : ℕ) → tree (after_access sheet Writing (suc i) s rows) r ≡ cond (any (λ c. touches s (span c)) (tree rows r)) [] (tree rows r)
    created_tree s r = go (test (any (λ c. touches s (span c)) (tree rows r)))
      where
        go : (any (λ c. touches s (span c)) (tree rows r) ≡ true) ⊎ (any (λ c. touches s (span c)) (tree rows r) ≡ false) → tree (after_access sheet Writing (suc i) s rows) r ≡ cond (any (λ c. touches s (span c)) (tree rows r)) [] (tree rows r)
        go (inl e) = rw e (touched_tree sheet i rows are_named f.rise s strangers_end r (touches_root s r e))
        go (inr e) = rw e (spared_tree sheet i rows are_named f.rise Writing (suc i) s r (All_unfilter (λ c. in_tree rows r c.name.0) (λ c. touches s (span c) ≡ false) rows (any_none (λ c. touches s (span c)) (tree rows r) e)))

    -- a live name is in one tree
    in_tree_lem : (u r : ℕ) → any (named u) rows ≡ true → any (named u) (tree rows r) ≡ in_tree rows r u
    in_tree_lem u r e = go (test (in_tree rows r u))
      where
        go : (in_tree rows r u ≡ true) ⊎ (in_tree rows r u ≡ false) → any (named u) (tree rows r) ≡ in_tree rows r u
        go (inl t) = any_kept (λ c. c.name.0) (in_tree rows r) u t rows ∙ e ∙ sym t
        go (inr k) =
            any_false (named u) (tree rows r) (All_filter (λ c. in_tree rows r c.name.0) (λ c. named u c ≡ false) rows (All_of _ (λ c t. ne_eqb u c.name.0 (λ (q : u ≡ c.name.0). clash (ap (in_tree rows r) q ∙ t) k)) rows))
            ∙ sym k

    -- what goes through a live name changes its own tree alone
    through : (q : Request) → judge (view h) q ≡ 0 → (u r : ℕ) → any (named u) rows ≡ true → stays_in rows i r q ≡ in_tree rows r u → concerns rows i r q ≡ in_tree rows r u
        → tree (rows_after sheet i rows q) r ≡ cond (any (named u) (tree rows r)) (rows_after sheet i (tree rows r) q) (tree rows r)
    through q z u r e a b = rw (in_tree_lem u r e) (go (test (in_tree rows r u)))
      where
        go : (in_tree rows r u ≡ true) ⊎ (in_tree rows r u ≡ false) → tree (rows_after sheet i rows q) r ≡ cond (in_tree rows r u) (rows_after sheet i (tree rows r) q) (tree rows r)
        go (inl t) = rw t (own_rows q z r (a ∙ t))
        go (inr k) = rw k (others_rows q z r (b ∙ k))

    pub each_rows : (q : Request) → judge (view h) q ≡ 0 → (r : ℕ) → tree (rows_after sheet i rows q) r ≡ tree_after sheet i r (tree rows r) q
    unfolding tree_after rows_after stays_in concerns refusals
    each_rows (Single by (Create w s t)) z r = go (test (eqb r (suc i)))
      where
        go : (eqb r (suc i) ≡ true) ⊎ (eqb r (suc i) ≡ false) → tree (rows_after sheet i rows (Single by (Create w s t))) r ≡ tree_after sheet i r (tree rows r) (Single by (Create w s t))
        go (inl e) = rw e (own_rows (Single by (Create w s t)) z r e ∙ ap (λ l. rows_after sheet i l (Single by (Create w s t))) (no_tree (suc i) rows are_named f.rise r (omega (arith, eqb-true r (suc i) e))))
        go (inr e) = created sheet i rows are_named f.rise by w s t r ∙ rw e (created_tree s r)
    each_rows (Single by (Borrow w u s t)) z r = through (Single by (Borrow w u s t)) z u.0 r (not-false (any (named u.0) rows) (allowed (view h) (Single by (Borrow w u s t)) z 5)) refl refl
    each_rows (Single by (Read u s)) z r = through (Single by (Read u s)) z u.0 r (not-false (any (named u.0) rows) (allowed (view h) (Single by (Read u s)) z 5)) refl refl
    each_rows (Single by (Write u s)) z r = through (Single by (Write u s)) z u.0 r (not-false (any (named u.0) rows) (allowed (view h) (Single by (Write u s)) z 5)) refl refl
    each_rows (Single by (Drop u)) z r = without_own (u.0 ∷ []) r
    each_rows (Group by names) z r = without_own names r
    each_rows (Mark by k) z r = refl
    each_rows (Back by k) z r = refl

    apart_rows : (q : Request) → judge (view h) q ≡ 0 → roots_apart (rows_after sheet i rows q) ≡ true
    unfolding rows_after after_access rows_without refusals
    apart_rows (Single by (Create w s t)) z = apart_created sheet i rows are_named f.rise s strangers_end by w t f.roots_apart_lem
    apart_rows (Single by (Borrow w u s t)) z =
        apart_child (row (child by i u (lookup u.0 rows).fresh s t) t.right (suc (lookup u.0 rows).depth)) rows (or_neither (eqb u.0 0) (ltb i u.0) (allowed (view h) (Single by (Borrow w u s t)) z 4)).0 f.roots_apart_lem
    apart_rows (Single by (Read u s)) z = apart_left (struck sheet is_end Reading (derivations rows) u.0 s) (struck sheet is_lower Reading (derivations rows) u.0 s) rows f.roots_apart_lem
    apart_rows (Single by (Write u s)) z = apart_left (struck sheet is_end Writing (derivations rows) u.0 s) (struck sheet is_lower Writing (derivations rows) u.0 s) rows f.roots_apart_lem
    apart_rows (Single by (Drop u)) z = apart_left (λ x. in_subtrees (u.0 ∷ []) (ancestry (derivations rows) x)) (λ x. false) rows f.roots_apart_lem
    apart_rows (Group by names) z = apart_left (λ x. in_subtrees names (ancestry (derivations rows) x)) (λ x. false) rows f.roots_apart_lem
    apart_rows (Mark by k) z = f.roots_apart_lem
    apart_rows (Back by k) z = f.roots_apart_lem

    forest_worked : (q : Request) → turns_state q ≡ false → judge (view h) q ≡ 0 → Forest (outcome sheet 0 h q)
    forest_worked q t z =
        record {
          rise = rw (left_rows q z t, counted_issued q h.tally) (next_rows_in_order sheet (view h) (in_place q z) q z);
          roots_apart_lem = rw (left_rows q z t) (apart_rows q z);
          stored = rw (stores_nothing h.memory h.slots q t, counted_issued q h.tally) (All_map _ _ (planted_later i (issued_after i q) (count_raised i q)) h.slots f.stored);
        }

    forest_outcome : (q : Request) (j : ℕ) → judge (view h) q ≡ j → Forest (outcome sheet j h q)
    forest_outcome (Single by e) zero z = forest_worked (Single by e) refl z
    forest_outcome (Group by names) zero z = forest_worked (Group by names) refl z
    forest_outcome (Mark by k) zero z = record { rise = f.rise; roots_apart_lem = f.roots_apart_lem; stored = All_set (Planted i) h.slots k (Stored h.memory) (f.rise, f.roots_apart_lem) f.stored }
    forest_outcome (Back by k) zero z =
        let p = in_stored (Grown i) h.memory (f.rise, f.roots_apart_lem) (get_or h.slots k Nothing) (All_get_d (Planted i) h.slots Nothing tt f.stored k) in
        record { rise = p.0; roots_apart_lem = p.1; stored = f.stored }
    forest_outcome q (suc zero) z = f
    forest_outcome q (suc (suc j)) z = record { rise = f.rise; roots_apart_lem = f.roots_apart_lem; stored = f.stored }

    pub forest_after : (q : Request) → Forest (after sheet h q)
    unfolding after
    forest_after q = forest_outcome q (judge (view h) q) refl

    pub trees : TreesApart sheet h
    trees = record {
      roots_apart_lem = f.roots_apart_lem;
      inside_root = λ x e. (found (suc i) rows are_named f.rise x e).within_root;
      rows_apart = trees_differ (suc i) rows are_named f.rise f.roots_apart_lem;
      others_stay = others_stay;
      create_ends = created_ends;
      as_alone = λ q r z c. ap (λ l. tree l r) (live_after q (stays_works rows i r q c).1 z) ∙ own_rows q z r c;
      each_tree = λ q b z r. ap (λ l. tree l r) (live_after q b z) ∙ each_rows q z r;
      answered_alone = λ q r m l k c here_room Own_room s. answered_alone r m here_room Own_room q (stays_works rows i r q c).0 l k (all_in_own q r c) s;
    }

forest_final : (sheet : Sheet) → StrangersEnd sheet → (qs : List Request) (h : State) → Forest h → Forest (final (after sheet) h qs)
forest_final sheet e [] h f = f
forest_final sheet e (q ∷ qs) h f = forest_final sheet e qs (after sheet h q) (forest_after sheet h f e q)

pub forest_first : (n : ℕ) (t : Tally) → Forest (initial n t)
unfolding rows_in_order roots_apart
forest_first n t = record { rise = rw (no_rows n); roots_apart_lem = rw (no_rows n); stored = All_replicate (Planted t.issued) Nothing tt 8 }

-- From an empty table, by a sheet whose strangers' writes end references, after every list of requests the trees are apart, and stay apart.
pub trees_apart : (sheet : Sheet) → StrangersEnd sheet → (n : ℕ) (t : Tally) (qs : List Request) → TreesApart sheet (state_after sheet n t qs)
trees_apart sheet e n t qs = trees sheet (state_after sheet n t qs) (forest_final sheet e qs (initial n t) (forest_first n t)) e

-- Card 6's sheet is one.
pub strangers_end : StrangersEnd sheet6
strangers_end = refl
