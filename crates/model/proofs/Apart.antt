-- Card 10: a domain's live rows stand apart from the others', and a request does to them what it would do if they stood alone.
-- Assumes nothing.
use Rattle.std.specs.Prelude.{Option}
use mathlib.Core.Path.{◌≡◌, refl, sym, ap, ap₂, ◌∙◌}
use mathlib.Core.Logic.{◌⊎◌, inl, inr}
use mathlib.Core.Bool.{Bool, true, false, not, cond, ◌&&◌, ◌||◌, or-true}
use mathlib.Core.List.{List, [], ◌∷◌, map, map-map}
use Prim.Native.Nat.{ℕ, suc, ◌+◌, ◌<◌, ◌≤◌}
use native.Mathlib.Omega.{arith}
use lib.Dec.{eqb, leb, ltb}
use lib.ListN.{length, length-map}
use borrow.Author.Tests.{eqb-true, eq-eqb, ne_eqb, leb-true, leb-false, le-leb, lt-leb, le-ltb, lt-ltb, ltb-true, not-true, not-false}
use Rattle.model.specs.declared.Name.{Name}
use Rattle.model.specs.declared.Span.{Span}
use Rattle.model.specs.declared.Cap.{Cap}
use Rattle.model.specs.declared.Sheet.{Sheet}
use Rattle.model.specs.declared.Effect.{Effect}
use Rattle.model.specs.declared.Event.TheVariants.{Create, Borrow, Read, Write, Drop}
use Rattle.model.specs.declared.Access.{Access}
use Rattle.model.specs.declared.Access.TheVariants.{Reading, Writing}
use Rattle.model.specs.Lists.{cons_if, filter, any, all, first}
use Rattle.model.specs.Values.{end, legal, inside, touches}
use Rattle.model.specs.Derivation.{Derivation, ancestry, in_subtree}
use Rattle.model.specs.Strike.{is_end, is_lower, reached, struck}
use Rattle.model.specs.Requests.{Limited, Caller, Request, Single, Group, Mark, Back, caller_of, rises_above, rises_strictly, is_group}
use Rattle.model.specs.Slots.{Slot, is_nothing}
use Rattle.model.specs.Table.{row, span, derivation, derivations, named, lookup, is_marked, terms_in_order}
use Rattle.model.specs.Limits.{made_by, made, no_row, limit_reached}
use Rattle.model.specs.Refusals.{misnamed, not_a_domain, not_a_holder, not_written, standings, checks}
use Rattle.model.specs.Bits.{bit_at, put_from, low_length, bits_after, span_written, in_span}
use Rattle.model.specs.Effects.{lowered, revoke, after_access, in_subtrees, rows_without, root, child, rows_after, new_name, issued_after}
use Rattle.model.specs.Independence.{ordinal, is_given, own_name, recounted, recounted_row, is_own, uses_its_own, spares}
use Rattle.model.proofs.Lists.{All, All_map, All_zip, All_sub, All_filter, All_mapped, test, clash, unless, and_both, of_all, passes, filter_cong, filter_map, filter_all, map_cong}
use Rattle.model.proofs.Ancestries.{Falling, Closed, ancestry_above}
use Rattle.model.proofs.Lent.{lookup_found, lookup_named}
use Rattle.model.proofs.Order.{marked_low, rows_in_order_falling, access_rows_in_order, access_named}
use Rattle.model.proofs.Addresses.{In, touching, inside_each}
use Rattle.model.proofs.Bits.{span_law, all_same}
use Rattle.model.proofs.Limited.{Within}
use Rattle.model.proofs.Recounted.{Strictly, ordinal_order, ordinal_upto, ordinal_above, ordinal_none, ordinal_same, ordinal_older, ordinal_newest, recounted_derivation, Known, Given, ancestry_recounted, in_subtree_recounted, reached_recounted}
use Rattle.model.proofs.Parts.{part, along, ancestry_part, access_spared, without_spared}

-- the domain's live rows, by its own count
abbrev pub view : ℕ → List ℕ → List Cap → List Cap
view d given rows = map (recounted_row given) (filter (made_by d) rows)

-- What stays true of the names given and the live rows: a row is the domain's exactly when its name was given to it, and then its
-- parent, unless none, was given to it too. Others' rows may have any parents.
pub record Apart (d : ℕ) (given : List ℕ) (i : ℕ) (rows : List Cap) : Type 0 where
  pub below : All (λ x. (0 < x) × (x < suc i)) given
  pub few : length given ≤ i
  pub makers : All (λ c. made_by d c ≡ is_given given c.name.0) rows
  pub parents : All (λ c. is_given given c.name.0 ≡ true → Known given c.parent.0) rows

given_below : (given : List ℕ) (i x : ℕ) → All (λ y. (0 < y) × (y < suc i)) given → is_given given x ≡ true → (0 < x) × (x < suc i)
given_below [] i x a h = clash h refl
given_below (y ∷ given) i x a h = go (test (eqb x y)) (given_below given i x a.1)
  where
    go : (eqb x y ≡ true) ⊎ (eqb x y ≡ false) → (is_given given x ≡ true → (0 < x) × (x < suc i)) → (0 < x) × (x < suc i)
    go (inl e) ih = rw (eqb-true x y e) a.0
    go (inr e) ih = ih (rw e at h)

module _ (d : ℕ) (given : List ℕ) (i : ℕ) (rows : List Cap) (a : Apart d given i rows) where
  pub not_none : is_given given 0 ≡ false
  not_none = unless (is_given given 0) (λ h. no (given_below given i 0 a.below h).0)
    where
      no : 0 < 0 → ⊥
      no l = omega arith

  not_next : is_given given (suc i) ≡ false
  not_next = unless (is_given given (suc i)) (λ h. no (given_below given i (suc i) a.below h).1)
    where
      no : suc i < suc i → ⊥
      no l = omega arith

  -- ---- a row found

  found_same : (u : ℕ) → is_given given u ≡ true → any (named (ordinal given u)) (view d given rows) ≡ any (named u) rows
  found_same u h = go rows a.makers
    where
      go : (rows : List Cap) → All (λ c. made_by d c ≡ is_given given c.name.0) rows → any (named (ordinal given u)) (view d given rows) ≡ any (named u) rows
      go [] m = refl
      go (c ∷ rows) m = pick (test (made_by d c)) (go rows m.1)
        where
          pick : (made_by d c ≡ true) ⊎ (made_by d c ≡ false) → any (named (ordinal given u)) (view d given rows) ≡ any (named u) rows
              → any (named (ordinal given u)) (map (recounted_row given) (cons_if (made_by d c) c (filter (made_by d) rows))) ≡ named u c || any (named u) rows
          pick (inl e) ih = rw e (ap₂ ◌||◌ (ordinal_same given u c.name.0 h (sym m.0 ∙ e)) ih)
          pick (inr e) ih = rw (e, unless (named u c) (λ (n : named u c ≡ true). clash h (ap (is_given given) (eqb-true u c.name.0 n) ∙ (sym m.0 ∙ e)))) ih

  lookup_same : (u : ℕ) → is_given given u ≡ true → lookup (ordinal given u) (view d given rows) ≡ recounted_row given (lookup u rows)
  unfolding lookup
  lookup_same u h = go rows a.makers
    where
      go : (rows : List Cap) → All (λ c. made_by d c ≡ is_given given c.name.0) rows → lookup (ordinal given u) (view d given rows) ≡ recounted_row given (lookup u rows)
      go [] m = rw (ordinal_none given 0 not_none)
      go (c ∷ rows) m = pick (test (made_by d c)) (go rows m.1)
        where
          at : (named u c ≡ true) ⊎ (named u c ≡ false) → made_by d c ≡ true → lookup (ordinal given u) (view d given rows) ≡ recounted_row given (lookup u rows)
              → cond (named (ordinal given u) (recounted_row given c)) (recounted_row given c) (lookup (ordinal given u) (view d given rows)) ≡ recounted_row given (cond (named u c) c (lookup u rows))
          at (inl n) e ih = rw (ordinal_same given u c.name.0 h (sym m.0 ∙ e), n)
          at (inr n) e ih = rw (ordinal_same given u c.name.0 h (sym m.0 ∙ e), n) ih

          pick : (made_by d c ≡ true) ⊎ (made_by d c ≡ false) → lookup (ordinal given u) (view d given rows) ≡ recounted_row given (lookup u rows)
              → lookup (ordinal given u) (map (recounted_row given) (cons_if (made_by d c) c (filter (made_by d) rows))) ≡ recounted_row given (cond (named u c) c (lookup u rows))
          pick (inl e) ih = rw e (at (test (named u c)) e ih)
          pick (inr e) ih = rw (e, unless (named u c) (λ (n : named u c ≡ true). clash h (ap (is_given given) (eqb-true u c.name.0 n) ∙ (sym m.0 ∙ e)))) ih

  -- the limit counts the same rows
  made_same : made d (view d given rows) ≡ made d rows
  made_same = ap length (filter_map (recounted_row given) (made_by d) (filter (made_by d) rows) ∙ ap (map (recounted_row given)) (filter_all (made_by d) (filter (made_by d) rows) (passes (made_by d) rows))) ∙ length-map (filter (made_by d) rows) (recounted_row given)

  -- ---- ancestries

  own : List Derivation
  own = derivations (filter (made_by d) rows)

  -- its rows are a part of the forest
  own_part : filter (made_by d) rows ≡ part (is_given given) rows
  own_part = filter_cong (made_by d) (λ c. is_given given c.name.0) rows a.makers

  own_closed : Closed (is_given given) (derivations rows)
  own_closed = All_mapped derivation (λ b. is_given given b.name ≡ true → Known given b.parent) rows a.parents

  own_known : Given given own
  unfolding own
  own_known =
      rw own_part
      (All_mapped derivation (λ b. (is_given given b.name ≡ true) × Known given b.parent) (part (is_given given) rows)
      (All_filter (λ c. is_given given c.name.0) (λ c. (is_given given c.name.0 ≡ true) × Known given c.parent.0) rows (All_map _ _ (λ c p e. (e, p e)) rows a.parents)))

  module _ (falls : Falling (suc i) (derivations rows)) where
    -- the ancestry of one of its own is among its own
    ancestry_own : (x : ℕ) → Known given x → ancestry own x ≡ ancestry (derivations rows) x
    unfolding own
    ancestry_own x h = rw own_part (ancestry_part (is_given given) (suc i) rows falls own_closed x h)

    given_on : (x : ℕ) → Known given x → Given given (ancestry (derivations rows) x)
    given_on = along (is_given given) (suc i) rows falls own_closed (λ b. (is_given given b.name ≡ true) × Known given b.parent) (All_map _ _ (λ c p e. (e, p e)) rows a.parents)

    ancestry_view : (x : ℕ) → Known given x → ancestry (derivations (view d given rows)) (ordinal given x) ≡ map (recounted_derivation given) (ancestry (derivations rows) x)
    unfolding own
    ancestry_view x h =
        ap (λ B. ancestry B (ordinal given x)) (map-map derivation (recounted_row given) (filter (made_by d) rows) ∙ sym (map-map (recounted_derivation given) derivation (filter (made_by d) rows)))
        ∙ ancestry_recounted given not_none own own_known x h
        ∙ ap (map (recounted_derivation given)) (ancestry_own x h)

    -- ---- what is taken from its own rows, by its own count

    pub below_view : (u x : ℕ) → is_given given u ≡ true → is_given given x ≡ true → in_subtree u (ancestry (derivations rows) x) ≡ in_subtree (ordinal given u) (ancestry (derivations (view d given rows)) (ordinal given x))
    below_view u x h k =
        let q : Known given x = rw k (or-true (eqb x 0)) in
        sym (ap (in_subtree (ordinal given u)) (ancestry_view x q) ∙ in_subtree_recounted given not_none u (ancestry (derivations rows) x) (rw h (or-true (eqb u 0))) (given_on x q))

    -- a user that is its own, or one that has no ancestry
    struck_view : (sheet : Sheet) (is : Effect → Bool) (b : Access) (s : Span) (user user₀ : List Derivation) → user₀ ≡ map (recounted_derivation given) user → Given given user → (x : ℕ) → is_given given x ≡ true
        → reached sheet is b s user (ancestry (derivations rows) x) ≡ reached sheet is b s user₀ (ancestry (derivations (view d given rows)) (ordinal given x))
    struck_view sheet is b s user user₀ e g x k =
        let q : Known given x = rw k (or-true (eqb x 0)) in
        sym (ap₂ (reached sheet is b s) e (ancestry_view x q) ∙ reached_recounted given not_none sheet is b s user (ancestry (derivations rows) x) g (given_on x q))

-- rights taken away, in the view
module _ (d : ℕ) (given : List ℕ) (ends lowers ends₀ lowers₀ : ℕ → Bool) where
  Alike : Cap → Type 0
  Alike c = made_by d c ≡ true → (ends c.name.0 ≡ ends₀ (ordinal given c.name.0)) × (lowers c.name.0 ≡ lowers₀ (ordinal given c.name.0))

  revoke_view : (rows : List Cap) → All Alike rows → view d given (revoke ends lowers rows) ≡ revoke ends₀ lowers₀ (view d given rows)
  unfolding revoke Alike
  revoke_view [] h = refl
  revoke_view (c ∷ rows) h = go (test (made_by d c)) (test (ends c.name.0)) (revoke_view rows h.1)
    where
      go : (made_by d c ≡ true) ⊎ (made_by d c ≡ false) → (ends c.name.0 ≡ true) ⊎ (ends c.name.0 ≡ false) → view d given (revoke ends lowers rows) ≡ revoke ends₀ lowers₀ (view d given rows)
          → view d given (revoke ends lowers (c ∷ rows)) ≡ revoke ends₀ lowers₀ (view d given (c ∷ rows))
      go (inl m) (inl e) ih = rw (e, m, sym (h.0 m).0 ∙ e) ih
      go (inl m) (inr e) ih = rw (e, m, sym (h.0 m).0 ∙ e, (h.0 m).1) (ap {B = List Cap} (λ r. lowered (lowers₀ (ordinal given c.name.0)) (recounted_row given c) ∷ r) ih)
      go (inr m) (inl e) ih = rw (e, m) ih
      go (inr m) (inr e) ih = rw (e, m) ih

-- ---- an act of the domain

-- the written addresses are the same wherever one of its live capabilities lies
abbrev pub SameWritten : ℕ → List Cap → (ℕ → Bool) → (ℕ → Bool) → Type 0
SameWritten d rows is_written is_written₀ = All (λ c. made_by d c ≡ true → (x : ℕ) → In x (span c) → x < 65536 → is_written x ≡ is_written₀ x) rows

-- a last check that is asked only where two others fail
unless_told : (m i e h o w w₀ : Bool) → (e ≡ false → o ≡ false → w ≡ w₀) → ◌≡◌ {A = ℕ} (cond m 2 (cond i 3 (cond e 5 (cond h 17 (cond o 6 (cond w 16 0)))))) (cond m 2 (cond i 3 (cond e 5 (cond h 17 (cond o 6 (cond w₀ 16 0))))))
unless_told m i true h o w w₀ f = refl
unless_told m i false h true w w₀ f = refl
unless_told m i false h false w w₀ f = ap (λ (x : Bool). cond m 2 (cond i 3 (cond h 17 (cond x 16 0)))) (f refl refl)

module _ (n d : ℕ) (given : List ℕ) (i : ℕ) (rows : List Cap) (a : Apart d given i rows) where
  limit_same : (by : Caller) → eqb d by.actor ≡ true → made by.actor (view d given rows) ≡ made by.actor rows
  limit_same by o = rw (sym (eqb-true d by.actor o)) (made_same d given i rows a)

  issued_both : (u : Name) → is_given given u.0 ≡ true
      → (eqb u.0 0 || ltb i u.0 ≡ false) × (eqb (ordinal given u.0) 0 || ltb (length given) (ordinal given u.0) ≡ false)
  issued_both u h = (here (given_below given i u.0 a.below h), there (ordinal_above given u.0 h))
    where
      here : (0 < u.0) × (u.0 < suc i) → eqb u.0 0 || ltb i u.0 ≡ false
      here (l, m) = rw (ne_eqb u.0 0 (λ (e : u.0 ≡ 0). omega arith)) (le-ltb i u.0 (omega arith))

      there : 0 < ordinal given u.0 → eqb (ordinal given u.0) 0 || ltb (length given) (ordinal given u.0) ≡ false
      there l = rw (ne_eqb (ordinal given u.0) 0 (λ (e : ordinal given u.0 ≡ 0). omega arith)) (le-ltb (length given) (ordinal given u.0) (ordinal_upto given u.0))

  room_both : (w : Option Name) → not (leb 1000000 i) && not (misnamed i w) ≡ true
      → (leb 1000000 i ≡ false) × (misnamed i w ≡ false) × (leb 1000000 (length given) ≡ false)
  room_both w h =
      let b = and_both (not (leb 1000000 i)) (not (misnamed i w)) h in
      let l = leb-false 1000000 i (not-true (leb 1000000 i) b.0) in
      (not-true (leb 1000000 i) b.0, not-true (misnamed i w) b.1, lt-leb 1000000 (length given) (omega (arith, a.few)))

  -- ---- names dropped together

  same_rises : Strictly given → (x : ℕ) → is_given given x ≡ true → (names : List ℕ) → all (is_given given) names ≡ true → rises_above (ordinal given x) (map (ordinal given) names) ≡ rises_above x names
  unfolding rises_above
  same_rises f x h [] g = refl
  same_rises f x h (y ∷ names) g = let b = and_both (is_given given y) (all (is_given given) names) g in ap₂ ◌&&◌ (ordinal_order given x y f h b.0) (same_rises f y b.0 names b.1)

  same_group : Strictly given → (names : List ℕ) → all (is_given given) names ≡ true → is_group (map (ordinal given) names) ≡ is_group names
  unfolding is_group rises_strictly
  same_group f [] g = refl
  same_group f (x ∷ names) g =
      let b = and_both (is_given given x) (all (is_given given) names) g in
      rw (length-map names (ordinal given), same_rises f x b.0 names b.1)

  same_standings : (actor : ℕ) (names : List ℕ) → all (is_given given) names ≡ true → standings rows i actor names ≡ standings (view d given rows) (length given) actor (map (ordinal given) names)
  unfolding standings
  same_standings actor [] g = refl
  same_standings actor (u ∷ names) g =
      let b = and_both (is_given given u) (all (is_given given) names) g in
      let m = issued_both (record { 0 = u }) b.0 in
      rw (m.0, m.1, found_same d given i rows a u b.0, lookup_same d given i rows a u b.0, same_standings actor names b.1)

  module _ (is_written is_written₀ : ℕ → Bool) (slot slot₀ : ℕ → Slot (List Cap)) where
    -- 16 is asked of a living capability and a span inside its own
    same_sixteen : SameWritten d rows is_written is_written₀ → All (λ c. terms_in_order (derivation c) ≡ true) rows → (u : Name) (s : Span) → is_given given u.0 ≡ true → any (named u.0) rows ≡ true → inside s (span (lookup u.0 rows)) ≡ true
        → not_written rows i is_written u s ≡ not_written (view d given rows) (length given) is_written₀ (own_name given u) s
    unfolding not_written
    same_sixteen z t u s g l k = rw (lookup_same d given i rows a u.0 g) (go (test (is_marked (derivation c))))
      where
        c : Cap
        c = lookup u.0 rows

        own : made_by d c ≡ true
        own = lookup_found (λ c. made_by d c ≡ is_given given c.name.0) u.0 rows l a.makers ∙ ap (is_given given) (lookup_named u.0 rows l) ∙ g

        go : (is_marked (derivation c) ≡ true) ⊎ (is_marked (derivation c) ≡ false) → is_marked (derivation c) && not (span_written is_written s) ≡ is_marked (derivation c) && not (span_written is_written₀ s)
        go (inr f) = rw f
        go (inl y) = ap (λ (w : Bool). is_marked (derivation c) && not w) (all_same is_written is_written₀ s.start.0 s.length each)
          where
            low : end (span c) ≤ 65536
            low = marked_low (derivation c) (lookup_found (λ c. terms_in_order (derivation c) ≡ true) u.0 rows l t) y

            each : (x : ℕ) → s.start.0 ≤ x → x < s.start.0 + s.length → is_written x ≡ is_written₀ x
            each x m j =
                let i : In x (span c) = inside_each s (span c) k x (m, j) in
                lookup_found (λ c. made_by d c ≡ true → (x : ℕ) → In x (span c) → x < 65536 → is_written x ≡ is_written₀ x) u.0 rows l z own x i (omega (arith, i.1, low))

    pub same_checks : SameWritten d rows is_written is_written₀ → All (λ c. terms_in_order (derivation c) ≡ true) rows → Strictly given → ((k : ℕ) → is_nothing (slot k) ≡ is_nothing (slot₀ k)) → (limits : List ℕ) (q : Request) → (caller_of q).limits ≡ Limited limits → is_own d q ≡ true
        → uses_its_own given i q ≡ true → first (checks rows i is_written slot n q) ≡ first (checks (view d given rows) (length given) is_written₀ slot₀ n (recounted given q))
    unfolding no_row limit_reached recounted uses_its_own
    same_checks z t f x limits (Single by (Create w s r)) l o h = let b = room_both w h in rw (l, b.0, b.1, b.2, limit_same by o)
    same_checks z t f x limits (Single by (Borrow w u s r)) l o h =
        let g = and_both (not (leb 1000000 i) && not (misnamed i w)) (is_given given u.0) h in
        let b = room_both w g.0 in
        let m = issued_both u g.1 in
        rw (l, m.0, m.1, b.0, b.1, b.2, limit_same by o, found_same d given i rows a u.0 g.1, lookup_same d given i rows a u.0 g.1)
    same_checks z t f x limits (Single by (Read u s)) l o h =
        let m = issued_both u h in
        rw (m.0, m.1, found_same d given i rows a u.0 h, lookup_same d given i rows a u.0 h)
        (unless_told (not_a_domain by.actor) (not (legal s)) (not (any (named u.0) rows)) (not_a_holder rows i by.actor u) (not (inside s (span (lookup u.0 rows))))
        (not_written rows i is_written u s) (not_written (view d given rows) (length given) is_written₀ (own_name given u) s)
        (λ e o. same_sixteen z t u s h (not-false (any (named u.0) rows) e) (not-false (inside s (span (lookup u.0 rows))) o)))
    same_checks z t f x limits (Single by (Write u s)) l o h =
        let m = issued_both u h in
        rw (m.0, m.1, found_same d given i rows a u.0 h, lookup_same d given i rows a u.0 h)
    same_checks z t f x limits (Single by (Drop u)) l o h =
        let m = issued_both u h in
        rw (m.0, m.1, found_same d given i rows a u.0 h, lookup_same d given i rows a u.0 h)
    same_checks z t f x limits (Group by names) l o h = rw (same_group f names h, same_standings by.actor names h)
    same_checks z t f x limits (Mark by k) l o h = refl
    same_checks z t f x limits (Back by k) l o h = rw (x k)

-- ---- the rows that are left, and a new one

bounded : (n : ℕ) (rows : List Cap) → Falling n (derivations rows) → All (λ c. (c.name.0 < n) × (c.parent.0 < n)) rows
bounded n [] f = tt
bounded n (c ∷ rows) f = ((f.0, omega (arith, f.0, f.1)), All_map _ _ (λ b l. (omega (arith, l.0, f.0), omega (arith, l.1, f.0))) rows (bounded c.name.0 rows f.2))

pub apart_revoke : (d : ℕ) (given : List ℕ) (i : ℕ) (rows : List Cap) → Apart d given i rows → (ends lowers : ℕ → Bool) → Apart d given i (revoke ends lowers rows)
unfolding revoke
apart_revoke d given i rows a ends lowers =
    record {
      below = a.below;
      few = a.few;
      makers = All_mapped (λ c. lowered (lowers c.name.0) c) (λ c. made_by d c ≡ is_given given c.name.0) (filter left rows) (All_sub left (λ c. made_by d c ≡ is_given given c.name.0) rows a.makers);
      parents = All_mapped (λ c. lowered (lowers c.name.0) c) (λ c. is_given given c.name.0 ≡ true → Known given c.parent.0) (filter left rows) (All_sub left (λ c. is_given given c.name.0 ≡ true → Known given c.parent.0) rows a.parents);
    }
  where
    left : Cap → Bool
    left c = not (ends c.name.0)

-- the names given before are below the next
wider : (i : ℕ) (given : List ℕ) → All (λ x. (0 < x) × (x < suc i)) given → All (λ x. (0 < x) × (x < suc (suc i))) given
wider i given = All_map _ _ (λ x l. (l.0, omega (arith, l.1))) given

pub apart_wider : (d : ℕ) (given : List ℕ) (i : ℕ) (rows : List Cap) → Apart d given i rows → Apart d given (suc i) rows
apart_wider d given i rows a = record { below = wider i given a.below; few = omega (arith, a.few); makers = a.makers; parents = a.parents }

apart_other : (d : ℕ) (given : List ℕ) (i : ℕ) (rows : List Cap) → Apart d given i rows → (c : Cap) → c.name.0 ≡ suc i → made_by d c ≡ false → Apart d given (suc i) (c ∷ rows)
apart_other d given i rows a c e m =
    let z : is_given given c.name.0 ≡ false = rw e (not_next d given i rows a) in
    let w = apart_wider d given i rows a in
    record { below = w.below; few = w.few; makers = (m ∙ sym z, a.makers); parents = ((λ h. clash h z), a.parents) }

given_older : (given : List ℕ) (i x : ℕ) → x < suc i → is_given (suc i ∷ given) x ≡ is_given given x
given_older given i x l = rw (ne_eqb x (suc i) (λ (q : x ≡ suc i). omega arith))

known_older : (given : List ℕ) (i x : ℕ) → Known given x → Known (suc i ∷ given) x
known_older given i x h = go (test (eqb x 0))
  where
    go : (eqb x 0 ≡ true) ⊎ (eqb x 0 ≡ false) → Known (suc i ∷ given) x
    go (inl t) = rw t
    go (inr t) = rw (t, rw t at h) (or-true (eqb x (suc i)))

-- one more name given to it
pub apart_older : (d : ℕ) (given : List ℕ) (i : ℕ) (rows : List Cap) → Apart d given i rows → Falling (suc i) (derivations rows) → Apart d (suc i ∷ given) (suc i) rows
apart_older d given i rows a f =
    record {
      below = ((omega arith, omega arith), wider i given a.below);
      few = omega (arith, a.few);
      makers = All_map _ _ (λ b h. h.0 ∙ sym (given_older given i b.name.0 h.1.0)) rows (All_zip _ _ rows a.makers (bounded (suc i) rows f));
      parents = All_map _ _ (λ b h g. known_older given i b.parent.0 (h.0 (sym (given_older given i b.name.0 h.1.0) ∙ g))) rows (All_zip _ _ rows a.parents (bounded (suc i) rows f));
    }

apart_own : (d : ℕ) (given : List ℕ) (i : ℕ) (rows : List Cap) → Apart d given i rows → Falling (suc i) (derivations rows) → (c : Cap) → c.name.0 ≡ suc i → made_by d c ≡ true → Known given c.parent.0
    → Apart d (suc i ∷ given) (suc i) (c ∷ rows)
apart_own d given i rows a f c e m k =
    let o = apart_older d given i rows a f in
    record { below = o.below; few = o.few; makers = (m ∙ sym (rw (eq-eqb c.name.0 (suc i) e)), o.makers); parents = ((λ h. known_older given i c.parent.0 k), o.parents) }

-- one more name leaves the view of the rows before it
pub view_older : (d : ℕ) (given : List ℕ) (i : ℕ) (rows : List Cap) → Falling (suc i) (derivations rows) → view d (suc i ∷ given) rows ≡ view d given rows
view_older d given i rows f =
    map_cong (recounted_row (suc i ∷ given)) (recounted_row given) (filter (made_by d) rows) (All_sub (made_by d) _ rows (All_map _ _ same_row rows (bounded (suc i) rows f)))
  where
    same_row : (c : Cap) → (c.name.0 < suc i) × (c.parent.0 < suc i) → recounted_row (suc i ∷ given) c ≡ recounted_row given c
    same_row c (l, m) =
        rw (
          ordinal_older given c.name.0 (suc i) (ne_eqb c.name.0 (suc i) (λ (q : c.name.0 ≡ suc i). omega arith)),
          ordinal_older given c.parent.0 (suc i) (ne_eqb c.parent.0 (suc i) (λ (q : c.parent.0 ≡ suc i). omega arith)),
        )

-- the request goes through given names, or through none
abbrev pub uses : List ℕ → Request → Bool
uses given (Single by (Create w s r)) = true
uses given (Single by (Borrow w u s r)) = is_given given u.0
uses given (Single by (Read u s)) = is_given given u.0
uses given (Single by (Write u s)) = is_given given u.0
uses given (Single by (Drop u)) = is_given given u.0
uses given (Group by names) = all (is_given given) names
uses given (Mark by k) = true
uses given (Back by k) = true

pub uses_its_own_lem : (given : List ℕ) (i : ℕ) (q : Request) → uses_its_own given i q ≡ true → uses given q ≡ true
unfolding uses_its_own
uses_its_own_lem given i (Single by (Create w s r)) h = refl
uses_its_own_lem given i (Single by (Borrow w u s r)) h = (and_both (not (leb 1000000 i) && not (misnamed i w)) (is_given given u.0) h).1
uses_its_own_lem given i (Single by (Read u s)) h = h
uses_its_own_lem given i (Single by (Write u s)) h = h
uses_its_own_lem given i (Single by (Drop u)) h = h
uses_its_own_lem given i (Group by names) h = h
uses_its_own_lem given i (Mark by k) h = refl
uses_its_own_lem given i (Back by k) h = refl

-- the names given after an allowed request of the domain
abbrev pub given_next : ℕ → Request → List ℕ → List ℕ
given_next i (Single by (Create w s r)) given = suc i ∷ given
given_next i (Single by (Borrow w u s r)) given = suc i ∷ given
given_next i (Single by (Read u s)) given = given
given_next i (Single by (Write u s)) given = given
given_next i (Single by (Drop u)) given = given
given_next i (Group by names) given = given
given_next i (Mark by k) given = given
given_next i (Back by k) given = given

pub given_named : (i : ℕ) (q : Request) (given : List ℕ) → cons_if (not (eqb (new_name i q) 0)) (new_name i q) given ≡ given_next i q given
given_named i (Single by (Create w s r)) given = rw (ne_eqb (suc i) 0 (λ (q : suc i ≡ 0). omega arith))
given_named i (Single by (Borrow w u s r)) given = rw (ne_eqb (suc i) 0 (λ (q : suc i ≡ 0). omega arith))
given_named i (Single by (Read u s)) given = refl
given_named i (Single by (Write u s)) given = refl
given_named i (Single by (Drop u)) given = refl
given_named i (Group by names) given = refl
given_named i (Mark by k) given = refl
given_named i (Back by k) given = refl

module _ (sheet : Sheet) (limits : List ℕ) (d : ℕ) (given : List ℕ) (i : ℕ) (rows : List Cap) (a : Apart d given i rows) (k : Within limits i rows) where
  pub falls : Falling (suc i) (derivations rows)
  falls = rows_in_order_falling (suc i) rows k.are_named k.rise

  access_falls : (b : Access) (u : ℕ) (s : Span) → Falling (suc i) (derivations (after_access sheet b u s rows))
  access_falls b u s = rows_in_order_falling (suc i) (after_access sheet b u s rows) (access_named sheet rows k.are_named b u s) (access_rows_in_order sheet (suc i) rows k.are_named k.rise b u s)

  -- ---- an act of another

  spared_access : (b : Access) (u : ℕ) (s : Span) → all (λ c. not (made_by d c && touches s (span c))) rows ≡ true → filter (made_by d) (after_access sheet b u s rows) ≡ filter (made_by d) rows
  unfolding after_access
  spared_access b u s h =
      own_part d given i (after_access sheet b u s rows) (apart_revoke d given i rows a _ _)
      ∙ access_spared (is_given given) (suc i) rows falls (own_closed d given i rows a) sheet b u s (All_map _ _ apart rows (All_zip _ _ rows a.makers (of_all (λ c. not (made_by d c && touches s (span c))) rows h)))
      ∙ sym (own_part d given i rows a)
    where
      apart : (c : Cap) → (made_by d c ≡ is_given given c.name.0) × (not (made_by d c && touches s (span c)) ≡ true) → is_given given c.name.0 ≡ true → touches s (span c) ≡ false
      apart c (m, t) g = let e : made_by d c ≡ true = m ∙ g in not-true (touches s (span c)) (rw e at t)

  pub spared_without : (names : List ℕ) → all (λ u. all (λ c. not (made_by d c && named u c)) rows) names ≡ true → filter (made_by d) (rows_without names rows) ≡ filter (made_by d) rows
  unfolding rows_without
  spared_without names h =
      own_part d given i (rows_without names rows) (apart_revoke d given i rows a _ _)
      ∙ without_spared (is_given given) (suc i) rows falls (own_closed d given i rows a) names (All_map _ _ (λ u k. All_map _ _ (apart u) rows (All_zip _ _ rows a.makers (of_all (λ c. not (made_by d c && named u c)) rows k))) names (of_all _ names h))
      ∙ sym (own_part d given i rows a)
    where
      apart : (u : ℕ) (c : Cap) → (made_by d c ≡ is_given given c.name.0) × (not (made_by d c && named u c) ≡ true) → is_given given c.name.0 ≡ true → named u c ≡ false
      apart u c (m, t) g = let e : made_by d c ≡ true = m ∙ g in not-true (named u c) (rw e at t)

  -- it leaves the domain's rows, and makes none of them
  pub spared_rows : (q : Request) → is_own d q ≡ false → spares d rows q ≡ true → filter (made_by d) (rows_after sheet i rows q) ≡ filter (made_by d) rows
  unfolding spares rows_after
  spared_rows (Single by (Create w s r)) o h = rw o (spared_access Writing (suc i) s h)
  spared_rows (Single by (Borrow w u s r)) o h = rw o
  spared_rows (Single by (Read u s)) o h = spared_access Reading u.0 s h
  spared_rows (Single by (Write u s)) o h = spared_access Writing u.0 s h
  spared_rows (Single by (Drop u)) o h = spared_without (u.0 ∷ []) (rw h)
  spared_rows (Group by names) o h = spared_without names h
  spared_rows (Mark by k) o h = clash h refl
  spared_rows (Back by k) o h = clash h refl

  pub apart_spared : (q : Request) → is_own d q ≡ false → Apart d given (issued_after i q) (rows_after sheet i rows q)
  unfolding after_access rows_without rows_after
  apart_spared (Single by (Create w s r)) o = apart_other d given i (after_access sheet Writing (suc i) s rows) (apart_revoke d given i rows a _ _) (row (root by i s r) r.right 1) refl o
  apart_spared (Single by (Borrow w u s r)) o = apart_other d given i rows a (row (child by i u (lookup u.0 rows).fresh s r) r.right (suc (lookup u.0 rows).depth)) refl o
  apart_spared (Single by (Read u s)) o = apart_revoke d given i rows a _ _
  apart_spared (Single by (Write u s)) o = apart_revoke d given i rows a _ _
  apart_spared (Single by (Drop u)) o = apart_revoke d given i rows a _ _
  apart_spared (Group by names) o = apart_revoke d given i rows a _ _
  apart_spared (Mark by k) o = a
  apart_spared (Back by k) o = a

  -- ---- an act of its own

  module _ (k₀ : Within limits (length given) (view d given rows)) where
    falls₀ : Falling (suc (length given)) (derivations (view d given rows))
    falls₀ = rows_in_order_falling (suc (length given)) (view d given rows) k₀.are_named k₀.rise

    access_view : (b : Access) (u u₀ : ℕ) (s : Span) → ancestry (derivations (view d given rows)) u₀ ≡ map (recounted_derivation given) (ancestry (derivations rows) u) → Given given (ancestry (derivations rows) u)
        → view d given (after_access sheet b u s rows) ≡ after_access sheet b u₀ s (view d given rows)
    unfolding after_access struck Alike
    access_view b u u₀ s e g =
        revoke_view d given (struck sheet is_end b (derivations rows) u s) (struck sheet is_lower b (derivations rows) u s) (struck sheet is_end b (derivations (view d given rows)) u₀ s) (struck sheet is_lower b (derivations (view d given rows)) u₀ s) rows
        (All_map _ _ (λ c m t. (alike is_end c.name.0 (sym m ∙ t), alike is_lower c.name.0 (sym m ∙ t))) rows a.makers)
      where
        alike : (is : Effect → Bool) (x : ℕ) → is_given given x ≡ true
            → reached sheet is b s (ancestry (derivations rows) u) (ancestry (derivations rows) x) ≡ reached sheet is b s (ancestry (derivations (view d given rows)) u₀) (ancestry (derivations (view d given rows)) (ordinal given x))
        alike is x h = struck_view d given i rows a falls sheet is b s (ancestry (derivations rows) u) (ancestry (derivations (view d given rows)) u₀) e g x h

    -- names dropped together
    pub without_view : (names : List ℕ) → all (is_given given) names ≡ true → view d given (rows_without names rows) ≡ rows_without (map (ordinal given) names) (view d given rows)
    unfolding rows_without Alike
    without_view names g =
        revoke_view d given (λ x. in_subtrees names (ancestry (derivations rows) x)) (λ x. false) (λ x. in_subtrees (map (ordinal given) names) (ancestry (derivations (view d given rows)) x)) (λ x. false) rows
        (All_map _ _ (λ c m t. (alike names g c.name.0 (sym m ∙ t), refl)) rows a.makers)
      where
        alike : (names : List ℕ) → all (is_given given) names ≡ true → (x : ℕ) → is_given given x ≡ true
            → in_subtrees names (ancestry (derivations rows) x) ≡ in_subtrees (map (ordinal given) names) (ancestry (derivations (view d given rows)) (ordinal given x))
        alike [] g x h = refl
        alike (u ∷ names) g x h = let b = and_both (is_given given u) (all (is_given given) names) g in ap₂ ◌||◌ (below_view d given i rows a falls u x b.0 h) (alike names b.1 x h)

    used_view : (b : Access) (u : ℕ) (s : Span) → is_given given u ≡ true → view d given (after_access sheet b u s rows) ≡ after_access sheet b (ordinal given u) s (view d given rows)
    used_view b u s h =
        let q : Known given u = rw h (or-true (eqb u 0)) in
        access_view b u (ordinal given u) s (ancestry_view d given i rows a falls u q) (given_on d given i rows a falls u q)

    -- a create goes through a name that has no ancestry, in both
    created_view : (s : Span) → view d given (after_access sheet Writing (suc i) s rows) ≡ after_access sheet Writing (suc (length given)) s (view d given rows)
    created_view s =
        let none = ancestry_above (suc i) (suc i) (derivations rows) falls (omega arith) in
        let none₀ = ancestry_above (suc (length given)) (suc (length given)) (derivations (view d given rows)) falls₀ (omega arith) in
        access_view Writing (suc i) (suc (length given)) s (rw (none, none₀)) (rw none tt)

    -- what it makes is its own next
    new_view : (by : Caller) (parent : ℕ) (s : Span) (kind mark holders r depth : ℕ) → parent < suc i
        → recounted_row (suc i ∷ given) (row (record { name = suc i; parent = parent; span = s; kind = kind; fresh = mark; maker = by.actor; holders = holders }) r depth)
        ≡ row (record { name = suc (length given); parent = ordinal given parent; span = s; kind = kind; fresh = mark; maker = by.actor; holders = holders }) r depth
    new_view by parent s kind mark holders r depth l = rw (ordinal_newest given (suc i), ordinal_older given parent (suc i) (ne_eqb parent (suc i) (λ (e : parent ≡ suc i). omega arith)))

    pub own_rows : (q : Request) → is_own d q ≡ true → uses given q ≡ true
        → view d (given_next i q given) (rows_after sheet i rows q) ≡ rows_after sheet (length given) (view d given rows) (recounted given q)
    unfolding recounted rows_after
    own_rows (Single by (Create w s r)) o h =
        rw o (ap₂ {C = List Cap} (λ c l. c ∷ l)
        (new_view by 0 s 0 r.fresh r.holders r.right 1 (omega arith) ∙ rw (ordinal_none given 0 (not_none d given i rows a)))
        (view_older d given i (after_access sheet Writing (suc i) s rows) (access_falls Writing (suc i) s) ∙ created_view s))
    own_rows (Single by (Borrow w u s r)) o h =
        rw o (ap₂ {C = List Cap} (λ c l. c ∷ l)
        (new_view by u.0 s r.kind (lookup u.0 rows).fresh r.holders r.right (suc (lookup u.0 rows).depth) (given_below given i u.0 a.below h).1 ∙ rw (lookup_same d given i rows a u.0 h))
        (view_older d given i rows falls))
    own_rows (Single by (Read u s)) o h = used_view Reading u.0 s h
    own_rows (Single by (Write u s)) o h = used_view Writing u.0 s h
    own_rows (Single by (Drop u)) o h = without_view (u.0 ∷ []) (rw h)
    own_rows (Group by names) o h = without_view names h
    own_rows (Mark by k) o h = refl
    own_rows (Back by k) o h = refl

    pub apart_own_act : (q : Request) → is_own d q ≡ true → uses given q ≡ true → Apart d (given_next i q given) (issued_after i q) (rows_after sheet i rows q)
    unfolding after_access rows_without rows_after
    apart_own_act (Single by (Create w s r)) o h =
        apart_own d given i (after_access sheet Writing (suc i) s rows) (apart_revoke d given i rows a _ _) (access_falls Writing (suc i) s) (row (root by i s r) r.right 1) refl o refl
    apart_own_act (Single by (Borrow w u s r)) o h = apart_own d given i rows a falls (row (child by i u (lookup u.0 rows).fresh s r) r.right (suc (lookup u.0 rows).depth)) refl o (rw h (or-true (eqb u.0 0)))
    apart_own_act (Single by (Read u s)) o h = apart_revoke d given i rows a _ _
    apart_own_act (Single by (Write u s)) o h = apart_revoke d given i rows a _ _
    apart_own_act (Single by (Drop u)) o h = apart_revoke d given i rows a _ _
    apart_own_act (Group by names) o h = apart_revoke d given i rows a _ _
    apart_own_act (Mark by k) o h = a
    apart_own_act (Back by k) o h = a

-- it counts one more name where it was given one
pub counted : (i : ℕ) (given : List ℕ) (q : Request) → issued_after (length given) (recounted given q) ≡ length (given_next i q given)
unfolding recounted
counted i given (Single by (Create w s r)) = refl
counted i given (Single by (Borrow w u s r)) = refl
counted i given (Single by (Read u s)) = refl
counted i given (Single by (Write u s)) = refl
counted i given (Single by (Drop u)) = refl
counted i given (Group by names) = refl
counted i given (Mark by k) = refl
counted i given (Back by k) = refl

-- ---- the written addresses

-- what a borrow is made from lives, and its span is inside that one's
abbrev pub in_use : List Cap → Request → Type 0
in_use rows (Single by (Create w s r)) = Unit {0}
in_use rows (Single by (Borrow w u s r)) = (any (named u.0) rows ≡ true) × (inside s (span (lookup u.0 rows)) ≡ true)
in_use rows (Single by (Read u s)) = Unit {0}
in_use rows (Single by (Write u s)) = Unit {0}
in_use rows (Single by (Drop u)) = Unit {0}
in_use rows (Group by names) = Unit {0}
in_use rows (Mark by k) = Unit {0}
in_use rows (Back by k) = Unit {0}

pub written_revoke : (d : ℕ) (rows : List Cap) (f g : ℕ → Bool) → SameWritten d rows f g → (ends lowers : ℕ → Bool) → SameWritten d (revoke ends lowers rows) f g
unfolding revoke
written_revoke d rows f g w ends lowers =
    All_mapped (λ c. lowered (lowers c.name.0) c) (λ c. made_by d c ≡ true → (x : ℕ) → In x (span c) → x < 65536 → f x ≡ g x) (filter (λ c. not (ends c.name.0)) rows)
    (All_sub (λ c. not (ends c.name.0)) (λ c. made_by d c ≡ true → (x : ℕ) → In x (span c) → x < 65536 → f x ≡ g x) rows w)

module _ (d : ℕ) (rows : List Cap) (bits bits₀ : List ℕ) (z : length bits ≡ 8192) (z₀ : length bits₀ ≡ 8192) (w : SameWritten d rows (bit_at bits) (bit_at bits₀)) where
  put_same : (v : Bool) (s : Span) → SameWritten d rows (bit_at (put_from v s.start.0 (low_length s) bits)) (bit_at (put_from v s.start.0 (low_length s) bits₀))
  put_same v s = All_map _ _ (λ c h m x i l. span_law v s x bits z l ∙ ap (cond (in_span s x) v) (h m x i l) ∙ sym (span_law v s x bits₀ z₀ l)) rows w

  put_spared : (v : Bool) (s : Span) → all (λ c. not (made_by d c && touches s (span c))) rows ≡ true → SameWritten d rows (bit_at (put_from v s.start.0 (low_length s) bits)) (bit_at bits₀)
  put_spared v s h = All_map _ _ (λ c p m x i l. span_law v s x bits z l ∙ ap (λ (t : Bool). cond t v (bit_at bits x)) (outside c (rw m at p.1) x i) ∙ p.0 m x i l) rows (All_zip _ _ rows w (of_all (λ c. not (made_by d c && touches s (span c))) rows h))
    where
      outside : (c : Cap) → not (touches s (span c)) ≡ true → (x : ℕ) → In x (span c) → in_span s x ≡ false
      outside c t x i =
          unless (in_span s x) (λ e. let b = and_both (leb s.start.0 x) (ltb x (end s)) e in
          clash (touching s (span c) x (leb-true s.start.0 x b.0, ltb-true x (end s) b.1) i) (not-true (touches s (span c)) t))

  -- another's request leaves the bits there
  pub written_spared : (sheet : Sheet) (i : ℕ) (q : Request) → is_own d q ≡ false → spares d rows q ≡ true → SameWritten d (rows_after sheet i rows q) (bit_at (bits_after bits q)) (bit_at bits₀)
  unfolding spares rows_after bits_after after_access rows_without
  written_spared sheet i (Single by (Create w s r)) o h = ((λ m. clash m o), written_revoke d rows _ _ (put_spared false s h) _ _)
  written_spared sheet i (Single by (Borrow n u s r)) o h = ((λ m. clash m o), w)
  written_spared sheet i (Single by (Read u s)) o h = written_revoke d rows _ _ w _ _
  written_spared sheet i (Single by (Write u s)) o h = written_revoke d rows _ _ (put_spared true s h) _ _
  written_spared sheet i (Single by (Drop u)) o h = written_revoke d rows _ _ w _ _
  written_spared sheet i (Group by names) o h = written_revoke d rows _ _ w _ _
  written_spared sheet i (Mark by k) o h = clash h refl
  written_spared sheet i (Back by k) o h = clash h refl

  -- its own request does the same to both
  pub written_own : (sheet : Sheet) (i : ℕ) (given : List ℕ) → All (λ c. made_by d c ≡ is_given given c.name.0) rows → (q : Request) → uses given q ≡ true → in_use rows q
      → SameWritten d (rows_after sheet i rows q) (bit_at (bits_after bits q)) (bit_at (bits_after bits₀ (recounted given q)))
  unfolding recounted rows_after bits_after after_access rows_without
  written_own sheet i given a (Single by (Create n s r)) h u = ((λ m x k l. cleared bits z x k l ∙ sym (cleared bits₀ z₀ x k l)), written_revoke d rows _ _ (put_same false s) _ _)
    where
      cleared : (bytes : List ℕ) → length bytes ≡ 8192 → (x : ℕ) → In x s → x < 65536 → bit_at (put_from false s.start.0 (low_length s) bytes) x ≡ false
      cleared bytes z x k l =
          let e : in_span s x ≡ true = rw (le-leb s.start.0 x k.0, lt-ltb x (end s) k.1) in
          span_law false s x bytes z l ∙ ap (λ (t : Bool). cond t false (bit_at bytes x)) e
  written_own sheet i given a (Single by (Borrow n u s r)) h v = ((λ m x k l. lookup_found (λ c. made_by d c ≡ true → (x : ℕ) → In x (span c) → x < 65536 → bit_at bits x ≡ bit_at bits₀ x) u.0 rows v.0 w own x (inside_each s (span (lookup u.0 rows)) v.1 x k) l), w)
    where
      own : made_by d (lookup u.0 rows) ≡ true
      own = lookup_found (λ c. made_by d c ≡ is_given given c.name.0) u.0 rows v.0 a ∙ ap (is_given given) (lookup_named u.0 rows v.0) ∙ h
  written_own sheet i given a (Single by (Read u s)) h v = written_revoke d rows _ _ w _ _
  written_own sheet i given a (Single by (Write u s)) h v = written_revoke d rows _ _ (put_same true s) _ _
  written_own sheet i given a (Single by (Drop u)) h v = written_revoke d rows _ _ w _ _
  written_own sheet i given a (Group by names) h v = written_revoke d rows _ _ w _ _
  written_own sheet i given a (Mark by k) h v = w
  written_own sheet i given a (Back by k) h v = w
