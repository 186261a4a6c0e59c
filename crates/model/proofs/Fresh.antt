-- Card 4, "reused memory", and card 7, "a create acts as a stranger's write": what an allowed create does to the live rows, by every sheet.
-- Assumes nothing.
use Rattle.std.specs.Prelude.{Option}
use Rattle.model.specs.declared.Name.{Name}
use mathlib.Core.Path.{◌≡◌, refl, sym, ap, ap₂, ◌∙◌}
use mathlib.Core.Bool.{Bool, true, false, not, cond, ◌&&◌, ◌||◌, and-true, and-false}
use mathlib.Core.List.{List, [], ◌∷◌}
use Prim.Native.Nat.{ℕ, zero, suc, ◌<◌}
use native.Mathlib.Omega.{arith}
use lib.Dec.{eqb}
use borrow.Author.Tests.{ne_eqb, not-true}
use Rattle.model.specs.declared.Span.{Span}
use Rattle.model.specs.declared.Cap.{Cap}
use Rattle.model.specs.declared.Terms.{Terms}
use Rattle.model.specs.declared.Event.TheVariants.{Create}
use Rattle.model.specs.Requests.{Caller, Single}
use Rattle.model.specs.declared.Access.{Access}
use Rattle.model.specs.declared.Access.TheVariants.{Writing}
use Rattle.model.specs.declared.Effect.{Effect}
use Rattle.model.specs.declared.Effect.TheVariants.{Keep, End}
use Rattle.model.specs.declared.Origin.TheVariants.{Stranger}
use Rattle.model.specs.declared.Sheet.{Sheet}
use Rattle.model.specs.Lists.{filter, any}
use Rattle.model.specs.Values.{touches}
use Rattle.model.specs.Derivation.{Derivation, ancestry, on_ancestry}
use Rattle.model.specs.Strike.{is_lower, is_end, is_cell, result_of, origin, strike, reached, struck, reclaimed}
use Rattle.model.specs.Sheet6.{sheet6}
use Rattle.model.specs.Table.{row, derivations, named, lookup, rows_in_order}
use Rattle.model.specs.Effects.{lowered, revoke, after_access, root, rows_after}
use Rattle.model.proofs.Lists.{All, All_map, All_of, All_zip, clash, passes, any_false, any_kept, any_map, filter_all, map_id}
use Rattle.model.proofs.Addresses.{touches_none}
use Rattle.model.proofs.Ancestries.{same, below_differs, ancestry_here, ancestry_past, ancestry_below, ancestry_falls}
use Rattle.model.proofs.Strikes.{user_spared}
use Rattle.model.proofs.Notes.{taken_cong}
use Rattle.model.proofs.Lent.{Named}
use Rattle.model.proofs.Order.{rows_in_order_falling, lookup_left, lookup_lower}
use Rattle.model.proofs.Rows.{lookup_each, found_each, no_ancestry, no_ancestry_above}

-- ---- a stranger's write

-- a write to s from outside every subtree gives that effect to a capability, or to an ancestor of it, that it touches
abbrev pub stranger_takes : Sheet → (Effect → Bool) → Span → List Derivation → Bool
stranger_takes sheet is s = any (λ d. touches s d.span && is (result_of sheet d.kind Writing Stranger))

outside_takes : (sheet : Sheet) (is : Effect → Bool) → is Keep ≡ false → (s : Span) (x : List Derivation) → reached sheet is Writing s [] x ≡ stranger_takes sheet is s x
unfolding reached on_ancestry strike origin
outside_takes sheet is k s [] = refl
outside_takes sheet is k s (d ∷ above) = ap₂ (λ a b. a || b) (go (touches s d.span) (result_of sheet d.kind Writing Stranger)) (outside_takes sheet is k s above)
  where
    go : (b : Bool) (e : Effect) → is (cond (b && true) e Keep) ≡ b && is e
    go true e = refl
    go false e = k

-- A name that is no cell, and on no holder's ancestry nor a parent there, makes no difference to the user's.
own_alone : (sheet : Sheet) (is : Effect → Bool) (a : Access) (s : Span) (d : Derivation) → is_cell d ≡ false → (user x : List Derivation) → All (λ b. (b.name < d.name) × (b.parent < b.name)) x
    → reached sheet is a s (d ∷ user) x ≡ reached sheet is a s user x
unfolding reached on_ancestry strike origin
own_alone sheet is a s d c user [] h = refl
own_alone sheet is a s d c user (b ∷ above) h =
    let l : b.parent < d.name = omega (arith, h.0) in
    rw (below_differs h.0.0, below_differs l, c) (ap (λ r. is (strike sheet a s user (b ∷ above)) || r) (own_alone sheet is a s d c user above h.1))

-- The note of a create takes from earlier names what a write through the new name takes, whose ancestry is itself alone.
pub noted_written : (sheet : Sheet) (is : Effect → Bool) (d : Derivation) → eqb d.parent 0 ≡ true → is_cell d ≡ false → (x : List Derivation) → All (λ b. (b.name < d.name) × (b.parent < b.name)) x
    → reclaimed sheet is d [] x ≡ reached sheet is Writing d.span (d ∷ []) x
unfolding reclaimed
noted_written sheet is d z c x h = rw z (sym (own_alone sheet is Writing d.span d c [] x h))

-- a row from which nothing is taken
revoke_past : (ends lowers : ℕ → Bool) (c : Cap) (rows : List Cap) → ends c.name.0 ≡ false → lowers c.name.0 ≡ false → revoke ends lowers (c ∷ rows) ≡ c ∷ revoke ends lowers rows
unfolding revoke
revoke_past ends lowers c rows e l = rw (e, l)

-- ---- a create on rows in order

-- the new name has no row, so what a write through it takes is what a stranger's write takes
pub stranger_takes_lem : (sheet : Sheet) (issued : ℕ) (rows : List Cap) → Named rows → rows_in_order (suc issued) rows ≡ true → (s : Span) (is : Effect → Bool) → is Keep ≡ false → (x : ℕ)
    → struck sheet is Writing (derivations rows) (suc issued) s x ≡ stranger_takes sheet is s (ancestry (derivations rows) x)
unfolding struck
stranger_takes_lem sheet issued rows n h s is k x = rw (no_ancestry_above (suc issued) rows n h (suc issued) (omega arith)) (outside_takes sheet is k s (ancestry (derivations rows) x))

module _ (sheet : Sheet) (issued : ℕ) (rows : List Cap) (n : Named rows) (h : rows_in_order (suc issued) rows ≡ true) (by : Caller) (w : Option Name) (s : Span) (r : Terms) where
  abbrev taken : (Effect → Bool) → ℕ → Bool
  taken is x = stranger_takes sheet is s (ancestry (derivations rows) x)

  -- It takes what a stranger's write takes, with subtrees, and leaves the others as they are.
  pub create_rows : rows_after sheet issued rows (Single by (Create w s r)) ≡ row (root by issued s r) r.right 1 ∷ revoke (taken is_end) (taken is_lower) rows
  unfolding rows_after revoke after_access
  create_rows = ap {B = List Cap} (λ l. row (root by issued s r) r.right 1 ∷ l) (
      taken_cong (struck sheet is_end Writing (derivations rows) (suc issued) s) (struck sheet is_lower Writing (derivations rows) (suc issued) s) (taken is_end) (taken is_lower) rows
      (All_of _ (λ c. (stranger_takes_lem sheet issued rows n h s is_end refl c.name.0, stranger_takes_lem sheet issued rows n h s is_lower refl c.name.0)) rows))

  -- It is a write from outside every subtree but its own: a write through the new row, once it stands, leaves the same.
  pub create_written : after_access sheet Writing (suc issued) s (row (root by issued s r) r.right 1 ∷ rows) ≡ rows_after sheet issued rows (Single by (Create w s r))
  unfolding rows_after revoke after_access struck
  create_written =
      revoke_past (takes is_end) (takes is_lower) (row new r.right 1) rows (user_spared sheet is_end refl Writing s user) (user_spared sheet is_lower refl Writing s user)
      ∙ ap {B = List Cap} (λ l. row new r.right 1 ∷ l)
      (taken_cong (takes is_end) (takes is_lower) (struck sheet is_end Writing (derivations rows) (suc issued) s) (struck sheet is_lower Writing (derivations rows) (suc issued) s) rows
      (All_map _ _ (λ c q. (older is_end c.name.0 q.0, older is_lower c.name.0 q.0)) rows (lookup_each (suc issued) rows h)))
    where
      new : Derivation
      new = root by issued s r

      user : List Derivation
      user = ancestry (new ∷ derivations rows) (suc issued)

      takes : (Effect → Bool) → ℕ → Bool
      takes is x = reached sheet is Writing s user (ancestry (new ∷ derivations rows) x)

      user_alone : user ≡ new ∷ []
      user_alone = ancestry_here new (derivations rows) (suc issued) (same (suc issued)) ∙ ap {B = List Derivation} (λ l. new ∷ l) (no_ancestry (suc issued) rows n h)

      older : (is : Effect → Bool) (x : ℕ) → x < suc issued → takes is x ≡ reached sheet is Writing s (ancestry (derivations rows) (suc issued)) (ancestry (derivations rows) x)
      older is x l =
          let falls = rows_in_order_falling (suc issued) rows n h in
          ap₂ (reached sheet is Writing s) user_alone (ancestry_past new (derivations rows) x (below_differs l))
          ∙ own_alone sheet is Writing s new refl [] (ancestry (derivations rows) x) (All_zip _ _ (ancestry (derivations rows) x) (ancestry_below (suc issued) x (derivations rows) falls) (ancestry_falls (suc issued) x (derivations rows) falls))
          ∙ ap (λ (none : List Derivation). reached sheet is Writing s none (ancestry (derivations rows) x)) (sym (no_ancestry_above (suc issued) rows n h (suc issued) (omega arith)))

  -- A capability whose life is not taken stays as it is, but for its right if that is taken.
  pub left_stays : All (λ c. taken is_end c.name.0 ≡ false → lookup c.name.0 (rows_after sheet issued rows (Single by (Create w s r))) ≡ lowered (taken is_lower c.name.0) c) rows
  unfolding lookup revoke
  left_stays = All_map _ _ stays rows (All_zip _ _ rows (lookup_each (suc issued) rows h) (found_each rows))
    where
      stays : (c : Cap) → ((c.name.0 < suc issued) × (lookup c.name.0 rows ≡ c)) × (any (named c.name.0) rows ≡ true) → taken is_end c.name.0 ≡ false
          → lookup c.name.0 (rows_after sheet issued rows (Single by (Create w s r))) ≡ lowered (taken is_lower c.name.0) c
      stays c q e =
          let left : List Cap = filter (λ c. not (taken is_end c.name.0)) rows in
          let found : any (named c.name.0) left ≡ true = any_kept (λ c. c.name.0) (λ x. not (taken is_end x)) c.name.0 (ap not e) rows ∙ q.1 in
          rw (create_rows, below_differs q.0.0)
          (lookup_lower (taken is_lower) c.name.0 left found ∙ ap (λ c. lowered (taken is_lower c.name.0) c) (lookup_left (taken is_end) c.name.0 e rows ∙ q.0.1))

  -- One whose life is taken has ended.
  pub taken_ends : (x : ℕ) → x < suc issued → taken is_end x ≡ true → any (named x) (rows_after sheet issued rows (Single by (Create w s r))) ≡ false
  unfolding revoke
  taken_ends x l e = rw (create_rows, below_differs l, any_map (λ c. lowered (taken is_lower c.name.0) c) (named x) left) (any_false (named x) left (All_map _ _ apart left (passes (λ c. not (taken is_end c.name.0)) rows)))
    where
      left : List Cap
      left = filter (λ c. not (taken is_end c.name.0)) rows

      apart : (c : Cap) → not (taken is_end c.name.0) ≡ true → named x c ≡ false
      apart c p = ne_eqb x c.name.0 (λ (q : x ≡ c.name.0). clash (ap (taken is_end) (sym q) ∙ e) (not-true (taken is_end c.name.0) p))

  -- A create of length 0 takes nothing.
  pub create_nothing : s.length ≡ 0 → rows_after sheet issued rows (Single by (Create w s r)) ≡ row (root by issued s r) r.right 1 ∷ rows
  unfolding revoke
  create_nothing z =
      create_rows
      ∙ ap {B = List Cap} (λ l. row (root by issued s r) r.right 1 ∷ l)
      (taken_cong (taken is_end) (taken is_lower) (λ x. false) (λ x. false) rows (All_of _ (λ c. (none is_end (ancestry (derivations rows) c.name.0), none is_lower (ancestry (derivations rows) c.name.0))) rows)
      ∙ map_id _
      ∙ filter_all (λ c. true) rows (All_of _ (λ c. refl) rows))
    where
      none : (is : Effect → Bool) (x : List Derivation) → stranger_takes sheet is s x ≡ false
      none is x = any_false (λ d. touches s d.span && is (result_of sheet d.kind Writing Stranger)) x (All_of _ (λ d. rw (touches_none s d.span z)) x)

-- ---- by card 6's sheet

-- s touches the span of a capability or of an ancestor of it
abbrev pub touches_any : Span → List Derivation → Bool
touches_any s = any (λ d. touches s d.span)

stranger_ends : (kind : ℕ) → result_of sheet6 kind Writing Stranger ≡ End
stranger_ends zero = refl
stranger_ends (suc zero) = refl
stranger_ends (suc (suc k)) = refl

-- Card 4: "it ends every live capability its span touches, with subtrees", of every kind; and lowers nothing.
pub fresh_ends : (s : Span) (x : List Derivation) → stranger_takes sheet6 is_end s x ≡ touches_any s x
fresh_ends s [] = refl
fresh_ends s (d ∷ above) = rw (stranger_ends d.kind, fresh_ends s above) (ap (λ b. b || touches_any s above) (and-true (touches s d.span)))

pub fresh_lowers : (s : Span) (x : List Derivation) → stranger_takes sheet6 is_lower s x ≡ false
fresh_lowers s [] = refl
fresh_lowers s (d ∷ above) = rw (stranger_ends d.kind, and-false (touches s d.span)) (fresh_lowers s above)

pub fresh_rows : (issued : ℕ) (rows : List Cap) → Named rows → rows_in_order (suc issued) rows ≡ true → (by : Caller) (w : Option Name) (s : Span) (r : Terms)
    → rows_after sheet6 issued rows (Single by (Create w s r)) ≡ row (root by issued s r) r.right 1 ∷ filter (λ c. not (touches_any s (ancestry (derivations rows) c.name.0))) rows
unfolding revoke
fresh_rows issued rows n h by w s r =
    create_rows sheet6 issued rows n h by w s r
    ∙ ap {B = List Cap} (λ l. row (root by issued s r) r.right 1 ∷ l)
    (taken_cong _ _ (λ x. touches_any s (ancestry (derivations rows) x)) (λ x. false) rows
    (All_of _ (λ c. (fresh_ends s (ancestry (derivations rows) c.name.0), fresh_lowers s (ancestry (derivations rows) c.name.0))) rows)
    ∙ map_id _)
