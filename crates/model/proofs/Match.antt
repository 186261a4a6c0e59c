-- Over every list of requests the lent table is the history's, and so are the answers and the issued number: by induction over the list.
-- Assumes nothing.
use mathlib.Core.Path.{◌≡◌, refl, sym, ap, ap₂, ◌∙◌}
use mathlib.Core.Logic.{◌⊎◌, inl, inr}
use mathlib.Core.Bool.{Bool, true, false, not, cond, ◌&&◌, ◌||◌, and-true, or-true, or-false}
use mathlib.Core.List.{List, [], ◌∷◌, ◌++◌, map}
use Prim.Native.Nat.{ℕ, zero, suc, ◌<◌, ◌≤◌}
use native.Mathlib.Nat.{sub-zero}
use native.Mathlib.Omega.{arith}
use lib.Dec.{eqb, leb, ltb}
use lib.ListN.{length, get_or}
use borrow.Author.Tests.{eqb-true, ne_eqb, leb-true, le-leb, ltb-false, not-false}
use Rattle.model.specs.declared.Name.{Name}
use Rattle.model.specs.declared.Span.{Span}
use Rattle.model.specs.declared.Cap.{Cap}
use Rattle.model.specs.declared.Tally.{Tally}
use Rattle.model.specs.declared.Access.TheVariants.{Reading, Writing}
use Rattle.model.specs.declared.Event.TheVariants.{Create, Borrow, Read, Write, Drop}
use Rattle.model.specs.Requests.{Request, Single, Group, Mark, Back}
use Rattle.model.specs.Slots.{Memory, Slot, Nothing, Stored, slot_map}
use Rattle.model.specs.declared.Sheet.{Sheet}
use Rattle.model.specs.Lists.{filter, any, answers, final}
use Rattle.model.specs.Derivation.{Derivation, ancestry, in_subtree}
use Rattle.model.specs.Strike.{is_lower, is_end, reached, struck, reclaimed}
use Rattle.model.specs.Values.{end, inside, legal}
use Rattle.model.specs.Bits.{bit_at, bits_after, span_written, in_span}
use Rattle.model.specs.Limits.{refused_sheet}
use Rattle.model.specs.Step.{State, view, worked, initial}
use Rattle.model.specs.Table.{row, span, derivation, named, live_rows, lent_table, lookup, is_right, is_marked, terms_in_order, in_order}
use Rattle.model.specs.Refusals.{View, not_a_domain, not_a_holder, table_in, unfit_table, not_written, refusals, judge}
use Rattle.model.specs.Effects.{root, child, revoke, after_access, in_subtrees, rows_without, rows_after, issued_after}
use Rattle.model.specs.Table
use Rattle.model.specs.Effects
use Rattle.model.specs.Counts
use Rattle.model.specs.Step
use Rattle.model.specs.History.{Note, New, Accessed, Dropped, derived_by, derivations, ends, lowers, hits, lives, row_of, rows, table, mark_on, notes_of, written, empty_history}
use Rattle.model.specs.History
use Rattle.model.proofs.Lists.{All, All_of, All_map, test, clash, and_both, or_neither, and_neither, any_false, filter_all, filter_cong, filter_filter, map_id}
use Rattle.model.proofs.Slots.{SlotBoth, SlotsBoth, both_first, both_set, both_at, both_stored, both_length, both_map}
use Rattle.model.proofs.Ancestries.{Closed, Falling, ancestry_step, ancestry_zero, ancestry_above, ancestry_upto}
use Rattle.model.proofs.Notes.{Sound, sound_wider, falling, lives_older, rows_all, row_of_new, revoked_by, rows_noted}
use Rattle.model.proofs.Agree.{Through, closed_noted, falling_rows, ancestry_rows, rows_live, present_lives, rows_after_lem}
use Rattle.model.proofs.Lent.{Named, live_lent, length_lent, lookup_found, lookup_named}
use Rattle.model.proofs.Judged.{allowed, in_order_lem, root_given, child_given, counted_issued, Stands, Rising, drop_stands, group_rises, group_stands}
use Rattle.model.proofs.Order.{rows_in_order_wider, names_enough, terms_given, marked_low, ordered, next_fits, order_next, order_fresh}
use Rattle.model.proofs.Bits.{BitsTold, told_first, span_law, length_after, all_same}

-- and never down
pub count_raised : (i : ℕ) (q : Request) → i ≤ issued_after i q
count_raised i (Single by (Create w s r)) = omega arith
count_raised i (Single by (Borrow w u s r)) = omega arith
count_raised i (Single by (Read u s)) = omega arith
count_raised i (Single by (Write u s)) = omega arith
count_raised i (Single by (Drop u)) = omega arith
count_raised i (Group by names) = omega arith
count_raised i (Mark by k) = omega arith
count_raised i (Back by k) = omega arith

right_given : (r : ℕ) → is_right r ≡ true → cond (eqb r 2) 2 1 ≡ r
right_given r h = go (test (eqb r 2))
  where
    go : (eqb r 2 ≡ true) ⊎ (eqb r 2 ≡ false) → cond (eqb r 2) 2 1 ≡ r
    go (inl e) = rw e (sym (eqb-true r 2 e))
    go (inr e) = rw e (sym (eqb-true r 1 (sym (or-false (eqb r 1)) ∙ (rw e at h))))

-- rows from which nothing is taken
all_left : (rows : List Cap) → filter (λ r. true) rows ≡ rows
all_left rows = filter_all (λ r. true) rows (All_of (λ r. true ≡ true) (λ r. refl) rows)

module _ (sheet : Sheet) where
  -- what stays true of the notes, of the names given out and of a number of rows
  pub record Kept (n count : ℕ) (notes : List Note) : Type 0 where
    pub sound : Sound (suc count) notes
    pub closed : Closed (lives sheet notes) (derivations notes)
    pub fits : length (rows sheet notes) ≤ n

  rows_named : (n : ℕ) (notes : List Note) → Sound n notes → Named (rows sheet notes)
  unfolding row_of
  rows_named n notes s =
      rows_all sheet notes (λ c. named 0 c ≡ false) (All_map _ _ (λ b h e. ne_eqb 0 b.name (λ (q : 0 ≡ b.name). omega arith)) (derivations notes) (ancestry_step n (derivations notes) (falling n notes s)))

  -- the depth of a row is the length of its ancestry
  rows_depth : (notes : List Note) → All (λ c. c.depth ≡ length (ancestry (derivations notes) c.name.0)) (rows sheet notes)
  unfolding row_of
  rows_depth notes = rows_all sheet notes (λ c. c.depth ≡ length (ancestry (derivations notes) c.name.0)) (All_of _ (λ b e. refl) (derivations notes))

  -- ---- an allowed request and its notes

  module _ (n i : ℕ) (notes : List Note) (k : Kept n i notes) where
    pub live_rows_lem : live_rows (table sheet n notes) ≡ rows sheet notes
    live_rows_lem = live_lent n (rows sheet notes) (rows_named (suc i) notes k.sound)

    pub rows_fit : length (table sheet n notes) ≡ n
    rows_fit = length_lent n (rows sheet notes) k.fits

    -- a name that stands
    stands_given : (u : ℕ) → Stands (live_rows (table sheet n notes)) i u → u < suc i
    stands_given u p = omega (arith, ltb-false i u (or_neither (eqb u 0) (ltb i u) p.0).1)

    stands_lives : (u : ℕ) → Stands (live_rows (table sheet n notes)) i u → lives sheet notes u ≡ true
    stands_lives u p = present_lives sheet (suc i) notes k.sound k.closed u (rw live_rows_lem at p.1)

    stands_through : (u : ℕ) → Stands (live_rows (table sheet n notes)) i u → eqb u 0 || lives sheet notes u ≡ true
    stands_through u p = rw (stands_lives u p) (or-true (eqb u 0))

    depth_found : (x : ℕ) → any (named x) (live_rows (table sheet n notes)) ≡ true → (lookup x (rows sheet notes)).depth ≡ length (ancestry (derivations notes) x)
    depth_found x h =
        let f : any (named x) (rows sheet notes) ≡ true = rw live_rows_lem at h in
        lookup_found (λ c. c.depth ≡ length (ancestry (derivations notes) c.name.0)) x (rows sheet notes) f (rows_depth notes) ∙ ap (λ y. length (ancestry (derivations notes) y)) (lookup_named x (rows sheet notes) f)

    -- the mark of a row is the one noted
    mark_found : (x : ℕ) → any (named x) (live_rows (table sheet n notes)) ≡ true → (lookup x (rows sheet notes)).fresh ≡ mark_on (ancestry (derivations notes) x)
    unfolding row_of
    mark_found x h =
        let f : any (named x) (rows sheet notes) ≡ true = rw live_rows_lem at h in
        lookup_found (λ c. c.fresh ≡ mark_on (ancestry (derivations notes) c.name.0)) x (rows sheet notes) f
        (rows_all sheet notes (λ c. c.fresh ≡ mark_on (ancestry (derivations notes) c.name.0)) (All_map _ _ (λ b s e. sym (ap mark_on s.2)) (derivations notes) (ancestry_step (suc i) (derivations notes) (falling (suc i) notes k.sound))))
        ∙ ap (λ y. mark_on (ancestry (derivations notes) y)) (lookup_named x (rows sheet notes) f)

    new_row : (b : Derivation) (r d : ℕ) → Sound (suc (suc i)) (New b r ∷ notes) → is_right r ≡ true → d ≡ length (ancestry (derivations notes) b.parent) → row_of sheet (New b r ∷ notes) b ≡ row b r (suc d)
    new_row b r d s h e = row_of_new sheet (suc (suc i)) b r notes s ∙ rw (right_given r h, e)

    live : List Derivation
    live = Table.derivations (rows sheet notes)

    falls : Falling (suc i) (Table.derivations (rows sheet notes))
    falls = falling_rows sheet (suc i) notes k.sound k.closed

    -- what is noted of names dropped together, and what it leaves
    record Without (names : List ℕ) : Type 0 where
      pub sound : Sound (suc i) (map Dropped names ++ notes)
      pub same_derivations : derivations (map Dropped names ++ notes) ≡ derivations notes
      pub closed : Closed (lives sheet (map Dropped names ++ notes)) (derivations (map Dropped names ++ notes))
      pub rows_left : rows sheet (map Dropped names ++ notes) ≡ filter (λ c. not (in_subtrees names (ancestry (derivations notes) c.name.0))) (rows sheet notes)
      -- a smaller name lives on: its ancestors are smaller still
      pub smaller_lives : (x : ℕ) → All (λ u. x < u) names → lives sheet (map Dropped names ++ notes) x ≡ lives sheet notes x

    without : (names : List ℕ) → Rising names → All (Stands (live_rows (table sheet n notes)) i) names → Without names
    unfolding derivations derived_by hits ends lowers
    without [] r a =
        record {
          sound = k.sound;
          same_derivations = refl;
          closed = k.closed;
          rows_left = sym (all_left (rows sheet notes));
          smaller_lives = λ x b. refl;
        }
    without (u ∷ names) r a =
        let earlier = without names r.1 a.1 in
        let given = stands_given u a.0 in
        let sound : Sound (suc i) (Dropped u ∷ (map Dropped names ++ notes)) = (tt, given, earlier.sound) in
        let lived : lives sheet (map Dropped names ++ notes) u ≡ true = earlier.smaller_lives u r.0 ∙ stands_lives u a.0 in
        record {
          sound = sound;
          same_derivations = earlier.same_derivations;
          closed = closed_noted sheet (suc i) (Dropped u) (map Dropped names ++ notes) sound (rw lived (or-true (eqb u 0))) earlier.closed;
          rows_left =
              rows_noted sheet (suc i) (Dropped u) (map Dropped names ++ notes) sound
              ∙ map_id _
              ∙ ap₂ (λ B l. filter (λ c. not (in_subtree u (ancestry B c.name.0))) l) earlier.same_derivations earlier.rows_left
              ∙ filter_filter (λ c. not (in_subtrees names (above c))) (λ c. not (in_subtree u (above c))) (rows sheet notes)
              ∙ filter_cong _ _ (rows sheet notes) (All_of _ (λ c. sym (and_neither true (in_subtree u (above c)) (in_subtrees names (above c)))) (rows sheet notes));
          smaller_lives =
              λ x b.
              lives_older sheet (suc i) (Dropped u) (map Dropped names ++ notes) sound x (omega (arith, b.0))
              ∙ ap (λ hit. lives sheet (map Dropped names ++ notes) x && not hit) (off (map Dropped names ++ notes) earlier.sound u x b.0)
              ∙ and-true (lives sheet (map Dropped names ++ notes) x)
              ∙ earlier.smaller_lives x b.1;
        }
      where
        above : Cap → List Derivation
        above c = ancestry (derivations notes) c.name.0

        off : (notes : List Note) → Sound (suc i) notes → (u x : ℕ) → x < u → in_subtree u (ancestry (derivations notes) x) ≡ false
        off notes s u x l =
            any_false (λ d. eqb u d.name) (ancestry (derivations notes) x)
            (All_map _ _ (λ d k. ne_eqb u d.name (λ (e : u ≡ d.name). omega arith)) (ancestry (derivations notes) x) (ancestry_upto (suc i) x (derivations notes) (falling (suc i) notes s)))

    rows_without_lem : (names : List ℕ) → Without names → rows sheet (map Dropped names ++ notes) ≡ rows_without names (rows sheet notes)
    unfolding rows_without revoke
    rows_without_lem names w =
        w.rows_left
        ∙ filter_cong _ _ (rows sheet notes)
        (All_map _ _ (λ c l. ap (λ x. not (in_subtrees names x)) (ancestry_rows sheet (suc i) notes k.sound k.closed c.name.0 (rw l (or-true (eqb c.name.0 0))))) (rows sheet notes) (rows_live sheet (suc i) notes k.sound k.closed))
        ∙ sym (map_id _)

    -- what an allowed request notes is sound, leaves parents living with their children, and does to the history's rows what the request does
    -- to the live rows
    pub record Next (q : Request) : Type 0 where
      pub is_sound : Sound (suc (issued_after i q)) (notes_of notes i q ++ notes)
      pub is_closed : Closed (lives sheet (notes_of notes i q ++ notes)) (derivations (notes_of notes i q ++ notes))
      pub same_rows : rows sheet (notes_of notes i q ++ notes) ≡ rows_after sheet i (rows sheet notes) q

    -- by one note, with what it makes and what it takes
    next_noted : (q : Request) (w : Note) → notes_of notes i q ≡ w ∷ [] → Sound (suc (issued_after i q)) (w ∷ notes) → Through sheet notes w
        → map (row_of sheet (w ∷ notes)) (derived_by w) ++ revoked_by sheet (Table.derivations (rows sheet notes)) w (rows sheet notes) ≡ rows_after sheet i (rows sheet notes) q → Next q
    next_noted q w e s t same =
        record {
          is_sound = rw e s;
          is_closed = rw e (closed_noted sheet (suc (issued_after i q)) w notes s t k.closed);
          same_rows = rw e (rows_after_lem sheet (suc i) notes k.sound k.closed (suc (issued_after i q)) w s t ∙ same);
        }

    -- what the note of a new name leaves of the rows
    reclaim : Bool → List Derivation → Span → List Cap
    reclaim is_root user s =
        revoke (λ x. is_root && reached sheet is_end Writing s user (ancestry live x)) (λ x. is_root && reached sheet is_lower Writing s user (ancestry live x)) (rows sheet notes)

    -- a create goes through no name, and a new name has no ancestry yet
    outside : ancestry live 0 ≡ ancestry live (suc i)
    unfolding live
    outside = ancestry_zero (suc i) live falls ∙ sym (ancestry_above (suc i) (suc i) live falls (omega arith))

    pub next : (slots : List (Slot (List Note))) (q : Request) → judge (History.view sheet n slots notes i) q ≡ 0 → Next q
    unfolding refusals notes_of derived_by ends lowers hits struck reclaimed revoke after_access rows_after live reclaim
    next slots (Single by (Create w s r)) h =
        let sound : Sound (suc (suc i)) (New (root by i s r) r.right ∷ notes) = (omega arith, omega arith, k.sound) in
        next_noted (Single by (Create w s r)) (New (root by i s r) r.right) refl sound refl
        (ap₂ {C = List Cap} (λ c l. c ∷ l)
        (new_row (root by i s r) r.right 0 sound (root_given (History.view sheet n slots notes i) by w s r h).0.right (rw (ancestry_zero (suc i) (derivations notes) (falling (suc i) notes k.sound))))
        (ap (λ user. reclaim true user s) outside))
    next slots (Single by (Borrow w u s r)) h =
        let p = allowed (History.view sheet n slots notes i) (Single by (Borrow w u s r)) h in
        let stands : Stands (live_rows (table sheet n notes)) i u.0 = (p 4, not-false (any (named u.0) (live_rows (table sheet n notes))) (p 5)) in
        let new : Derivation = child by i u (mark_on (ancestry (derivations notes) u.0)) s r in
        let sound : Sound (suc (suc i)) (New new r.right ∷ notes) = (omega arith, stands_given u.0 stands, k.sound) in
        next_noted (Single by (Borrow w u s r)) (New new r.right) refl sound (stands_through u.0 stands)
        (ap₂ {C = List Cap} (λ c l. c ∷ l)
        (new_row new r.right (lookup u.0 (rows sheet notes)).depth sound (child_given (History.view sheet n slots notes i) by w s r u h).0.right (depth_found u.0 stands.1)
        ∙ ap (λ (m : ℕ). row (child by i u m s r) r.right (suc (lookup u.0 (rows sheet notes)).depth)) (sym (mark_found u.0 stands.1)))
        (ap (λ is_root. reclaim is_root (ancestry live u.0) s) (or_neither (eqb u.0 0) (ltb i u.0) (p 4)).0 ∙ map_id _ ∙ all_left (rows sheet notes)))
    next slots (Single by (Read u s)) h =
        let p = allowed (History.view sheet n slots notes i) (Single by (Read u s)) h in
        let stands : Stands (live_rows (table sheet n notes)) i u.0 = (p 4, not-false (any (named u.0) (live_rows (table sheet n notes))) (p 5)) in
        next_noted (Single by (Read u s)) (Accessed Reading u.0 s) refl (tt, stands_given u.0 stands, k.sound) (stands_through u.0 stands) refl
    next slots (Single by (Write u s)) h =
        let p = allowed (History.view sheet n slots notes i) (Single by (Write u s)) h in
        let stands : Stands (live_rows (table sheet n notes)) i u.0 = (p 4, not-false (any (named u.0) (live_rows (table sheet n notes))) (p 5)) in
        next_noted (Single by (Write u s)) (Accessed Writing u.0 s) refl (tt, stands_given u.0 stands, k.sound) (stands_through u.0 stands) refl
    next slots (Single by (Drop u)) h =
        let w = without (u.0 ∷ []) (tt, tt) (drop_stands (History.view sheet n slots notes i) by u h, tt) in
        record { is_sound = w.sound; is_closed = w.closed; same_rows = rows_without_lem (u.0 ∷ []) w }
    next slots (Group by names) h =
        let w = without names (group_rises (History.view sheet n slots notes i) by names h) (group_stands (History.view sheet n slots notes i) by names h) in
        record { is_sound = w.sound; is_closed = w.closed; same_rows = rows_without_lem names w }
    next slots (Mark by j) h = record { is_sound = k.sound; is_closed = k.closed; same_rows = refl }
    next slots (Back by j) h = record { is_sound = k.sound; is_closed = k.closed; same_rows = refl }

    pub kept_next : (slots : List (Slot (List Note))) (q : Request) → judge (History.view sheet n slots notes i) q ≡ 0 → Kept n (issued_after i q) (notes_of notes i q ++ notes)
    kept_next slots q h =
        record {
          sound = (next slots q h).is_sound;
          closed = (next slots q h).is_closed;
          fits = rw (next slots q h).same_rows (rw (live_rows_lem, rows_fit) at (next_fits sheet (History.view sheet n slots notes i) (ordered (table sheet n notes) i (in_order_lem (History.view sheet n slots notes i) q h)) q h));
        }

    -- the bits after an allowed request are what its notes say
    bits_said : (slots : List (Slot (List Note))) (bytes : List ℕ) → BitsTold bytes notes → (q : Request) → judge (History.view sheet n slots notes i) q ≡ 0 → (a : ℕ) → a < 65536 → bit_at (bits_after bytes q) a ≡ written (notes_of notes i q ++ notes) a
    unfolding bits_after notes_of written refusals
    bits_said slots bytes b (Single by (Create w s r)) h a l = span_law false s a bytes b.size l ∙ ap (cond (in_span s a) false) (b.told a l)
    bits_said slots bytes b (Single by (Borrow w u s r)) h a l =
        b.told a l ∙ sym (ap (λ (c : Bool). cond (c && in_span s a) false (written notes a)) (or_neither (eqb u.0 0) (ltb i u.0) (allowed (History.view sheet n slots notes i) (Single by (Borrow w u s r)) h 4)).0)
    bits_said slots bytes b (Single by (Read u s)) h a l = b.told a l
    bits_said slots bytes b (Single by (Write u s)) h a l = span_law true s a bytes b.size l ∙ ap (cond (in_span s a) true) (b.told a l) ∙ either (in_span s a) (written notes a)
      where
        either : (c d : Bool) → cond c true d ≡ c || d
        either true d = refl
        either false d = refl
    bits_said slots bytes b (Single by (Drop u)) h a l = b.told a l
    bits_said slots bytes b (Group by names) h a l = b.told a l ∙ sym (dropped names)
      where
        dropped : (names : List ℕ) → written (map Dropped names ++ notes) a ≡ written notes a
        dropped [] = refl
        dropped (u ∷ names) = dropped names
    bits_said slots bytes b (Mark by k) h a l = b.told a l
    bits_said slots bytes b (Back by k) h a l = b.told a l

    bits_next : (slots : List (Slot (List Note))) (bytes : List ℕ) → BitsTold bytes notes → (q : Request) → judge (History.view sheet n slots notes i) q ≡ 0 → BitsTold (bits_after bytes q) (notes_of notes i q ++ notes)
    bits_next slots bytes b q h = record { size = length_after bytes q ∙ b.size; told = bits_said slots bytes b q h }

  -- ---- one request, and a list of requests

  -- the lent table and bits are those of the notes, when so many names have been counted
  pub record Agrees (n i : ℕ) (m : Memory) (notes : List Note) : Type 0 where
    pub same_table : m.table ≡ table sheet n notes
    pub kept : Kept n i notes
    pub bits : BitsTold m.bits notes
    -- up to 1,024 rows the table is in order, and above that nothing is ever noted
    pub is_ordered : leb n 1024 ≡ true → in_order (table sheet n notes) i ≡ true
    pub nothing_noted : leb n 1024 ≡ false → notes ≡ []

  -- as names are given, what agreed agrees still
  later : (n i : ℕ) (m : Memory) (notes : List Note) → suc i ≤ 1000000 → Agrees n i m notes → Agrees n (suc i) m notes
  unfolding in_order
  later n i m notes l a =
      record {
        same_table = a.same_table;
        kept = record { sound = sound_wider (suc i) (suc (suc i)) notes (omega arith) a.kept.sound; closed = a.kept.closed; fits = a.kept.fits };
        bits = a.bits;
        is_ordered =
            λ y. let o = ordered (table sheet n notes) i (a.is_ordered y) in
            rw (o.few, o.rest_is_empty, le-leb (suc i) 1000000 l) (rows_in_order_wider (suc i) (suc (suc i)) (live_rows (table sheet n notes)) (omega arith) o.rise);
        nothing_noted = a.nothing_noted;
      }

  -- ---- what is stored

  module _ (n i : ℕ) where
    slot_same : (s : Slot Memory) (t : Slot (List Note)) → SlotBoth (Agrees n i) s t → table_in s ≡ slot_map (table sheet n) t
    slot_same Nothing Nothing a = refl
    slot_same Nothing (Stored notes) a = absurd a
    slot_same (Stored m) Nothing a = absurd a
    slot_same (Stored m) (Stored notes) a = ap {B = Slot (List Cap)} (λ (u : List Cap). Stored u) a.same_table

    slots_next : (q : Request) → leb (issued_after i q) 1000000 ≡ true → (ss : List (Slot Memory)) (ts : List (Slot (List Note))) → SlotsBoth (Agrees n i) ss ts → SlotsBoth (Agrees n (issued_after i q)) ss ts
    slots_next (Single by (Create w s r)) l ss ts = both_map (Agrees n i) (Agrees n (suc i)) (λ m notes. later n i m notes (leb-true (suc i) 1000000 l)) ss ts
    slots_next (Single by (Borrow w u s r)) l ss ts = both_map (Agrees n i) (Agrees n (suc i)) (λ m notes. later n i m notes (leb-true (suc i) 1000000 l)) ss ts
    slots_next (Single by (Read u s)) l ss ts = λ a. a
    slots_next (Single by (Write u s)) l ss ts = λ a. a
    slots_next (Single by (Drop u)) l ss ts = λ a. a
    slots_next (Group by names) l ss ts = λ a. a
    slots_next (Mark by k) l ss ts = λ a. a
    slots_next (Back by k) l ss ts = λ a. a

  -- what is lent matches the history
  pub record Match (n : ℕ) (h : State) (H : History.History) : Type 0 where
    pub memory : Agrees n H.count h.memory H.notes
    pub same_issued : h.tally.issued ≡ H.count
    pub slots : SlotsBoth (Agrees n H.count) h.slots H.kept

  -- ---- both judge alike

  -- 16 is asked of a living capability, of a span inside its own, and of a table in order
  module _ (n i : ℕ) (notes : List Note) (bytes : List ℕ) (b : BitsTold bytes notes) (u : Name) (s : Span) where
    abbrev listed_rows : List Cap
    listed_rows = live_rows (table sheet n notes)

    abbrev found : Cap
    found = lookup u.0 listed_rows

    same_sixteen : in_order (table sheet n notes) i ≡ true → any (named u.0) listed_rows ≡ true → inside s (span found) ≡ true
        → not_written listed_rows i (bit_at bytes) u s ≡ not_written listed_rows i (written notes) u s
    unfolding not_written
    same_sixteen f l o = go (test (is_marked (derivation found)))
      where
        go : (is_marked (derivation found) ≡ true) ⊎ (is_marked (derivation found) ≡ false) → is_marked (derivation found) && not (span_written (bit_at bytes) s) ≡ is_marked (derivation found) && not (span_written (written notes) s)
        go (inr e) = rw e
        go (inl y) =
            ap (λ (w : Bool). is_marked (derivation found) && not w)
            (all_same (bit_at bytes) (written notes) s.start.0 s.length
            (λ x m j. b.told x (omega (arith, low, leb-true (end s) (end (span found)) (and_both (leb found.start.0 s.start.0) (leb (end s) (end (span found))) o).1))))
          where
            low : end (span found) ≤ 65536
            low = marked_low (derivation found) (lookup_found (λ c. terms_in_order (derivation c) ≡ true) u.0 listed_rows l (terms_given (suc i) listed_rows (ordered (table sheet n notes) i f).rise)) y

  -- the history's table and slots with the lent bits
  abbrev pub lent_view : ℕ → ℕ → List (Slot (List Note)) → List Note → List ℕ → View
  lent_view n i slots notes bytes = record { table = table sheet n notes; issued = i; is_written = bit_at bytes; bytes = 8192; slot = λ k. slot_map (table sheet n) (get_or slots k Nothing); slot_count = length slots }

  told_judge : (n i : ℕ) (slots : List (Slot (List Note))) (notes : List Note) (bytes : List ℕ) → BitsTold bytes notes → (q : Request) → judge (lent_view n i slots notes bytes) q ≡ judge (History.view sheet n slots notes i) q
  unfolding judge refusals
  told_judge n i slots notes bytes b (Single by (Create w s r)) = refl
  told_judge n i slots notes bytes b (Single by (Borrow w u s r)) = refl
  told_judge n i slots notes bytes b (Single by (Read u s)) =
      last (unfit_table by.limits (table sheet n notes) i) (not (eqb (length slots) 8)) (not_a_domain by.actor) (not (legal s)) (eqb u.0 0 || ltb i u.0) (not (any (named u.0) live)) (not_a_holder live i by.actor u) (not (inside s (span (lookup u.0 live)))) (not_written live i (bit_at bytes) u s) (not_written live i (written notes) u s)
      (λ f e o. same_sixteen n i notes bytes b u s (not-false (in_order (table sheet n notes) i) (or_neither (not (in_order (table sheet n notes) i)) (refused_sheet (table sheet n notes) by.limits) f).0) (not-false (any (named u.0) live) e) (not-false (inside s (span (lookup u.0 live))) o))
    where
      live : List Cap
      live = live_rows (table sheet n notes)

      last : (x y d j p e h o w w₀ : Bool) → (x ≡ false → e ≡ false → o ≡ false → w ≡ w₀)
          → ◌≡◌ {A = ℕ} (cond (x || y) 1 (cond d 2 (cond j 3 (cond p 4 (cond e 5 (cond h 17 (cond o 6 (cond w 16 0)))))))) (cond (x || y) 1 (cond d 2 (cond j 3 (cond p 4 (cond e 5 (cond h 17 (cond o 6 (cond w₀ 16 0))))))))
      last true y d j p e h o w w₀ f = refl
      last false y d j p true h o w w₀ f = refl
      last false y d j p false h true w w₀ f = refl
      last false y d j p false h false w w₀ f = ap (λ (c : Bool). cond y 1 (cond d 2 (cond j 3 (cond p 4 (cond h 17 (cond c 16 0)))))) (f refl refl refl)
  told_judge n i slots notes bytes b (Single by (Write u s)) = refl
  told_judge n i slots notes bytes b (Single by (Drop u)) = refl
  told_judge n i slots notes bytes b (Group by names) = refl
  told_judge n i slots notes bytes b (Mark by k) = refl
  told_judge n i slots notes bytes b (Back by k) = refl

  module _ (n : ℕ) (h : State) (H : History.History) (m : Match n h H) (q : Request) where
    same_view : view h ≡ lent_view n H.count H.kept H.notes h.memory.bits
    same_view =
        λ j. record {
          table = m.memory.same_table j;
          issued = m.same_issued j;
          is_written = bit_at h.memory.bits;
          bytes = m.memory.bits.size j;
          slot = λ k. slot_same n H.count (get_or h.slots k Nothing) (get_or H.kept k Nothing) (both_at (Agrees n H.count) h.slots H.kept m.slots k) j;
          slot_count = both_length (Agrees n H.count) h.slots H.kept m.slots j;
        }

    pub same_judge : judge (view h) q ≡ judge (History.view sheet n H.kept H.notes H.count) q
    same_judge = ap (λ v. judge v q) same_view ∙ told_judge n H.count H.kept H.notes h.memory.bits m.memory.bits q

    pub same_answer : Step.answer h q ≡ History.answer sheet n H q
    unfolding Step.answer History.answer
    same_answer = ap₂ Step.verdict same_judge (ap (λ i. Effects.new_name i q) m.same_issued)

  -- an allowed event or group does to the table and the bits what its notes say
  agrees_next : (n : ℕ) (slots : List (Slot (List Note))) (i : ℕ) (m : Memory) (notes : List Note) → Agrees n i m notes → (q : Request) → judge (History.view sheet n slots notes i) q ≡ 0 → Agrees n (issued_after i q) (worked sheet i m q) (notes_of notes i q ++ notes)
  agrees_next n slots i m notes a q z =
      record {
        same_table =
            ap (λ t. lent_table (length t) (rows_after sheet i (live_rows t) q)) a.same_table
            ∙ rw (rows_fit n i notes a.kept, live_rows_lem n i notes a.kept) (ap (lent_table n) (sym (next n i notes a.kept slots q z).same_rows));
        kept = kept_next n i notes a.kept slots q z;
        bits = bits_next n i notes a.kept slots m.bits a.bits q z;
        is_ordered =
            λ y. rw (next n i notes a.kept slots q z).same_rows
            (rw (rows_fit n i notes a.kept, live_rows_lem n i notes a.kept) at (order_next sheet (History.view sheet n slots notes i) (ordered (table sheet n notes) i now) q z));
        nothing_noted = λ f. clash (rw (rows_fit n i notes a.kept) at (ordered (table sheet n notes) i now).few) f;
      }
    where
      now : in_order (table sheet n notes) i ≡ true
      now = in_order_lem (History.view sheet n slots notes i) q z

  module _ (n : ℕ) (h : State) (H : History.History) (m : Match n h H) (q : Request) where
    abbrev seen : View
    seen = History.view sheet n H.kept H.notes H.count

    match_worked : judge seen q ≡ 0 → Agrees n (issued_after H.count q) (worked sheet h.tally.issued h.memory q) (notes_of H.notes H.count q ++ H.notes)
    match_worked z = rw m.same_issued (agrees_next n H.kept H.count h.memory H.notes m.memory q z)

    issued_next : (Counts.count_allowed q h.tally).issued ≡ issued_after H.count q
    issued_next = counted_issued q h.tally ∙ ap (λ i. issued_after i q) m.same_issued

    slots_kept : judge seen q ≡ 0 → SlotsBoth (Agrees n (issued_after H.count q)) h.slots H.kept
    slots_kept z = slots_next n H.count q (names_enough sheet seen (ordered (table sheet n H.notes) H.count (in_order_lem seen q z)) q z) h.slots H.kept m.slots

  module _ (n : ℕ) (h : State) (H : History.History) (m : Match n h H) where
    match_allowed : (q : Request) → judge (History.view sheet n H.kept H.notes H.count) q ≡ 0 → Match n (Step.outcome sheet 0 h q) (History.outcome 0 H q)
    match_allowed (Single by e) z = record { memory = match_worked n h H m (Single by e) z; same_issued = issued_next n h H m (Single by e); slots = slots_kept n h H m (Single by e) z }
    match_allowed (Group by names) z = record { memory = match_worked n h H m (Group by names) z; same_issued = issued_next n h H m (Group by names); slots = slots_kept n h H m (Group by names) z }
    match_allowed (Mark by k) z = record { memory = m.memory; same_issued = m.same_issued; slots = both_set (Agrees n H.count) h.slots H.kept m.slots h.memory H.notes m.memory k }
    match_allowed (Back by k) z =
        record {
          memory = both_stored (Agrees n H.count) h.memory H.notes m.memory (get_or h.slots k Nothing) (get_or H.kept k Nothing) (both_at (Agrees n H.count) h.slots H.kept m.slots k);
          same_issued = m.same_issued;
          slots = m.slots;
        }

  module _ (n : ℕ) (h : State) (H : History.History) (m : Match n h H) (q : Request) where
    match_outcome : (j : ℕ) → judge (History.view sheet n H.kept H.notes H.count) q ≡ j → Match n (Step.outcome sheet j h q) (History.outcome j H q)
    match_outcome zero z = match_allowed n h H m q z
    match_outcome (suc zero) z = m
    match_outcome (suc (suc j)) z = record { memory = m.memory; same_issued = m.same_issued; slots = m.slots }

    pub match_after : Match n (Step.after sheet h q) (History.after sheet n H q)
    unfolding Step.after History.after
    match_after = rw (same_judge n h H m q) (match_outcome (judge (History.view sheet n H.kept H.notes H.count) q) refl)

  pub run : (n : ℕ) (qs : List Request) (h : State) (H : History.History) → Match n h H
      → (answers (Step.after sheet) Step.answer h qs ≡ answers (History.after sheet n) (History.answer sheet n) H qs)
      × Match n (final (Step.after sheet) h qs) (final (History.after sheet n) H qs)
  run n [] h H m = (refl, m)
  run n (q ∷ qs) h H m =
      let r = run n qs (Step.after sheet h q) (History.after sheet n H q) (match_after n h H m q) in
      (ap₂ {C = List Step.Verdict} (λ x xs. x ∷ xs) (same_answer n h H m q) r.0, r.1)

  pub kept_first : (n : ℕ) → Kept n 0 []
  unfolding rows derivations
  kept_first n = record { sound = tt; closed = tt; fits = omega arith }

  table_first : (n : ℕ) → (initial n (Counts.tally 0 0 0 0 0 0 0)).memory.table ≡ table sheet n []
  unfolding lent_table rows derivations
  table_first n = rw (sub-zero n)

  pub at_first : (n : ℕ) (t : Tally) → t.issued ≡ 0 → Match n (initial n t) empty_history
  at_first n t z =
      record {
        memory =
            record {
              same_table = table_first n;
              kept = kept_first n;
              bits = told_first;
              is_ordered = λ y. rw (← table_first n) (order_fresh n (Counts.tally 0 0 0 0 0 0 0) (leb-true n 1024 y) refl);
              nothing_noted = λ f. refl;
            };
        same_issued = z;
        slots = both_first (Agrees n 0) 8;
      }
