-- The checks of an event in their order: groups of them, one after the other.
-- Assumes nothing.
use Rattle.std.specs.Prelude.{Err, Ok, Option, Result}
use mathlib.Core.Path.{◌≡◌, refl, sym, ap, ap₂, ◌∙◌}
use mathlib.Core.Logic.{◌⊎◌, inl, inr}
use mathlib.Core.Bool.{Bool, true, false, not, cond, ◌||◌}
use mathlib.Core.List.{List, [], ◌∷◌, ◌++◌}
use Prim.Native.Nat.{ℕ, zero, suc, ◌+◌, ◌-◌, ◌<◌, ◌≤◌}
use native.Mathlib.Nat.{not-suc-le-zero, le_of_suc-le-suc}
use native.Mathlib.Omega.{arith}
use lib.Dec.{eqb, leb, ltb}
use lib.ListN.{length, get_or, drop, length-drop}
use lib.Seq.{get_or-drop}
use borrow.Author.Tests.{eqb-true, eq-eqb, not-false, ltb-true, ne_eqb, le-ltb, lt-ltb, leb-true, le-leb, lt-leb}
use Rattle.model.specs.declared.Name.{Name}
use Rattle.model.specs.declared.Span.{Span}
use Rattle.model.specs.declared.Cap.{Cap}
use Rattle.model.specs.declared.Terms.{Terms}
use Rattle.model.specs.declared.Refusal.{Refusal}
use Rattle.model.specs.declared.Refusal.TheVariants.{Disordered, Misspelt, IllegalSpan, Unissued, Ended, OutsideSpan, ReadOnly, TooDeep, NamesSpent, TableFull, BufferTooShort, Misnamed, Misgrouped, GivenTwice, NotGiven, NotWritten, NoHolder, LimitReached, NothingStored}
use Rattle.model.specs.Lists.{first, any, all}
use Rattle.model.specs.Bits.{has_bit, bit_at, span_written}
use Rattle.model.specs.Limits.{refused_sheet}
use Rattle.model.specs.Values.{end, legal, inside}
use Rattle.model.specs.Table.{empty_row, span, derivation, named, live_rows, lookup, is_empty_row, is_domain, row_in_order, rows_in_order}
use Rattle.model.specs.Refusals.{not_a_right, not_a_kind, not_a_domain, unfit_mask, unfit_child, not_a_holder, not_written, outside_span, read_only, too_deep, standing, within, usable, checks, refusals, judge, view_of, table_in, unfit_stored}
use Rattle.model.specs.Slots.{Memory, Slot, Nothing, unstored}
use Rattle.model.specs.Step.{verdict}
use Rattle.model.specs.Answers.{number}
use Rattle.model.specs.Requests.{Limits, Request, caller_of, turns_state}
use Rattle.table.specs.Rows.{before, Rise, LiveRows, Orderly}
use Rattle.table.specs.Known.{Sized}
use Rattle.table.specs.Stands.{Passes, Serves, said_of, living, room_for, child_checks, read_checks}
use Rattle.model.proofs.Offered.{test, no_slot, and_both, or_neither, first_none, empty_row_empty, Ordered, ordered, marked_low, place, right_positive}
use Rattle.table.proofs.Laws.Prefix.{place_of}
use Rattle.table.proofs.Laws.Ordered.{rows_in_order_rise, rows_in_order_at, lookup_place, live_rows_first_front, live_front}

-- the first of two groups, or of the second where none of the first holds
pub first_append : (cs ds : List (ℕ × Bool)) → all (λ c. ltb 0 c.0) cs ≡ true → first (cs ++ ds) ≡ cond (eqb (first cs) 0) (first ds) (first cs)
first_append [] ds h = refl
first_append (c ∷ cs) ds h = let p = and_both (ltb 0 c.0) (all (λ c. ltb 0 c.0) cs) h in go (test c.1) (ltb-true 0 c.0 p.0) (first_append cs ds p.1)
  where
    go : (c.1 ≡ true) ⊎ (c.1 ≡ false) → 0 < c.0 → first (cs ++ ds) ≡ cond (eqb (first cs) 0) (first ds) (first cs)
        → first (c ∷ cs ++ ds) ≡ cond (eqb (first (c ∷ cs)) 0) (first ds) (first (c ∷ cs))
    go (inl t) l ih = rw (t, ne_eqb c.0 0 (λ (e : c.0 ≡ 0). omega arith))
    go (inr f) l ih = rw f ih

pub numbered : (x : Refusal) → eqb (number x) 0 ≡ false
numbered Disordered = refl
numbered Misspelt = refl
numbered IllegalSpan = refl
numbered Unissued = refl
numbered Ended = refl
numbered OutsideSpan = refl
numbered ReadOnly = refl
numbered TooDeep = refl
numbered NamesSpent = refl
numbered TableFull = refl
numbered BufferTooShort = refl
numbered Misnamed = refl
numbered Misgrouped = refl
numbered GivenTwice = refl
numbered NotGiven = refl
numbered NotWritten = refl
numbered NoHolder = refl
numbered LimitReached = refl
numbered NothingStored = refl

-- a name whose capability lives, and its holders
module _ (rows : List Cap) (issued actor : ℕ) (u : Name) where
  pub stand_not : (x : Refusal) → first (living rows issued u) ≡ number x → first (standing rows issued actor u) ≡ number x
  stand_not x e = first_append (living rows issued u) ((17, not_a_holder rows issued actor u) ∷ []) refl ∙ rw (e, numbered x)

  module _ (c : Cap) (e : first (living rows issued u) ≡ 0) (f : lookup u.0 rows ≡ c) where
    stand_rest : first (standing rows issued actor u) ≡ first ((17, not_a_holder rows issued actor u) ∷ [])
    stand_rest = first_append (living rows issued u) ((17, not_a_holder rows issued actor u) ∷ []) refl ∙ rw e

    pub stand_unheld : has_bit c.holders actor ≡ false → first (standing rows issued actor u) ≡ 17
    stand_unheld h = stand_rest ∙ rw (f, h)

    pub stand : has_bit c.holders actor ≡ true → first (standing rows issued actor u) ≡ 0
    stand h = stand_rest ∙ rw (f, h)

-- a name to be used
module _ (rows : List Cap) (issued actor : ℕ) (u : Name) (s : Span) (r : ℕ) where
  pub serve_illegal : legal s ≡ false → first (usable rows issued actor u s r) ≡ 3
  serve_illegal h = rw h

  pub serve_not : (x : Refusal) → legal s ≡ true → first (standing rows issued actor u) ≡ number x → first (usable rows issued actor u s r) ≡ number x
  serve_not x h e = rw h (first_append (standing rows issued actor u) ((6, outside_span rows issued u s) ∷ (7, read_only rows issued u r) ∷ []) refl ∙ rw (e, numbered x))

  module _ (c : Cap) (h : legal s ≡ true) (e : first (standing rows issued actor u) ≡ 0) (f : lookup u.0 rows ≡ c) where
    serve_rest : first (usable rows issued actor u s r) ≡ first ((6, outside_span rows issued u s) ∷ (7, read_only rows issued u r) ∷ [])
    serve_rest = rw h (first_append (standing rows issued actor u) ((6, outside_span rows issued u s) ∷ (7, read_only rows issued u r) ∷ []) refl ∙ rw e)

    pub serve_outside : inside s (span c) ≡ false → first (usable rows issued actor u s r) ≡ 6
    serve_outside i = serve_rest ∙ rw (f, i)

    pub serve_above : inside s (span c) ≡ true → c.right < r → first (usable rows issued actor u s r) ≡ 7
    serve_above i l = serve_rest ∙ rw (f, i, lt-ltb c.right r l)

    pub serve : inside s (span c) ≡ true → r ≤ c.right → first (usable rows issued actor u s r) ≡ 0
    serve i l = serve_rest ∙ rw (f, i, le-ltb c.right r l)

-- the answer of what a place passes
pub passed : (T : List Cap) (k x : ℕ) (cs : List (ℕ × Bool)) (p : Result ℕ Refusal) → Passes T k x cs p → said_of p ≡ verdict (first cs) 0
passed T k x cs (Ok q) h = rw h.0
passed T k x cs (Err r) h = rw (h, numbered r)

-- ---- a table in order

module _ (T : List Cap) (n k issued : ℕ) (o : Orderly T n k issued) where
  is : Ordered T issued
  is = ordered T issued o.ordered

  zeros : all is_empty_row (drop k T) ≡ true
  zeros = sym (live_rows_first_front T n k o.front o.all) ∙ is.rest_is_empty

  pub orderly_live : live_rows T ≡ before T k
  orderly_live = live_front T n k o.front o.all zeros

  pub orderly_issued : issued ≤ 1000000
  orderly_issued = leb-true issued 1000000 is.names_left

  pub orderly_few : k ≤ 1024
  orderly_few = omega (arith, o.few, o.front.fits)

  orderly_rows_in_order : rows_in_order (suc issued) (before T k) ≡ true
  orderly_rows_in_order = rw orderly_live at is.rise

  pub orderly_standing : LiveRows T k
  orderly_standing = record { bound = suc issued; few = orderly_few; filled = o.front.filled; rise = orderly_rows_in_order }

  pub orderly_rise : Rise T k
  orderly_rise = rows_in_order_rise T (suc issued) k o.front.filled orderly_rows_in_order

  -- judging comes down to the request's own checks, where the bits have their length, there are eight slots, the limits are not refused, and what
  -- a back would bring is not unfit
  pub orderly_judge : (bits : List ℕ) → Sized bits → (slots : List (Slot Memory)) → length slots ≡ 8 → (q : Request) → refused_sheet T (caller_of q).limits ≡ false → unfit_stored (view_of T bits slots issued) q ≡ false
      → judge (view_of T bits slots issued) q ≡ first (checks (before T k) issued (bit_at bits) (λ j. table_in (get_or slots j Nothing)) n q)
  unfolding judge refusals
  orderly_judge bits b slots e q l f = rw (f, o.ordered, l, b, e) (ap₂ (λ (rows : List Cap) (m : ℕ). first (checks rows issued (bit_at bits) (λ j. table_in (get_or slots j Nothing)) m q)) orderly_live o.all)

  -- the rows after the live ones are zeros
  pub orderly_zeros : (j : ℕ) → k ≤ j → j < n → get_or T j empty_row ≡ empty_row
  orderly_zeros j b m =
      let e : k + (j - k) ≡ j = omega arith in
      let a : is_empty_row (get_or (drop k T) (j - k) empty_row) ≡ true = all_at (drop k T) (j - k) zeros (omega (arith, length-drop k T, o.all)) in
      let d : get_or (drop k T) (j - k) empty_row ≡ get_or T j empty_row = get_or-drop k T (j - k) empty_row ∙ ap (λ (i : ℕ). get_or T i empty_row) e in
      empty_row_empty (get_or T j empty_row) (ap is_empty_row (sym d) ∙ a)
    where
      all_at : (l : List Cap) (i : ℕ) → all is_empty_row l ≡ true → i < length l → is_empty_row (get_or l i empty_row) ≡ true
      all_at [] i h m = absurd (not-suc-le-zero m)
      all_at (c ∷ l) zero h m = (and_both (is_empty_row c) (all is_empty_row l) h).0
      all_at (c ∷ l) (suc i) h m = all_at l i (and_both (is_empty_row c) (all is_empty_row l) h).1 (le_of_suc-le-suc m)

  -- each live row fits those before it
  pub orderly_row : (q : ℕ) → q < k → row_in_order (get_or T q empty_row) (before T q) ≡ true
  orderly_row q m = (rows_in_order_at T (suc issued) k orderly_rows_in_order q m).1

  -- the right of a row is 1 or 2
  pub orderly_right : (q : ℕ) → q < k → 1 ≤ (get_or T q empty_row).right
  orderly_right q m = right_positive (get_or T q empty_row).right (place (get_or T q empty_row) (before T q) (orderly_row q m)).has_right

  -- a marked row ends at 65,536 or below
  orderly_low : (q : ℕ) → q < k → (get_or T q empty_row).fresh ≡ 1 → end (span (get_or T q empty_row)) ≤ 65536
  orderly_low q m f =
      marked_low (derivation (get_or T q empty_row)) (place (get_or T q empty_row) (before T q) (orderly_row q m)).has_terms (eq-eqb (get_or T q empty_row).fresh 1 f)

  -- a read needs no more than `ro`
  pub orderly_read : (actor : ℕ) (u : Name) (s : Span) → first (usable (before T k) issued actor u s 1) ≡ first (within (before T k) issued actor u s)
  orderly_read actor u s = first_append (within (before T k) issued actor u s) ((7, read_only (before T k) issued u 1) ∷ []) refl ∙ go (test (eqb (first (within (before T k) issued actor u s)) 0))
    where
      low : (c : Cap) → 1 ≤ c.right → first ((7, ltb c.right 1) ∷ []) ≡ 0
      low c b = rw (le-ltb c.right 1 b)

      go : (eqb (first (within (before T k) issued actor u s)) 0 ≡ true) ⊎ (eqb (first (within (before T k) issued actor u s)) 0 ≡ false)
          → cond (eqb (first (within (before T k) issued actor u s)) 0) (first ((7, read_only (before T k) issued u 1) ∷ [])) (first (within (before T k) issued actor u s)) ≡ first (within (before T k) issued actor u s)
      go (inl y) =
          let z : first (within (before T k) issued actor u s) ≡ 0 = eqb-true (first (within (before T k) issued actor u s)) 0 y in
          let p = place_of T k u.0 (not-false (any (named u.0) (before T k)) (first_none (within (before T k) issued actor u s) refl z 5)) in
          rw y (ap (λ (c : Cap). first ((7, ltb c.right 1) ∷ [])) (lookup_place T k p.0 u.0 orderly_rise p.1.0 p.1.1).1 ∙ low (get_or T p.0 empty_row) (orderly_right p.0 p.1.0) ∙ sym z)
      go (inr f) = rw f

  -- the answers to work
  pub answered : (bits : List ℕ) → Sized bits → (q : Request) → turns_state q ≡ false → refused_sheet T (caller_of q).limits ≡ false → (y : ℕ)
      → verdict (first (checks (before T k) issued (bit_at bits) (λ j. table_in (get_or unstored j Nothing)) n q)) y ≡ verdict (judge (view_of T bits unstored issued) q) y
  answered bits b q w l y = ap (λ (j : ℕ). verdict j y) (sym (orderly_judge bits b unstored refl q l (no_slot (view_of T bits unstored issued) q w)))

-- ---- a borrow

-- who gives what may be given is a domain
pub child_domain : (actor : ℕ) (r : Terms) → unfit_child actor r ≡ false → actor < 64
child_domain actor r h =
    let p = or_neither (not_a_right r.right) (not_a_kind r.kind || (not (eqb r.fresh 0) || unfit_mask actor r)) h in
    let q = or_neither (not_a_kind r.kind) (not (eqb r.fresh 0) || unfit_mask actor r) p.1 in
    let m = or_neither (not (eqb r.fresh 0)) (unfit_mask actor r) q.1 in
    ltb-true actor 64 (not-false (is_domain actor) (or_neither (not_a_domain actor) (not (has_bit r.holders actor)) m.1).0)

module _ (T : List Cap) (n k issued : ℕ) (limits : Limits) (actor : ℕ) (w : Option Name) (u : Name) (s : Span) (right : ℕ) where
  abbrev rest : List (ℕ × Bool)
  rest = (8, too_deep (before T k) issued u) ∷ room_for T k n issued limits actor w

  abbrev first_borrow : ℕ
  first_borrow = first (child_checks T k n issued limits actor w u s right)

  pub borrow_not : (x : Refusal) → first (usable (before T k) issued actor u s right) ≡ number x → first_borrow ≡ number x
  borrow_not x e = first_append (usable (before T k) issued actor u s right) rest refl ∙ rw (e, numbered x)

  module _ (c : Cap) (e : first (usable (before T k) issued actor u s right) ≡ 0) (f : lookup u.0 (before T k) ≡ c) where
    borrow_rest : first_borrow ≡ first rest
    borrow_rest = first_append (usable (before T k) issued actor u s right) rest refl ∙ rw e

    pub borrow_deep : 64 ≤ c.depth → first_borrow ≡ 8
    borrow_deep l = borrow_rest ∙ rw (f, le-leb 64 c.depth l)

    pub borrow_room : c.depth < 64 → first_borrow ≡ first (room_for T k n issued limits actor w)
    borrow_room l = borrow_rest ∙ rw (f, lt-leb 64 c.depth l)

-- ---- a read

module _ (T : List Cap) (n k issued : ℕ) (o : Orderly T n k issued) (is_written : ℕ → Bool) (actor : ℕ) (u : Name) (s : Span) where
  abbrev unwritten : List (ℕ × Bool)
  unwritten = (16, not_written (before T k) issued is_written u s) ∷ []

  abbrev first_read : ℕ
  first_read = first (read_checks (before T k) issued is_written actor u s)

  -- a read needs no more than `ro`, so what its place passes comes first
  read_append : first_read ≡ cond (eqb (first (usable (before T k) issued actor u s 1)) 0) (first unwritten) (first (usable (before T k) issued actor u s 1))
  read_append = rw (orderly_read T n k issued o actor u s) (first_append (within (before T k) issued actor u s) unwritten refl)

  pub read_not : (x : Refusal) → first (usable (before T k) issued actor u s 1) ≡ number x → first_read ≡ number x
  read_not x e = read_append ∙ rw (e, numbered x)

  module _ (q : ℕ) (p : Serves T k issued actor u s 1 (Ok q)) where
    found : lookup u.0 (before T k) ≡ get_or T q empty_row
    found = (lookup_place T k q u.0 (orderly_rise T n k issued o) p.1 p.2).1

    pub read_unmarked : ((get_or T q empty_row).fresh ≡ 1 → ⊥) → first_read ≡ 0
    unfolding not_written
    read_unmarked m = read_append ∙ rw (p.0, found, ne_eqb (get_or T q empty_row).fresh 1 m)

    pub read_marked : (get_or T q empty_row).fresh ≡ 1 → first_read ≡ cond (span_written is_written s) 0 16
    unfolding not_written
    read_marked m = read_append ∙ rw (p.0, found, eq-eqb (get_or T q empty_row).fresh 1 m) (go (span_written is_written s))
      where
        go : (b : Bool) → ◌≡◌ {A = ℕ} (cond (not b) 16 0) (cond b 0 16)
        go true = refl
        go false = refl

    -- what is read of a marked capability is inside its span, and so has bits
    pub read_low : (get_or T q empty_row).fresh ≡ 1 → end s ≤ 65536
    read_low m =
        let i : inside s (span (get_or T q empty_row)) ≡ true = rw found at (not-false (inside s (span (lookup u.0 (before T k)))) (first_none (usable (before T k) issued actor u s 1) refl p.0 6)) in
        let c = get_or T q empty_row in
        omega (arith, orderly_low T n k issued o q p.1 m, leb-true (end s) (end (span c)) (and_both (leb c.start.0 s.start.0) (leb (end s) (end (span c))) i).1)
