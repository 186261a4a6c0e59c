-- Events into columns: what is left of a list and of its columns, and what the call answers and leaves.
-- Assumes nothing.
use mathlib.Core.Path.{◌≡◌, refl, sym, ap, ◌∙◌}
use mathlib.Core.Bool.{Bool, true, false, cond, ◌&&◌}
use mathlib.Core.List.{List, [], ◌∷◌, map, flat_map}
use Prim.Native.Nat.{ℕ, ◌+◌, ◌≤◌, ◌<◌}
use native.Mathlib.Omega.{arith}
use lib.Dec.{leb, ltb}
use lib.ListN.{length, get_or, get_or-map, drop, set, length-map, drop_of_length-le}
use borrow.Author.Tests.{le-leb, lt-leb, leb-true}
use Rattle.model.specs.Lists.{cons_if, all}
use Rattle.model.proofs.Offered.{and_both}
use Rattle.text.specs.Form.{in_form}
use Rattle.text.specs.Result.{value, refused}
use Rattle.text.proofs.Offered.{form_in}
use Rattle.kelzoud_events.specs.Interface.{event_in}
use Rattle.columns.specs.declared.counts.Counts.{Counts}
use Rattle.columns.specs.Form.{is_event}
use Rattle.columns.specs.Columns.{Columns, columns, kind_of, name_in, start_in, length_in, right_in, columns_of, taken, to_columns, has_name, has_span, has_right}
use Rattle.columns.specs.Lent.{used, room, over_columns, read_events, moved_to, stored_to}
use Rattle.columns.specs.Walk.{none, with_kind, counts_of, used_by, kinds_in, room_for}
use Rattle.columns.proofs.Laws.Words.{are_words}
use Rattle.columns.proofs.Laws.Entries.{entries_in, Has, columns_counted, kinds_read}
use Rattle.columns.proofs.Laws.Turns.{next, Small, kinds_small, Storing, begin, store, finish, put_next}

-- the columns of events that stand as words
abbrev pub columns_in : List (List ℕ) → Columns
columns_in ws = columns_of (map event_in ws)

-- room for all is room for each
pub room_each : (c out : Columns) → room c out ≡ true
    → (length c.kinds ≤ length out.kinds) × (length c.names ≤ length out.names) × (length c.starts ≤ length out.starts) × (length c.lengths ≤ length out.lengths) × (length c.rights ≤ length out.rights)
unfolding room
room_each c out h =
    let a = fit (length c.kinds) (length out.kinds) h in
    let b = fit (length c.names) (length out.names) a.1 in
    let d = fit (length c.starts) (length out.starts) b.1 in
    let e = fit (length c.lengths) (length out.lengths) d.1 in
    (a.0, b.0, d.0, e.0, leb-true (length c.rights) (length out.rights) e.1)
  where
    fit : (n m : ℕ) {b : Bool} → leb n m && b ≡ true → (n ≤ m) × (b ≡ true)
    fit n m {b} h = let p = and_both (leb n m) b h in (leb-true n m p.0, p.1)

-- ---- one event and what is left

-- columns c have the entries of w in front of those of d
pub record First (w : List ℕ) (c d : Columns) : Type 0 where
  pub kinds : c.kinds ≡ get_or w 0 0 ∷ d.kinds
  pub names : c.names ≡ cons_if (has_name (get_or w 0 0)) (get_or w 1 0) d.names
  pub starts : c.starts ≡ cons_if (has_span (get_or w 0 0)) (get_or w 2 0) d.starts
  pub lengths : c.lengths ≡ cons_if (has_span (get_or w 0 0)) (get_or w 3 0) d.lengths
  pub rights : c.rights ≡ cons_if (has_right (get_or w 0 0)) (get_or w 4 0) d.rights

first : (w : List ℕ) (ws : List (List ℕ)) → is_event w ≡ true → First w (columns_in (w ∷ ws)) (columns_in ws)
unfolding columns_of flat_map
first w ws h =
    let e = entries_in w h in
    record {
      kinds = ap {B = List ℕ} (λ k. k ∷ map kind_of (map event_in ws)) e.kinds;
      names = e.names (flat_map name_in (map event_in ws));
      starts = e.starts (flat_map start_in (map event_in ws));
      lengths = e.lengths (flat_map length_in (map event_in ws));
      rights = e.rights (flat_map right_in (map event_in ws));
    }

module _ (ws : List (List ℕ)) (i : ℕ) where
  pub columns_next : i < length ws → is_event (get_or ws i []) ≡ true → First (get_or ws i []) (columns_in (drop i ws)) (columns_in (drop (i + 1) ws))
  columns_next l h = rw (next ws [] i l) (first (get_or ws i []) (drop (i + 1) ws) h)

  pub columns_end : length ws ≤ i → columns_in (drop i ws) ≡ columns [] [] [] [] []
  unfolding columns_of flat_map
  columns_end l = rw (drop_of_length-le ws l)

-- The entries that are stored so far, and what is left of each column, from the places that the kinds so far lead to. What is left is stored in what
-- is lent now as all is in what was lent at first.
pub record Putting (out lent : Columns) (at : Counts) (i : ℕ) (left whole : Columns) : Type 0 where
  pub kinds : Storing out.kinds lent.kinds i left.kinds whole.kinds
  pub names : Storing out.names lent.names at.names left.names whole.names
  pub starts : Storing out.starts lent.starts at.spans left.starts whole.starts
  pub lengths : Storing out.lengths lent.lengths at.spans left.lengths whole.lengths
  pub rights : Storing out.rights lent.rights at.rights left.rights whole.rights

pub putting : (out whole : Columns) → Putting out out none 0 whole whole
putting out whole = record { kinds = begin whole.kinds; names = begin whole.names; starts = begin whole.starts; lengths = begin whole.lengths; rights = begin whole.rights }

-- the kinds of a list of events that stand as words
pub kind_at : (ws : List (List ℕ)) (i : ℕ) → get_or (kinds_in ws) i 0 ≡ get_or (get_or ws i []) 0 0
kind_at ws i = get_or-map (λ w. get_or w 0 0) ws i []

pub kinds_length : (ws : List (List ℕ)) → length (kinds_in ws) ≡ length ws
kinds_length ws = length-map ws (λ w. get_or w 0 0)

-- ---- all events

forms : (ws : List (List ℕ)) → all is_event ws ≡ true → all in_form (map event_in ws) ≡ true
forms [] h = refl
forms (w ∷ ws) h = let p = and_both (is_event w) (all is_event ws) h in rw (form_in (event_in w) (are_words w p.0).0) (forms ws p.1)

module _ (ws : List (List ℕ)) where
  pub read_all : length ws ≤ 4096 → all is_event ws ≡ true → read_events ws ≡ value (columns_in ws)
  unfolding read_events to_columns taken
  read_all l h = rw (h, length-map, le-leb (length ws) 4096 l, forms ws h)

  pub read_other : all is_event ws ≡ false → read_events ws ≡ refused 2
  unfolding read_events
  read_other h = rw h

  pub read_long : 4096 < length ws → read_events ws ≡ refused 2
  unfolding read_events to_columns taken
  read_long l = go (all is_event ws)
    where
      go : (b : Bool) → cond b (cond (leb (length (map event_in ws)) 4096 && all in_form (map event_in ws)) (value (columns_in ws)) (refused 2)) (refused 2) ≡ refused 2
      go true = rw (length-map, lt-leb (length ws) 4096 l)
      go false = refl

  module _ (h : all is_event ws ≡ true) where
    pub kinds_many : length (columns_in ws).kinds ≡ length ws
    unfolding columns_of
    kinds_many = length-map (map event_in ws) kind_of ∙ length-map ws event_in

    pub has : Has (counts_of (kinds_in ws)) (columns_in ws)
    has = rw (kinds_read ws h) at (columns_counted (map event_in ws))

    pub room_is : (out : Columns) → room (columns_in ws) out ≡ room_for (length ws) (counts_of (kinds_in ws)) (length out.kinds) (length out.names) (length out.starts) (length out.lengths) (length out.rights)
    unfolding room
    room_is out = rw (kinds_many, has.names, has.starts, has.lengths, has.rights)

    pub room_found : {c : Counts} {r : Bool} (out : Columns) → c ≡ counts_of (kinds_in ws) → r ≡ room_for (length ws) c (length out.kinds) (length out.names) (length out.starts) (length out.lengths) (length out.rights) → room (columns_in ws) out ≡ r
    room_found {c} out e f = room_is out ∙ ap (λ (n : Counts). room_for (length ws) n (length out.kinds) (length out.names) (length out.starts) (length out.lengths) (length out.rights)) (sym e) ∙ sym f

    pub used_is : used (length ws) (columns_in ws) ≡ used_by (length ws) (counts_of (kinds_in ws))
    used_is = λ j. record { events = length ws; kinds = kinds_many j; names = has.names j; starts = has.starts j; lengths = has.lengths j; rights = has.rights j }

  pub words_small : {n : ℕ} {c : Counts} → length ws ≤ n → c ≡ counts_of (kinds_in ws) → Small c n
  words_small l e = kinds_small (kinds_in ws) (rw length-map l) e

  module _ (out : Columns) where
    pub to_refused : read_events ws ≡ refused 2 → (refused 2 ≡ moved_to ws out) × (out ≡ stored_to ws out)
    unfolding moved_to stored_to
    to_refused q = rw q (refl, refl)

    module _ (q : read_events ws ≡ value (columns_in ws)) where
      pub to_short : room (columns_in ws) out ≡ false → (refused 11 ≡ moved_to ws out) × (out ≡ stored_to ws out)
      unfolding moved_to stored_to
      to_short f = rw (q, f) (refl, refl)

      pub to_all : room (columns_in ws) out ≡ true → (value (used (length ws) (columns_in ws)) ≡ moved_to ws out) × (over_columns (columns_in ws) out ≡ stored_to ws out)
      unfolding moved_to stored_to
      to_all t = rw (q, t) (refl, refl)

-- ---- the loop that stores

-- the places that are used lie in what is lent
pub places : (ws : List (List ℕ)) (out lent : Columns) (at used : Counts) (i : ℕ) (left : Columns) → all is_event ws ≡ true → used ≡ counts_of (kinds_in ws) → room (columns_in ws) out ≡ true → Putting out lent at i left (columns_in ws)
    → (used.names ≤ length lent.names) × (used.spans ≤ length lent.starts) × (used.spans ≤ length lent.lengths) × (used.rights ≤ length lent.rights)
places ws out lent at used i left every u r p =
    let h = has ws every in
    let e = room_each (columns_in ws) out r in
    rw u (
      omega (arith, h.names, e.1, p.names.size),
      omega (arith, h.starts, e.2, p.starts.size),
      omega (arith, h.lengths, e.3, p.lengths.size),
      omega (arith, h.rights, e.4, p.rights.size),
    )

-- one event's entries are stored: what is lent then, and the places of the next
pub turn : (w : List ℕ) (ws : List (List ℕ)) {out lent after : Columns} {at next used : Counts} {i : ℕ} {left left' : Columns}
    → all is_event ws ≡ true → used ≡ counts_of (kinds_in ws) → First w left left' → Putting out lent at i left (columns_in ws)
    → after.kinds ≡ set lent.kinds i (get_or w 0 0)
    → after.names ≡ cond (ltb at.names used.names) (set lent.names at.names (get_or w 1 0)) lent.names
    → after.starts ≡ cond (ltb at.spans used.spans) (set lent.starts at.spans (get_or w 2 0)) lent.starts
    → after.lengths ≡ cond (ltb at.spans used.spans) (set lent.lengths at.spans (get_or w 3 0)) lent.lengths
    → after.rights ≡ cond (ltb at.rights used.rights) (set lent.rights at.rights (get_or w 4 0)) lent.rights
    → next ≡ with_kind (get_or w 0 0) at
    → Putting out after next (i + 1) left' (columns_in ws)
turn w ws {used = used} {left' = left} every u f p kinds names starts lengths rights to =
    let h = has ws every in
    let k = get_or w 0 0 in
    record {
      kinds = rw kinds (store (rw f.kinds at p.kinds));
      names = rw (to, names) (put_next (get_or w 1 0) left.names (has_name k) used.names (ap (λ (c : Counts). c.names) u ∙ sym h.names) f.names p.names);
      starts = rw (to, starts) (put_next (get_or w 2 0) left.starts (has_span k) used.spans (ap (λ (c : Counts). c.spans) u ∙ sym h.starts) f.starts p.starts);
      lengths = rw (to, lengths) (put_next (get_or w 3 0) left.lengths (has_span k) used.spans (ap (λ (c : Counts). c.spans) u ∙ sym h.lengths) f.lengths p.lengths);
      rights = rw (to, rights) (put_next (get_or w 4 0) left.rights (has_right k) used.rights (ap (λ (c : Counts). c.rights) u ∙ sym h.rights) f.rights p.rights);
    }

-- and after the last one all are stored
pub stored : (ws : List (List ℕ)) {out lent : Columns} {at : Counts} {i : ℕ} → length ws ≤ i → room (columns_in ws) out ≡ true → Putting out lent at i (columns_in (drop i ws)) (columns_in ws) → lent ≡ over_columns (columns_in ws) out
stored ws {i = i} l r p =
    let e = room_each (columns_in ws) _ r in
    let q = rw (columns_end ws i l) at p in
    λ j. columns (finish q.kinds e.0 j) (finish q.names e.1 j) (finish q.starts e.2 j) (finish q.lengths e.3 j) (finish q.rights e.4 j)
