-- Columns into events: which columns are taken, what is left of them behind an event, and what the call answers and leaves.
-- Assumes nothing.
use mathlib.Core.Path.{◌≡◌, refl, sym, ap, subst, ◌∙◌}
use mathlib.Core.Bool.{Bool, true, false, ◌&&◌}
use mathlib.Core.List.{List, [], ◌∷◌, ◌++◌, map, flat_map}
use Prim.Native.Nat.{ℕ, suc, ◌+◌, ◌≤◌, ◌<◌}
use native.Mathlib.Nat.{add-zero}
use native.Mathlib.Omega.{arith}
use lib.Dec.{eqb, leb}
use lib.ListN.{length, get_or, drop, set, length-map, drop_of_length-le}
use lib.Seq.{get_or-drop, drop-drop}
use borrow.Author.Tests.{le-leb, lt-leb, leb-true, eqb-true, eq-eqb}
use Rattle.model.specs.declared.Event.{Event}
use Rattle.model.specs.declared.Event.TheVariants.{Create, Borrow, Read, Write, Drop}
use Rattle.model.specs.Lists.{cons_if, all}
use Rattle.model.specs.Table.{is_right}
use Rattle.model.proofs.Offered.{clash, and_both}
use Rattle.text.specs.Form.{in_form}
use Rattle.text.specs.Result.{value, refused}
use Rattle.text.proofs.Offered.{InForm, in_form_lem, form_in}
use Rattle.kelzoud_events.specs.Interface.{event_with, words_of}
use Rattle.columns.specs.declared.counts.Counts.{Counts}
use Rattle.columns.specs.Form.{event_words}
use Rattle.columns.specs.Columns.{Columns, columns, kind_of, name_in, start_in, length_in, right_in, columns_of, taken, has_name, has_span, has_right, event_from, behind, events_from, events_of, fits, from_columns}
use Rattle.columns.specs.Lent.{used, over, moved_from, stored_from}
use Rattle.columns.specs.Walk.{count_if, with_kind, counts_of, used_by, is_five, lengths_fit, kept}
use Rattle.columns.proofs.Laws.Entries.{Has, entries_from, columns_counted}
use Rattle.columns.proofs.Laws.Words.{five_is}
use Rattle.columns.proofs.Laws.Inverse.{fits_is, is_fits}
use Rattle.columns.proofs.Laws.Turns.{next, Storing, store, finish}

-- ---- which columns are taken

-- what the code asks of columns: few kinds, each of them one of the five, as many entries as they ask for, and rights alone in the last
pub record Asks (c : Columns) : Type 0 where
  pub few : length c.kinds ≤ 4096
  pub five : all is_five c.kinds ≡ true
  pub has : Has (counts_of c.kinds) c
  pub rights : all is_right c.rights ≡ true

all_five : (es : List Event) → all is_five (map kind_of es) ≡ true
all_five [] = refl
all_five (Create w s r ∷ es) = all_five es
all_five (Borrow w n s r ∷ es) = all_five es
all_five (Read n s ∷ es) = all_five es
all_five (Write n s ∷ es) = all_five es
all_five (Drop n ∷ es) = all_five es

all_right : (es : List Event) → all in_form es ≡ true → all is_right (flat_map right_in es) ≡ true
unfolding flat_map
all_right [] h = refl
all_right (e ∷ es) h = let p = and_both (in_form e) (all in_form es) h in one e (in_form_lem e p.0) (all_right es p.1)
  where
    one : (e : Event) → InForm e → all is_right (flat_map right_in es) ≡ true → all is_right (right_in e ++ flat_map right_in es) ≡ true
    one (Create w s r) g a = rw g.right a
    one (Borrow w n s r) g a = rw g.right a
    one (Read n s) g a = a
    one (Write n s) g a = a
    one (Drop n) g a = a

-- the columns of events that are taken are such
columns_ask : (es : List Event) → taken es ≡ true → Asks (columns_of es)
unfolding columns_of taken
columns_ask es h =
    let p = and_both (leb (length es) 4096) (all in_form es) h in
    record {
      few = rw (length-map es kind_of) (leb-true (length es) 4096 p.0);
      five = all_five es;
      has = columns_counted es;
      rights = all_right es p.1;
    }

-- and so are all that are taken
pub fits_asks : (c : Columns) → fits c ≡ true → Asks c
fits_asks c h = let p = is_fits c h in subst (λ (d : Columns). Asks d) p.1 (columns_ask (events_of c) p.0)

-- an entry in front of what is left behind it
column_next : (b : Bool) (l : List ℕ) (n : ℕ) → length l ≡ count_if b n → (cons_if b (get_or l 0 0) (behind b l) ≡ l) × (length (behind b l) ≡ n)
column_next true [] n h = absurd (omega arith)
column_next true (x ∷ l) n h = (refl, omega arith)
column_next false l n h = (refl, h)

rights_next : (b : Bool) (l : List ℕ) (n : ℕ) → length l ≡ count_if b n → all is_right l ≡ true → (b ≡ true → is_right (get_or l 0 0) ≡ true) × (all is_right (behind b l) ≡ true)
rights_next true [] n h a = absurd (omega arith)
rights_next true (x ∷ l) n h a = let p = and_both (is_right x) (all is_right l) a in (λ t. p.0, p.1)
rights_next false l n h a = (λ t. clash t refl, a)

-- the event of a kind is of document 01's form, where it gives a right if it gives one
form_from : (kind name start size right : ℕ) → is_five kind ≡ true → (has_right kind ≡ true → is_right right ≡ true) → InForm (event_from kind name start size right)
unfolding event_with
form_from kind name start size right =
    five_is (λ k. (has_right k ≡ true → is_right right ≡ true) → InForm (event_from k name start size right))
    (λ h. record { unwritten = refl; right = h refl; terms = refl })
    (λ h. record { unwritten = refl; right = h refl; terms = refl })
    (λ h. tt)
    (λ h. tt)
    (λ h. tt)
    kind

empty : (l : List ℕ) → length l ≡ 0 → [] ≡ l
empty [] h = refl
empty (x ∷ l) h = absurd (omega arith)

-- such columns are those of the events that they can be, which are all of that form
built : (kinds names starts lengths rights : List ℕ) → all is_five kinds ≡ true → Has (counts_of kinds) (columns kinds names starts lengths rights) → all is_right rights ≡ true
    → (columns_of (events_from kinds names starts lengths rights) ≡ columns kinds names starts lengths rights) × (all in_form (events_from kinds names starts lengths rights) ≡ true)
unfolding columns_of flat_map counts_of events_from
built [] names starts lengths rights f h a =
    (λ j. columns [] (empty names h.names j) (empty starts h.starts j) (empty lengths h.lengths j) (empty rights h.rights j), refl)
built (k ∷ kinds) names starts lengths rights f h a =
    let p = and_both (is_five k) (all is_five kinds) f in
    let n = counts_of kinds in
    let name = column_next (has_name k) names n.names h.names in
    let start = column_next (has_span k) starts n.spans h.starts in
    let size = column_next (has_span k) lengths n.spans h.lengths in
    let right = column_next (has_right k) rights n.rights h.rights in
    let is = rights_next (has_right k) rights n.rights h.rights a in
    let e = entries_from k (get_or names 0 0) (get_or starts 0 0) (get_or lengths 0 0) (get_or rights 0 0) p.0 in
    let es = events_from kinds (behind (has_name k) names) (behind (has_span k) starts) (behind (has_span k) lengths) (behind (has_right k) rights) in
    let r = built kinds (behind (has_name k) names) (behind (has_span k) starts) (behind (has_span k) lengths) (behind (has_right k) rights) p.1 (record { names = name.1; starts = start.1; lengths = size.1; rights = right.1 }) is.1 in (
      λ j. columns
          (e.kinds j ∷ (r.0 j).kinds)
          ((e.names (flat_map name_in es) ∙ ap (λ (c : Columns). cons_if (has_name k) (get_or names 0 0) c.names) r.0 ∙ name.0) j)
          ((e.starts (flat_map start_in es) ∙ ap (λ (c : Columns). cons_if (has_span k) (get_or starts 0 0) c.starts) r.0 ∙ start.0) j)
          ((e.lengths (flat_map length_in es) ∙ ap (λ (c : Columns). cons_if (has_span k) (get_or lengths 0 0) c.lengths) r.0 ∙ size.0) j)
          ((e.rights (flat_map right_in es) ∙ ap (λ (c : Columns). cons_if (has_right k) (get_or rights 0 0) c.rights) r.0 ∙ right.0) j),
      rw (form_in (event_from k (get_or names 0 0) (get_or starts 0 0) (get_or lengths 0 0) (get_or rights 0 0)) (form_from k (get_or names 0 0) (get_or starts 0 0) (get_or lengths 0 0) (get_or rights 0 0) p.0 is.0)) r.1,
    )

-- as many events as kinds
many : (kinds names starts lengths rights : List ℕ) → length (events_from kinds names starts lengths rights) ≡ length kinds
unfolding events_from
many [] names starts lengths rights = refl
many (k ∷ kinds) names starts lengths rights = ap suc (many kinds (behind (has_name k) names) (behind (has_span k) starts) (behind (has_span k) lengths) (behind (has_right k) rights))

pub many_events : (c : Columns) → length (events_of c) ≡ length c.kinds
many_events c = many c.kinds c.names c.starts c.lengths c.rights

pub asks_fits : (c : Columns) → Asks c → fits c ≡ true
unfolding taken
asks_fits c a =
    let p = built c.kinds c.names c.starts c.lengths c.rights a.five a.has a.rights in
    fits_is c (rw (many_events c, le-leb (length c.kinds) 4096 a.few, p.1)) p.0

-- ---- one event and what is left

-- its words: the values that its kind has, and zeros
pub words_from_lem : (kind name start size right : ℕ) → is_five kind ≡ true
    → kind ∷ kept (has_name kind) name ∷ kept (has_span kind) start ∷ kept (has_span kind) size ∷ kept (has_right kind) right ∷ 0 ∷ 0 ∷ 0 ∷ 0 ∷ 0 ∷ kept (has_right kind) 1 ∷ 0 ∷ [] ≡ event_words (event_from kind name start size right)
unfolding event_with words_of
words_from_lem kind name start size right =
    five_is (λ k. k ∷ kept (has_name k) name ∷ kept (has_span k) start ∷ kept (has_span k) size ∷ kept (has_right k) right ∷ 0 ∷ 0 ∷ 0 ∷ 0 ∷ 0 ∷ kept (has_right k) 1 ∷ 0 ∷ [] ≡ event_words (event_from k name start size right))
    refl refl refl refl refl kind

-- what a column has behind a place
first_at : (l : List ℕ) (n : ℕ) → get_or (drop n l) 0 0 ≡ get_or l n 0
first_at l n = get_or-drop n l 0 0 ∙ ap (λ (k : ℕ). get_or l k 0) (add-zero n)

behind_at : (b : Bool) (l : List ℕ) (n : ℕ) → behind b (drop n l) ≡ drop (count_if b n) l
behind_at true l n = drop-drop 1 n l
behind_at false l n = refl

-- the events that columns can be, from an index of the kinds and places of the others on
abbrev pub events_at : Columns → Counts → ℕ → List Event
events_at c at i = events_from (drop i c.kinds) (drop at.names c.names) (drop at.spans c.starts) (drop at.spans c.lengths) (drop at.rights c.rights)

module _ (c : Columns) (at : Counts) (i : ℕ) where
  abbrev kind : ℕ
  kind = get_or c.kinds i 0

  pub events_next : i < length c.kinds
      → events_at c at i ≡ event_from kind (get_or c.names at.names 0) (get_or c.starts at.spans 0) (get_or c.lengths at.spans 0) (get_or c.rights at.rights 0) ∷ events_at c (with_kind kind at) (i + 1)
  unfolding events_from
  events_next l =
      rw (
        next c.kinds 0 i l,
        first_at c.names at.names,
        first_at c.starts at.spans,
        first_at c.lengths at.spans,
        first_at c.rights at.rights,
        behind_at (has_name kind) c.names at.names,
        behind_at (has_span kind) c.starts at.spans,
        behind_at (has_span kind) c.lengths at.spans,
        behind_at (has_right kind) c.rights at.rights,
      )

  pub events_end : length c.kinds ≤ i → events_at c at i ≡ []
  unfolding events_from
  events_end l = rw (drop_of_length-le c.kinds l)

-- ---- the loop that stores

module _ (c : Columns) (at : Counts) {out lent : List (List ℕ)} {i : ℕ} where
  -- one event is stored: what is lent then, and the places of the next
  pub turn : {after : List (List ℕ)} {to : Counts} {whole : List (List ℕ)} → i < length c.kinds → Storing out lent i (map event_words (events_at c at i)) whole
      → after ≡ set lent i (event_words (event_from (get_or c.kinds i 0) (get_or c.names at.names 0) (get_or c.starts at.spans 0) (get_or c.lengths at.spans 0) (get_or c.rights at.rights 0)))
      → to ≡ with_kind (get_or c.kinds i 0) at
      → Storing out after (i + 1) (map event_words (events_at c to (i + 1))) whole
  turn l s put to = rw (put, to) (store (rw (events_next c at i l) at s))

  -- and after the last one all are stored
  pub stored : length c.kinds ≤ i → length c.kinds ≤ length out → Storing out lent i (map event_words (events_at c at i)) (map event_words (events_of c)) → lent ≡ over (map event_words (events_of c)) out
  stored l r s = finish (rw (events_end c at i l) at s) (rw (length-map (events_of c) event_words, many_events c) r)

-- ---- the call

module _ (c : Columns) where
  -- the lengths that are tested
  pub lengths_has : (n : Counts) → lengths_fit n (length c.names) (length c.starts) (length c.lengths) (length c.rights) ≡ true → Has n c
  lengths_has n h =
      let a = fit (length c.names) n.names h in
      let b = fit (length c.starts) n.spans a.1 in
      let d = fit (length c.lengths) n.spans b.1 in
      record { names = a.0; starts = b.0; lengths = d.0; rights = eqb-true (length c.rights) n.rights d.1 }
    where
      fit : (x y : ℕ) {b : Bool} → eqb x y && b ≡ true → (x ≡ y) × (b ≡ true)
      fit x y {b} h = let p = and_both (eqb x y) b h in (eqb-true x y p.0, p.1)

  pub has_lengths : (n : Counts) → Has n c → lengths_fit n (length c.names) (length c.starts) (length c.lengths) (length c.rights) ≡ true
  has_lengths n h =
      rw (
        eq-eqb (length c.names) n.names h.names,
        eq-eqb (length c.starts) n.spans h.starts,
        eq-eqb (length c.lengths) n.spans h.lengths,
        eq-eqb (length c.rights) n.rights h.rights,
      )

  pub lengths_found : {n : Counts} {r : Bool} → n ≡ counts_of c.kinds → r ≡ lengths_fit n (length c.names) (length c.starts) (length c.lengths) (length c.rights)
      → lengths_fit (counts_of c.kinds) (length c.names) (length c.starts) (length c.lengths) (length c.rights) ≡ r
  lengths_found e f = ap (λ (n : Counts). lengths_fit n (length c.names) (length c.starts) (length c.lengths) (length c.rights)) (sym e) ∙ sym f

  pub used_from : Has (counts_of c.kinds) c → used (length c.kinds) c ≡ used_by (length c.kinds) (counts_of c.kinds)
  used_from h = λ j. record { events = length c.kinds; kinds = length c.kinds; names = h.names j; starts = h.starts j; lengths = h.lengths j; rights = h.rights j }

  module _ (out : List (List ℕ)) where
    pub from_refused : fits c ≡ false → (refused 2 ≡ moved_from c out) × (out ≡ stored_from c out)
    unfolding moved_from stored_from from_columns
    from_refused f = rw f (refl, refl)

    module _ (t : fits c ≡ true) where
      pub from_short : length out < length c.kinds → (refused 11 ≡ moved_from c out) × (out ≡ stored_from c out)
      unfolding moved_from stored_from from_columns
      from_short l = rw (t, many_events c, lt-leb (length c.kinds) (length out) l) (refl, refl)

      pub from_all : length c.kinds ≤ length out → (value (used (length c.kinds) c) ≡ moved_from c out) × (over (map event_words (events_of c)) out ≡ stored_from c out)
      unfolding moved_from stored_from from_columns
      from_all l = rw (t, many_events c, le-leb (length c.kinds) (length out) l) (refl, refl)
