-- The two ways are inverse to each other, every other list of events or set of columns is refusal 2, and a set of columns that is accepted comes
-- from one list of events alone.
-- Assumes nothing.
use mathlib.Core.Path.{◌≡◌, refl, sym, ap, ap₂, ◌∙◌}
use mathlib.Core.Logic.{◌⊎◌, inl, inr}
use mathlib.Core.Bool.{true, false, cond, ◌&&◌}
use mathlib.Core.List.{List, [], ◌∷◌, map, flat_map}
use Prim.Native.Nat.{ℕ, zero, suc, ◌≤◌, ◌<◌}
use native.Mathlib.Omega.{arith}
use lib.Dec.{leb}
use lib.ListN.{length, get_or, drop, length-map}
use lib.Seq.{drop-append_seam, ext_get_or}
use borrow.Author.Tests.{le-leb}
use Rattle.model.specs.declared.Event.{Event}
use Rattle.model.specs.declared.Event.TheVariants.{Create, Borrow, Read, Write, Drop}
use Rattle.model.specs.Lists.{all}
use Rattle.model.proofs.Offered.{All, test, and_both, unless}
use Rattle.text.specs.Result.{Result, value, refused}
use Rattle.text.specs.Read.{same}
use Rattle.text.specs.Form.{in_form}
use Rattle.text.proofs.Offered.{InForm, in_form_lem, same_refl, same_true}
use Rattle.kelzoud_events.specs.Interface.{event_with, event_in}
use Rattle.columns.specs.Form.{event_words, twelve, is_event}
use Rattle.columns.specs.Columns.{Columns, columns, columns_of, taken, to_columns, events_from, events_of, same_columns, fits, from_columns}
use Rattle.columns.specs.Lent.{over, room, over_columns, read_events, stored_to, stored_from}
use Rattle.columns.proofs.Laws.Words.{words_back, words_are, are_words}

-- a value is no refusal
no_value : {A : Type 0} {B : Type 0} {k : ℕ} {x : A} → refused k ≡ value x → B
no_value q = absurd (let z : ◌≡◌ {A = ℕ} 0 1 = cc in omega arith)

-- ---- events and their columns

-- an event in front of others is the first that is taken out of their columns, and the others are left
first_back : (e : Event) (es : List Event) → InForm e → events_of (columns_of es) ≡ es → events_of (columns_of (e ∷ es)) ≡ e ∷ es
unfolding columns_of flat_map events_from event_with
first_back (Create w s r) es g h = ap₂ {C = List Event} (λ x xs. x ∷ xs) (rw (g.unwritten, g.terms)) h
first_back (Borrow w n s r) es g h = ap₂ {C = List Event} (λ x xs. x ∷ xs) (rw (g.unwritten, g.terms)) h
first_back (Read n s) es g h = ap {B = List Event} (λ xs. Read n s ∷ xs) h
first_back (Write n s) es g h = ap {B = List Event} (λ xs. Write n s ∷ xs) h
first_back (Drop n) es g h = ap {B = List Event} (λ xs. Drop n ∷ xs) h

-- events come back from their columns
pub events_back : (es : List Event) → all in_form es ≡ true → events_of (columns_of es) ≡ es
unfolding columns_of events_from
events_back [] h = refl
events_back (e ∷ es) h = let p = and_both (in_form e) (all in_form es) h in first_back e es (in_form_lem e p.0) (events_back es p.1)

same_columns_lem : (c : Columns) → same_columns c c ≡ true
unfolding same_columns
same_columns_lem c = rw (same_refl c.kinds, same_refl c.names, same_refl c.starts, same_refl c.lengths, same_refl c.rights)

columns_equal : (c d : Columns) → same_columns c d ≡ true → c ≡ d
unfolding same_columns
columns_equal c d h =
    let kinds = and_both (same c.kinds d.kinds) (same c.names d.names && (same c.starts d.starts && (same c.lengths d.lengths && same c.rights d.rights))) h in
    let names = and_both (same c.names d.names) (same c.starts d.starts && (same c.lengths d.lengths && same c.rights d.rights)) kinds.1 in
    let starts = and_both (same c.starts d.starts) (same c.lengths d.lengths && same c.rights d.rights) names.1 in
    let lengths = and_both (same c.lengths d.lengths) (same c.rights d.rights) starts.1 in
    λ j. columns (same_true c.kinds d.kinds kinds.0 j) (same_true c.names d.names names.0 j) (same_true c.starts d.starts starts.0 j) (same_true c.lengths d.lengths lengths.0 j) (same_true c.rights d.rights lengths.1 j)

-- columns are taken that are those of the events that they can be
pub fits_is : (c : Columns) → taken (events_of c) ≡ true → columns_of (events_of c) ≡ c → fits c ≡ true
unfolding fits
fits_is c t e = rw (t, e) (same_columns_lem c)

pub is_fits : (c : Columns) → fits c ≡ true → (taken (events_of c) ≡ true) × (columns_of (events_of c) ≡ c)
unfolding fits
is_fits c h =
    let p = and_both (taken (events_of c)) (same_columns (columns_of (events_of c)) c) h in
    (p.0, columns_equal (columns_of (events_of c)) c p.1)

taken_form : (es : List Event) → taken es ≡ true → all in_form es ≡ true
unfolding taken
taken_form es h = (and_both (leb (length es) 4096) (all in_form es) h).1

-- "The inverse returns the same events"
there_and_back : (es : List Event) → taken es ≡ true → from_columns (columns_of es) ≡ value es
unfolding from_columns
there_and_back es h =
    let e = events_back es (taken_form es h) in
    rw (fits_is (columns_of es) (ap taken e ∙ h) (ap columns_of e)) (ap {B = Result (List Event)} value e)

pub to_from : (es : List Event) (c : Columns) → to_columns es ≡ value c → from_columns c ≡ value es
unfolding to_columns
to_from es c q = go (test (taken es))
  where
    go : (taken es ≡ true) ⊎ (taken es ≡ false) → from_columns c ≡ value es
    go (inl t) = let e : columns_of es ≡ c = cc (rw t at q) in ap from_columns (sym e) ∙ there_and_back es t
    go (inr f) = no_value (rw f at q)

-- and the events returned have the same columns
pub from_to : (c : Columns) (es : List Event) → from_columns c ≡ value es → to_columns es ≡ value c
unfolding from_columns to_columns
from_to c es q = go (test (fits c))
  where
    go : (fits c ≡ true) ⊎ (fits c ≡ false) → cond (taken es) (value (columns_of es)) (refused 2) ≡ value c
    go (inl t) =
        let p = is_fits c t in
        let e : events_of c ≡ es = cc (rw t at q) in
        rw (ap taken (sym e) ∙ p.0) (ap {B = Result Columns} value (ap columns_of (sym e) ∙ p.1))
    go (inr f) = no_value (rw f at q)

-- So a set of columns that is accepted comes from one list of events alone.
pub one_list : (c : Columns) (es fs : List Event) → from_columns c ≡ value es → to_columns fs ≡ value c → fs ≡ es
one_list c es fs q r = let e = to_from fs c r in cc

-- "any other .. set of columns .. is refusal 2": one that is accepted from no list of events
pub from_else : (c : Columns) → ((es : List Event) → to_columns es ≡ value c → ⊥) → from_columns c ≡ refused 2
unfolding from_columns
from_else c none = rw (unless (fits c) (λ t. none (events_of c) (from_to c (events_of c) (rw t))))

-- "any other event .., or more than 4,096 events, is refusal 2"
pub to_else : (es : List Event) → taken es ≡ false → to_columns es ≡ refused 2
unfolding to_columns
to_else es f = rw f

-- ---- the lent lists

-- words that all stand for events are those of their events
words_all : (ws : List (List ℕ)) → all is_event ws ≡ true → map event_words (map event_in ws) ≡ map twelve ws
words_all [] h = refl
words_all (w ∷ ws) h = let p = and_both (is_event w) (all is_event ws) h in ap₂ {C = List (List ℕ)} (λ x xs. x ∷ xs) (are_words w p.0).1 (words_all ws p.1)

-- the columns of a lent list of events give the same words back
pub lent_back : (ws : List (List ℕ)) (c : Columns) → read_events ws ≡ value c → (from_columns c ≡ value (map event_in ws)) × (map event_words (map event_in ws) ≡ map twelve ws)
unfolding read_events
lent_back ws c q = go (test (all is_event ws))
  where
    go : (all is_event ws ≡ true) ⊎ (all is_event ws ≡ false) → (from_columns c ≡ value (map event_in ws)) × (map event_words (map event_in ws) ≡ map twelve ws)
    go (inl t) = (to_from (map event_in ws) c (rw t at q), words_all ws t)
    go (inr f) = no_value (rw f at q)

-- an element of a lent list is its twelve words
twelve_is : (w : List ℕ) → length w ≡ 12 → twelve w ≡ w
twelve_is w h = ext_get_or 0 (twelve w) w (sym h) go
  where
    go : (i : ℕ) → i < 12 → get_or (twelve w) i 0 ≡ get_or w i 0
    go zero l = refl
    go (suc zero) l = refl
    go (suc (suc zero)) l = refl
    go (suc (suc (suc zero))) l = refl
    go (suc (suc (suc (suc zero)))) l = refl
    go (suc (suc (suc (suc (suc zero))))) l = refl
    go (suc (suc (suc (suc (suc (suc zero)))))) l = refl
    go (suc (suc (suc (suc (suc (suc (suc zero))))))) l = refl
    go (suc (suc (suc (suc (suc (suc (suc (suc zero)))))))) l = refl
    go (suc (suc (suc (suc (suc (suc (suc (suc (suc zero))))))))) l = refl
    go (suc (suc (suc (suc (suc (suc (suc (suc (suc (suc zero)))))))))) l = refl
    go (suc (suc (suc (suc (suc (suc (suc (suc (suc (suc (suc zero))))))))))) l = refl
    go (suc (suc (suc (suc (suc (suc (suc (suc (suc (suc (suc (suc i)))))))))))) l = absurd (omega arith)

twelve_all : (ws : List (List ℕ)) → All (λ w. length w ≡ 12) ws → map twelve ws ≡ ws
twelve_all [] h = refl
twelve_all (w ∷ ws) h = ap₂ {C = List (List ℕ)} (λ x xs. x ∷ xs) (twelve_is w h.0) (twelve_all ws h.1)

-- So the way there and the way back, into a list with room, leave the same words in front, and what stood behind them.
pub lent_round : (ws out : List (List ℕ)) (c : Columns) → All (λ w. length w ≡ 12) ws → read_events ws ≡ value c → length ws ≤ length out → stored_from c out ≡ over ws out
unfolding stored_from
lent_round ws out c a q l =
    let p = lent_back ws c q in
    rw (p.0, length-map, le-leb (length ws) (length out) l, p.1, twelve_all ws a)

-- "entries beyond those used stay"
pub beyond : {A : Type 0} (l out : List A) → drop (length l) (over l out) ≡ drop (length l) out
beyond l out = drop-append_seam l (drop (length l) out)

-- And the way back and the way there leave the same columns, which stand for all of the events that come of them.
words_read : (es : List Event) → all in_form es ≡ true → (all is_event (map event_words es) ≡ true) × (map event_in (map event_words es) ≡ es)
words_read [] h = (refl, refl)
words_read (e ∷ es) h =
    let p = and_both (in_form e) (all in_form es) h in
    let g = in_form_lem e p.0 in
    let r = words_read es p.1 in
    (rw (words_are e g) r.0, ap₂ {C = List Event} (λ x xs. x ∷ xs) (words_back e g) r.1)

accepted : (es : List Event) (c : Columns) → to_columns es ≡ value c → taken es ≡ true
unfolding to_columns
accepted es c t = go (test (taken es))
  where
    go : (taken es ≡ true) ⊎ (taken es ≡ false) → taken es ≡ true
    go (inl y) = y
    go (inr f) = no_value (rw f at t)

pub lent_there : (c : Columns) (es : List Event) → from_columns c ≡ value es → read_events (map event_words es) ≡ value c
unfolding read_events
lent_there c es q =
    let t = from_to c es q in
    let r = words_read es (taken_form es (accepted es c t)) in
    rw (r.0, r.1) t

pub columns_round : (c out : Columns) (es : List Event) → from_columns c ≡ value es → room c out ≡ true → stored_to (map event_words es) out ≡ over_columns c out
unfolding stored_to
columns_round c out es q h = rw (lent_there c es q, h)
