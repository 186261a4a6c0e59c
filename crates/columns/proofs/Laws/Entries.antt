-- The entries of an event in each column, by its kind, and how many there are.
-- Assumes nothing.
use mathlib.Core.Path.{◌≡◌, refl, sym, ap, ap₂, subst, ◌∙◌}
use mathlib.Core.Bool.{Bool, true, false}
use mathlib.Core.List.{List, [], ◌∷◌, ◌++◌, map, flat_map}
use Prim.Native.Nat.{ℕ}
use native.Mathlib.Omega.{arith}
use lib.ListN.{length, get_or}
use Rattle.model.specs.declared.Event.{Event}
use Rattle.model.specs.declared.Event.TheVariants.{Create, Borrow, Read, Write, Drop}
use Rattle.model.specs.Lists.{cons_if, all}
use Rattle.model.proofs.Offered.{and_both}
use Rattle.kelzoud_events.specs.Interface.{event_with, event_in, words_of}
use Rattle.columns.specs.declared.counts.Counts.{Counts}
use Rattle.columns.specs.Form.{event_words, is_event}
use Rattle.columns.specs.Columns.{Columns, kind_of, name_in, start_in, length_in, right_in, columns_of, has_name, has_span, has_right, event_from}
use Rattle.columns.specs.Walk.{count_if, counts_of, is_five, kinds_in}
use Rattle.columns.proofs.Laws.Words.{five_is, are_words}

-- the entries of an event of a kind, in front of what follows in each column
pub record Entries (kind name start size right : ℕ) (e : Event) : Type 0 where
  pub kinds : kind_of e ≡ kind
  pub names : (l : List ℕ) → name_in e ++ l ≡ cons_if (has_name kind) name l
  pub starts : (l : List ℕ) → start_in e ++ l ≡ cons_if (has_span kind) start l
  pub lengths : (l : List ℕ) → length_in e ++ l ≡ cons_if (has_span kind) size l
  pub rights : (l : List ℕ) → right_in e ++ l ≡ cons_if (has_right kind) right l

abbrev pub EntriesIn : List ℕ → Event → Type 0
EntriesIn w e = Entries (get_or w 0 0) (get_or w 1 0) (get_or w 2 0) (get_or w 3 0) (get_or w 4 0) e

own : (e : Event) → EntriesIn (event_words e) e
unfolding words_of
own (Create w s r) = record { kinds = refl; names = λ l. refl; starts = λ l. refl; lengths = λ l. refl; rights = λ l. refl }
own (Borrow w n s r) = record { kinds = refl; names = λ l. refl; starts = λ l. refl; lengths = λ l. refl; rights = λ l. refl }
own (Read n s) = record { kinds = refl; names = λ l. refl; starts = λ l. refl; lengths = λ l. refl; rights = λ l. refl }
own (Write n s) = record { kinds = refl; names = λ l. refl; starts = λ l. refl; lengths = λ l. refl; rights = λ l. refl }
own (Drop n) = record { kinds = refl; names = λ l. refl; starts = λ l. refl; lengths = λ l. refl; rights = λ l. refl }

-- those of the event that words stand for are among them
pub entries_in : (w : List ℕ) → is_event w ≡ true → EntriesIn w (event_in w)
entries_in w h = subst (λ (x : List ℕ). EntriesIn x (event_in w)) (are_words w h).1 (own (event_in w))

-- those of the event of a kind are its values
pub entries_from : (kind name start size right : ℕ) → is_five kind ≡ true → Entries kind name start size right (event_from kind name start size right)
unfolding event_with
entries_from kind name start size right =
    five_is (λ k. Entries k name start size right (event_from k name start size right))
    (record { kinds = refl; names = λ l. refl; starts = λ l. refl; lengths = λ l. refl; rights = λ l. refl })
    (record { kinds = refl; names = λ l. refl; starts = λ l. refl; lengths = λ l. refl; rights = λ l. refl })
    (record { kinds = refl; names = λ l. refl; starts = λ l. refl; lengths = λ l. refl; rights = λ l. refl })
    (record { kinds = refl; names = λ l. refl; starts = λ l. refl; lengths = λ l. refl; rights = λ l. refl })
    (record { kinds = refl; names = λ l. refl; starts = λ l. refl; lengths = λ l. refl; rights = λ l. refl })
    kind

-- ---- how many there are

-- an entry more makes a column one longer
pub longer : (b : Bool) (x : ℕ) {l : List ℕ} (m : List ℕ) {n : ℕ} → l ≡ cons_if b x m → length m ≡ n → length l ≡ count_if b n
longer true x m e h = ap length e ∙ omega arith
longer false x m e h = ap length e ∙ h

-- a set of columns has as many entries as are counted
pub record Has (n : Counts) (c : Columns) : Type 0 where
  pub names : length c.names ≡ n.names
  pub starts : length c.starts ≡ n.spans
  pub lengths : length c.lengths ≡ n.spans
  pub rights : length c.rights ≡ n.rights

-- the columns of events have the entries that their kinds ask for
pub columns_counted : (es : List Event) → Has (counts_of (map kind_of es)) (columns_of es)
unfolding columns_of counts_of flat_map
columns_counted [] = record { names = refl; starts = refl; lengths = refl; rights = refl }
columns_counted (e ∷ es) =
    let w = event_words e in
    let o = own e in
    let kind : get_or w 0 0 ≡ kind_of e = sym o.kinds in
    let names = rw kind at (o.names (flat_map name_in es)) in
    let starts = rw kind at (o.starts (flat_map start_in es)) in
    let lengths = rw kind at (o.lengths (flat_map length_in es)) in
    let rights = rw kind at (o.rights (flat_map right_in es)) in
    let r = columns_counted es in
    record {
      names = longer (has_name (kind_of e)) (get_or w 1 0) (flat_map name_in es) names r.names;
      starts = longer (has_span (kind_of e)) (get_or w 2 0) (flat_map start_in es) starts r.starts;
      lengths = longer (has_span (kind_of e)) (get_or w 3 0) (flat_map length_in es) lengths r.lengths;
      rights = longer (has_right (kind_of e)) (get_or w 4 0) (flat_map right_in es) rights r.rights;
    }

-- the kinds of events that are read from words are their first words
pub kinds_read : (ws : List (List ℕ)) → all is_event ws ≡ true → map kind_of (map event_in ws) ≡ kinds_in ws
kinds_read [] h = refl
kinds_read (w ∷ ws) h =
    let p = and_both (is_event w) (all is_event ws) h in
    ap₂ {C = List ℕ} (λ k ks. k ∷ ks) (entries_in w p.0).kinds (kinds_read ws p.1)
