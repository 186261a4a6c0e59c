-- Document 01, "The history", and cards 4 to 7 and 9 to 11.
-- Assumes nothing.
use Rattle.std.specs.Prelude.{ℕ, zero, suc, Bool, false, not, cond, ◌&&◌, ◌||◌, List, [], ◌∷◌, ◌++◌, map, eqb, length, get_or}
use Rattle.model.specs.declared.Span.{Span}
use Rattle.model.specs.declared.Cap.{Cap}
use Rattle.model.specs.declared.Event.TheVariants.{Create, Borrow, Read, Write, Drop}
use Rattle.model.specs.declared.Access.{Access}
use Rattle.model.specs.declared.Access.TheVariants.{Reading, Writing}
use Rattle.model.specs.declared.Sheet.{Sheet}
use Rattle.model.specs.Lists.{filter, any, final}
use Rattle.model.specs.Values.{legal, inside}
use Rattle.model.specs.Derivation.{Derivation, ancestry, in_subtree}
use Rattle.model.specs.Strike.{is_lower, is_end, reached, reclaimed}
use Rattle.model.specs.Table.{row, lent_table, is_marked, is_domain, holds}
use Rattle.model.specs.Limits.{refused_sheet}
use Rattle.model.specs.Bits.{in_span, span_written}
use Rattle.model.specs.Requests.{Caller, Request, Single, Group, Mark, Back}
use Rattle.model.specs.Slots.{Slot, Nothing, stored_or, slot_map, unstored}
use Rattle.model.specs.Refusals.{View, judge}
use Rattle.model.specs.Effects.{root, child, new_name, issued_after}
use Rattle.model.specs.Step.{Verdict, verdict, slots_after}

-- ---- notes

-- "An allowed create or borrow .. is noted as a new name, with its parent (0 for a create), span and right as given"; card 6: "The history
-- notes a name's kind with it, as it does each value that a record gains later". "An allowed read or write notes its name and span, an
-- allowed drop its name." Notes stand newest first.
pub data Note : Type 0 where
  New : Derivation → ℕ → Note
  Accessed : Access → ℕ → Span → Note
  Dropped : ℕ → Note

-- "Parents, and so subtrees, ancestors and depth, are those noted, also for names that have ended."
unfoldable pub derived_by : Note → List Derivation
derived_by (New d r) = d ∷ []
derived_by (Accessed a u s) = []
derived_by (Dropped u) = []

-- the derivations noted, newest first
unfoldable pub derivations : List Note → List Derivation
derivations [] = []
derivations (w ∷ notes) = derived_by w ++ derivations notes

-- the note makes the name x
unfoldable pub makes : ℕ → Note → Bool
makes x (New d r) = eqb x d.name
makes x (Accessed a u s) = false
makes x (Dropped u) = false

-- it makes x writable: "noted with `rw`"
unfoldable pub makes_writable : ℕ → Note → Bool
makes_writable x (New d r) = eqb x d.name && eqb r 2
makes_writable x (Accessed a u s) = false
makes_writable x (Dropped u) = false

-- "Later means after the note that made the name": some note later than the one that makes x passes the test
unfoldable pub later : ℕ → (Note → Bool) → List Note → Bool
later x p [] = false
later x p (w ∷ notes) = not (makes x w) && (p w || later x p notes)

-- ---- what a note takes

-- the name that a note goes through; of a new name its parent
abbrev pub user : Note → ℕ
user (New d r) = d.parent
user (Accessed a u s) = u
user (Dropped u) = u

-- What a note takes from a capability is told by two ancestries: that of the note's user, and that of the capability.
abbrev pub Takes : Type 0
Takes = Note → List Derivation → List Derivation → Bool

-- the note w takes that from the name x
unfoldable pub hits : Takes → List Derivation → ℕ → Note → Bool
hits takes derivations x w = takes w (ancestry derivations (user w)) (ancestry derivations x)

-- x was created or borrowed, and what is noted of it passes the test
abbrev pub noted_as : (Derivation → Bool) → List Note → ℕ → Bool
noted_as p notes x = any (λ d. eqb x d.name && p d) (derivations notes)

-- s lies within its own span
unfoldable pub covers : List Note → ℕ → Span → Bool
covers notes x s = noted_as (λ d. inside s d.span) notes x

-- ---- written addresses

-- Card 9: "written since the last allowed create over it": of the notes over the address the newest, a write or a create, is a write
unfoldable pub written : List Note → ℕ → Bool
written [] a = false
written (New d r ∷ notes) a = cond (eqb d.parent 0 && in_span d.span a) false (written notes a)
written (Accessed Reading u s ∷ notes) a = written notes a
written (Accessed Writing u s ∷ notes) a = in_span s a || written notes a
written (Dropped u ∷ notes) a = written notes a

-- "A read through a marked capability needs besides .. each address written since the last allowed create over it."
abbrev pub is_readable : List Note → Span → Derivation → Bool
is_readable notes s d = not (is_marked d) || span_written (written notes) s

-- ---- holders

-- the domain that acts is a holder
abbrev pub is_holder : Caller → Derivation → Bool
is_holder by d = is_domain by.actor && holds d by.actor

-- ---- what is read by a conflict sheet

module _ (sheet : Sheet) where
  -- its life: "a drop of it or an ancestor", or an access, a create among them, that by the sheet ends it or an ancestor
  unfoldable pub ends : Takes
  ends (New d r) through x = reclaimed sheet is_end d through x
  ends (Accessed a u s) through x = reached sheet is_end a s through x
  ends (Dropped u) through x = in_subtree u x

  -- its `rw`: an access, a create among them, that by the sheet lowers it or an ancestor
  unfoldable pub lowers : Takes
  lowers (New d r) through x = reclaimed sheet is_lower d through x
  lowers (Accessed a u s) through x = reached sheet is_lower a s through x
  lowers (Dropped u) through x = false

  -- ---- life and rights

  -- "A name lives when it was noted as new and no later note is a drop of it or an ancestor, or a write that strikes it or an ancestor."
  -- A create's own name lives on: its note is not later than itself.
  unfoldable pub lives : List Note → ℕ → Bool
  lives notes x = any (makes x) notes && not (later x (hits ends (derivations notes) x) notes)

  -- "A living name is `rw` when it was made writable, that is noted with `rw`, and no later note is a read that strikes it or an ancestor"
  unfoldable pub writable : List Note → ℕ → Bool
  writable notes x = any (makes_writable x) notes && not (later x (hits lowers (derivations notes) x) notes)

  -- it lives, and is `rw`
  abbrev pub lives_rw : List Note → ℕ → Bool
  lives_rw notes x = lives notes x && writable notes x

  -- ---- the history's table

  -- the row of a living name
  unfoldable pub row_of : List Note → Derivation → Cap
  row_of notes d = row d (cond (writable notes d.name) 2 1) (length (ancestry (derivations notes) d.name))

  abbrev pub alive : List Note → Derivation → Bool
  alive notes d = lives notes d.name

  -- "one for each living name": the newest first
  unfoldable pub rows : List Note → List Cap
  rows notes = map (row_of notes) (filter (alive notes) (derivations notes))

  -- "The history's table has as many rows as the lent one: one for each living name, rising, .. then zeros."
  abbrev pub table : ℕ → List Note → List Cap
  table n notes = lent_table n (rows notes)

  -- ---- demand 3: what a read and a write need, by the notes alone

  -- "a read through a capability is allowed exactly when the capability was created or borrowed, the span is legal and within its own,
  -- and since it was made neither it nor any ancestor was dropped, or touched by an allowed write through a capability outside that one's
  -- own subtree"; by card 4 a create counts as such a write, and by card 7 the sheet says which accesses end.
  -- Card 10: "allowed as before if the actor is also a holder; demand 3 asks that too, and that no refused sheet of limits is lent with the
  -- event", by the history's own table of so many rows
  unfoldable pub may_use : ℕ → Caller → List Note → ℕ → Span → Bool
  may_use n by notes u s = legal s && covers notes u s && lives notes u && noted_as (is_holder by) notes u && not (refused_sheet (table n notes) by.limits)

  -- Card 9: a read "needs besides, in demand 3 too", that a marked capability's addresses are written
  unfoldable pub may_read : ℕ → Caller → List Note → ℕ → Span → Bool
  may_read n by notes u s = may_use n by notes u s && noted_as (is_readable notes s) notes u

  -- "A write is allowed exactly when, besides, the capability was made writable and since then no allowed read touched it or an ancestor
  -- through a capability outside that one's own subtree." Card 9: "A write needs none written."
  unfoldable pub may_write : ℕ → Caller → List Note → ℕ → Span → Bool
  may_write n by notes u s = may_use n by notes u s && writable notes u

-- ---- a request

-- "It holds notes in order and a count of names, at first none and 0."; by card 11 also the notes that stood at each mark
pub record History : Type 0 where
  pub notes : List Note
  pub count : ℕ
  pub kept : List (Slot (List Note))

abbrev pub empty_history : History
empty_history = record { notes = []; count = 0; kept = unstored }

-- the mark noted of the name with this ancestry
abbrev pub mark_on : List Derivation → ℕ
mark_on [] = 0
mark_on (d ∷ above) = d.fresh

-- the notes of an allowed request, newest first, when these stand and so many names have been counted; of names dropped together "the notes, that single
-- drops in falling order of name leave", so the smallest name stands first
unfoldable pub notes_of : List Note → ℕ → Request → List Note
notes_of notes count (Single by (Create w s r)) = New (root by count s r) r.right ∷ []
notes_of notes count (Single by (Borrow w u s r)) = New (child by count u (mark_on (ancestry (derivations notes) u.0)) s r) r.right ∷ []
notes_of notes count (Single by (Read u s)) = Accessed Reading u.0 s ∷ []
notes_of notes count (Single by (Write u s)) = Accessed Writing u.0 s ∷ []
notes_of notes count (Single by (Drop u)) = Dropped u.0 ∷ []
notes_of notes count (Group by names) = map Dropped names
notes_of notes count (Mark by k) = []
notes_of notes count (Back by k) = []

-- the name that notes make; 0 where they make none
unfoldable pub noted_name : List Note → ℕ
noted_name [] = 0
noted_name (New d r ∷ notes) = d.name
noted_name (Accessed a u s ∷ notes) = noted_name notes
noted_name (Dropped u ∷ notes) = noted_name notes

-- what it judges a request on: "its own table", "its count as the issued number", what it has noted as written, and
-- its own tables that stood at the marks
abbrev pub view : Sheet → ℕ → List (Slot (List Note)) → List Note → ℕ → View
view sheet n kept notes count = record { table = table sheet n notes; issued = count; is_written = written notes; bytes = 8192; slot = λ k. slot_map (table sheet n) (get_or kept k Nothing); slot_count = length kept }

-- "It answers each event as this document says, judged on its own table and with its count as the issued number."
unfoldable pub answer : Sheet → ℕ → History → Request → Verdict
answer sheet n h q = verdict (judge (view sheet n h.kept h.notes h.count) q) (new_name h.count q)

-- Card 11: "After a back, the history .. is the one that stood at the mark, except that its count of names stays as it is now"
abbrev pub notes_after : History → Request → List Note
notes_after h (Single by e) = notes_of h.notes h.count (Single by e) ++ h.notes
notes_after h (Group by names) = notes_of h.notes h.count (Group by names) ++ h.notes
notes_after h (Mark by k) = h.notes
notes_after h (Back by k) = stored_or h.notes (get_or h.kept k Nothing)

-- "A refused event changes nothing. An allowed create or borrow raises the count by one."
abbrev pub outcome : ℕ → History → Request → History
outcome zero h q = record { notes = notes_after h q; count = issued_after h.count q; kept = slots_after h.notes h.kept q }
outcome (suc k) h q = h

unfoldable pub after : Sheet → ℕ → History → Request → History
after sheet n h q = outcome (judge (view sheet n h.kept h.notes h.count) q) h q

-- the history of a list of requests, over any number of rows, with one sheet kept throughout
abbrev pub history_after : Sheet → ℕ → List Request → History
history_after sheet n = final (after sheet n) empty_history
