-- Card 12, "traces by column": the columns of a list of events, and the events of a set of columns.
-- Assumes nothing.
use Rattle.std.specs.Prelude.{ℕ, Bool, cond, ◌&&◌, leb, ltb, length, get_or, drop, None}
use mathlib.Core.List.{List, [], ◌∷◌, map, flat_map}
use Rattle.model.specs.declared.Event.{Event}
use Rattle.model.specs.declared.Event.TheVariants.{Create, Borrow, Read, Write, Drop}
use Rattle.model.specs.Lists.{all}
use Rattle.text.specs.Result.{Result, value, refused}
use Rattle.text.specs.Read.{same}
use Rattle.text.specs.Form.{in_form, plain_terms}
use Rattle.kelzoud_events.specs.Interface.{event_with}

-- "one column of kinds .., one of names, one of starts, one of lengths and one of rights"
pub record Columns : Type 0 where
  pub kinds : List ℕ
  pub names : List ℕ
  pub starts : List ℕ
  pub lengths : List ℕ
  pub rights : List ℕ

abbrev pub columns : List ℕ → List ℕ → List ℕ → List ℕ → List ℕ → Columns
columns kinds names starts lengths rights = record { kinds = kinds; names = names; starts = starts; lengths = lengths; rights = rights }

-- ---- into columns

-- "kinds (1 to 5 in that document's order)": create, borrow, read, write, drop
abbrev pub kind_of : Event → ℕ
kind_of (Create w s r) = 1
kind_of (Borrow w n s r) = 2
kind_of (Read n s) = 3
kind_of (Write n s) = 4
kind_of (Drop n) = 5

-- the entries of an event in the other columns, "with no entry where a kind lacks the value"
abbrev pub name_in : Event → List ℕ
name_in (Create w s r) = []
name_in (Borrow w n s r) = n.0 ∷ []
name_in (Read n s) = n.0 ∷ []
name_in (Write n s) = n.0 ∷ []
name_in (Drop n) = n.0 ∷ []

abbrev pub start_in : Event → List ℕ
start_in (Create w s r) = s.start.0 ∷ []
start_in (Borrow w n s r) = s.start.0 ∷ []
start_in (Read n s) = s.start.0 ∷ []
start_in (Write n s) = s.start.0 ∷ []
start_in (Drop n) = []

abbrev pub length_in : Event → List ℕ
length_in (Create w s r) = s.length ∷ []
length_in (Borrow w n s r) = s.length ∷ []
length_in (Read n s) = s.length ∷ []
length_in (Write n s) = s.length ∷ []
length_in (Drop n) = []

abbrev pub right_in : Event → List ℕ
right_in (Create w s r) = r.right ∷ []
right_in (Borrow w n s r) = r.right ∷ []
right_in (Read n s) = []
right_in (Write n s) = []
right_in (Drop n) = []

-- "are put, in their order, into" columns
unfoldable pub columns_of : List Event → Columns
columns_of es = columns (map kind_of es) (flat_map name_in es) (flat_map start_in es) (flat_map length_in es) (flat_map right_in es)

-- "Up to 4,096 events with a spelling in document 01's form"
unfoldable pub taken : List Event → Bool
taken es = leb (length es) 4096 && all in_form es

-- "any other event .., or more than 4,096 events, is refusal 2"
unfoldable pub to_columns : List Event → Result Columns
to_columns es = cond (taken es) (value (columns_of es)) (refused 2)

-- ---- and back

-- a kind has a name, a span, a right
abbrev pub has_name : ℕ → Bool
has_name k = ltb 1 k

abbrev pub has_span : ℕ → Bool
has_span k = ltb k 5

abbrev pub has_right : ℕ → Bool
has_right k = ltb k 3

-- the event of a kind with these values, of which it has those that its kind has; another kind stands for an event of no form
abbrev pub event_from : ℕ → ℕ → ℕ → ℕ → ℕ → Event
event_from kind name start length right = event_with None kind name start length (plain_terms right)

-- what is left of a column behind an event, where that has an entry and where it has none
abbrev pub behind : Bool → List ℕ → List ℕ
behind has column = cond has (drop 1 column) column

-- The only events whose columns these can be: each kind in turn takes the next entry of each column in which it has one. Nothing is refused here.
unfoldable pub events_from : List ℕ → List ℕ → List ℕ → List ℕ → List ℕ → List Event
events_from [] names starts lengths rights = []
events_from (k ∷ kinds) names starts lengths rights =
    event_from k (get_or names 0 0) (get_or starts 0 0) (get_or lengths 0 0) (get_or rights 0 0)
    ∷ events_from kinds (behind (has_name k) names) (behind (has_span k) starts) (behind (has_span k) lengths) (behind (has_right k) rights)

abbrev pub events_of : Columns → List Event
events_of c = events_from c.kinds c.names c.starts c.lengths c.rights

-- two sets of columns are the same
unfoldable pub same_columns : Columns → Columns → Bool
same_columns c d = same c.kinds d.kinds && (same c.names d.names && (same c.starts d.starts && (same c.lengths d.lengths && same c.rights d.rights)))

-- these are the columns of those events
unfoldable pub fits : Columns → Bool
fits c = taken (events_of c) && same_columns (columns_of (events_of c)) c

-- "The inverse returns the same events, and any other .. set of columns .. is refusal 2"
unfoldable pub from_columns : Columns → Result (List Event)
from_columns c = cond (fits c) (value (events_of c)) (refused 2)
