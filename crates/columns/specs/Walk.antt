-- Columns by their kinds, for the functions below the public calls: how many entries there are, and which words are an event's.
-- Assumes nothing.
use Rattle.std.specs.Prelude.{ℕ, ◌+◌, Bool, cond, ◌&&◌, ◌||◌, List, [], ◌∷◌, map, eqb, leb, get_or, None, Option, Some}
use Rattle.model.specs.Lists.{all}
use Rattle.model.specs.Table.{is_right}
use Rattle.text.specs.Result.{Result, value, refused}
use Rattle.columns.specs.declared.Used.{Used}
use Rattle.columns.specs.declared.counts.Counts.{Counts}
use Rattle.columns.specs.Form.{is_event}
use Rattle.columns.specs.Columns.{has_name, has_span, has_right}

-- ---- the words of an event, by its kind

-- a kind is one of the five
abbrev pub is_five : ℕ → Bool
is_five k = leb 1 k && leb k 5

-- a create has no name, and a drop no span
abbrev pub name_fits : List ℕ → Bool
name_fits w = has_name (get_or w 0 0) || eqb (get_or w 1 0) 0

abbrev pub span_fits : List ℕ → Bool
span_fits w = has_span (get_or w 0 0) || (eqb (get_or w 2 0) 0 && eqb (get_or w 3 0) 0)

-- an event that makes a capability gives a right, and holders, who are domain 0 alone; another gives neither
abbrev pub right_plain : List ℕ → Bool
right_plain w = cond (has_right (get_or w 0 0)) (is_right (get_or w 4 0)) (eqb (get_or w 4 0) 0)

abbrev pub holders_plain : List ℕ → Bool
holders_plain w = cond (has_right (get_or w 0 0)) (eqb (get_or w 10 0) 1) (eqb (get_or w 10 0) 0)

-- the words that no event of document 01's form has: a written name, a kind of capability, a mark, a domain, and holders above the first 32
abbrev pub rest_plain : List ℕ → Bool
rest_plain w = eqb (get_or w 5 0) 0 && (eqb (get_or w 6 0) 0 && (eqb (get_or w 7 0) 0 && (eqb (get_or w 8 0) 0 && (eqb (get_or w 9 0) 0 && eqb (get_or w 11 0) 0))))

unfoldable pub words_plain : List ℕ → Bool
words_plain w = is_five (get_or w 0 0) && (name_fits w && (span_fits w && (right_plain w && (holders_plain w && rest_plain w))))

-- ---- how many entries kinds have

-- one more where there is an entry
abbrev pub count_if : Bool → ℕ → ℕ
count_if has n = cond has (n + 1) n

abbrev pub none : Counts
none = record { names = 0; spans = 0; rights = 0 }

-- the counts with those of one kind more
abbrev pub with_kind : ℕ → Counts → Counts
with_kind k c = record { names = count_if (has_name k) c.names; spans = count_if (has_span k) c.spans; rights = count_if (has_right k) c.rights }

unfoldable pub counts_of : List ℕ → Counts
counts_of [] = none
counts_of (k ∷ kinds) = with_kind k (counts_of kinds)

-- what so many events use, by their counts
abbrev pub used_by : ℕ → Counts → Used
used_by events c = record { events = events; kinds = events; names = c.names; starts = c.spans; lengths = c.spans; rights = c.rights }

abbrev pub counted_of : Option Counts → Result Counts
counted_of (Some c) = value c
counted_of None = refused 2

-- the counts of a lent list of events, and of a column of kinds
abbrev pub kinds_in : List (List ℕ) → List ℕ
kinds_in ws = map (λ w. get_or w 0 0) ws

abbrev pub event_counts : List (List ℕ) → Result Counts
event_counts ws = cond (all is_event ws) (value (counts_of (kinds_in ws))) (refused 2)

abbrev pub kind_counts : List ℕ → Result Counts
kind_counts kinds = cond (all is_five kinds) (value (counts_of kinds)) (refused 2)

-- lists of these lengths have room for the entries of so many events
abbrev pub room_for : ℕ → Counts → ℕ → ℕ → ℕ → ℕ → ℕ → Bool
room_for events c kinds names starts lengths rights =
    leb events kinds && (leb c.names names && (leb c.spans starts && (leb c.spans lengths && leb c.rights rights)))

-- a value where there is one, and 0 where a kind lacks it
abbrev pub kept : Bool → ℕ → ℕ
kept has x = cond has x 0

-- columns of these lengths have just the entries that are counted
abbrev pub lengths_fit : Counts → ℕ → ℕ → ℕ → ℕ → Bool
lengths_fit c names starts lengths rights = eqb names c.names && (eqb starts c.spans && (eqb lengths c.spans && eqb rights c.rights))
