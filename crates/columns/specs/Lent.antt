-- Card 12, "traces by column": what either way answers, and what the lent lists then hold.
-- Assumes nothing.
use Rattle.std.specs.Prelude.{ℕ, Bool, cond, ◌&&◌, List, [], ◌∷◌, ◌++◌, map, leb, length, drop, Err, Ok, Result as Returned}
use Rattle.model.specs.declared.Refusal.{Refusal}
use Rattle.model.specs.declared.Event.{Event}
use Rattle.model.specs.Lists.{all}
use Rattle.model.specs.Answers.{number}
use Rattle.text.specs.Result.{Result, value, refused}
use Rattle.kelzoud_events.specs.Interface.{packed, event_in}
use Rattle.columns.specs.declared.Used.{Used}
use Rattle.columns.specs.Form.{event_words, is_event}
use Rattle.columns.specs.Columns.{Columns, columns, to_columns, from_columns}

-- what each case of the code's answer stands for
abbrev pub moved_of : Returned Used Refusal → Result Used
moved_of (Ok u) = value u
moved_of (Err r) = refused (number r)

-- "Each way answers how many entries it used in each list."
abbrev pub used : ℕ → Columns → Used
used events c =
    record {
      events = events;
      kinds = length c.kinds;
      names = length c.names;
      starts = length c.starts;
      lengths = length c.lengths;
      rights = length c.rights;
    }

-- each column is at most as long as the one that is lent for it
unfoldable pub room : Columns → Columns → Bool
room c out =
    leb (length c.kinds) (length out.kinds) && (leb (length c.names) (length out.names) && (leb (length c.starts) (length out.starts)
    && (leb (length c.lengths) (length out.lengths) && leb (length c.rights) (length out.rights))))

-- entries in front of a lent list: "entries beyond those used stay"
abbrev pub over : {A : Type 0} → List A → List A → List A
over l out = l ++ drop (length l) out

abbrev pub over_columns : Columns → Columns → Columns
over_columns c out =
    columns (over c.kinds out.kinds) (over c.names out.names) (over c.starts out.starts) (over c.lengths out.lengths) (over c.rights out.rights)

-- ---- into columns

-- the columns of a lent list of events, each of them twelve words; words that stand for no event of document 01's form are "any other event"
unfoldable pub read_events : List (List ℕ) → Result Columns
read_events ws = cond (all is_event ws) (to_columns (map event_in ws)) (refused 2)

-- 2 comes before 11: "a column or event list lent for the result and too short is 11"
abbrev pub answer_to : ℕ → Result Columns → Columns → Result Used
answer_to events (value c) out = cond (room c out) (value (used events c)) (refused 11)
answer_to events (refused k) out = refused k

-- "A refusal changes no lent entry"
abbrev pub columns_after : Result Columns → Columns → Columns
columns_after (value c) out = cond (room c out) (over_columns c out) out
columns_after (refused k) out = out

-- what a list of events is answered with, and what it leaves in the columns that are lent
unfoldable pub moved_to : List (List ℕ) → Columns → Result Used
moved_to ws out = answer_to (length ws) (read_events ws) out

unfoldable pub stored_to : List (List ℕ) → Columns → Columns
stored_to ws out = columns_after (read_events ws) out

-- ---- and back

abbrev pub answer_from : Columns → Result (List Event) → List (List ℕ) → Result Used
answer_from c (value es) out = cond (leb (length es) (length out)) (value (used (length es) c)) (refused 11)
answer_from c (refused k) out = refused k

abbrev pub events_after : Result (List Event) → List (List ℕ) → List (List ℕ)
events_after (value es) out = cond (leb (length es) (length out)) (over (map event_words es) out) out
events_after (refused k) out = out

-- what columns are answered with, and what they leave in the list of events that is lent
unfoldable pub moved_from : Columns → List (List ℕ) → Result Used
moved_from c out = answer_from c (from_columns c) out

unfoldable pub stored_from : Columns → List (List ℕ) → List (List ℕ)
stored_from c out = events_after (from_columns c) out

-- ---- for C

-- the counts as words, in the order of the lists
abbrev pub used_words : Used → List ℕ
used_words u = u.events ∷ u.kinds ∷ u.names ∷ u.starts ∷ u.lengths ∷ u.rights ∷ []

-- the answer: 0 and the number of events, or a refusal with 0
abbrev pub packed_moved : Result Used → ℕ
packed_moved (value u) = packed 0 u.events
packed_moved (refused k) = packed k 0

-- the six words that are lent for the counts: a refusal leaves them
abbrev pub counts_after : Result Used → List ℕ → List ℕ
counts_after (value u) before = used_words u
counts_after (refused k) before = before
