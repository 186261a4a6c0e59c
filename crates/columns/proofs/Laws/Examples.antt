-- Examples of events by column and of what either way answers and leaves, computed by the definitions.
-- Assumes nothing.
use mathlib.Core.Path.{◌≡◌, refl}
use mathlib.Core.Bool.{Bool, true, false, and-true}
use mathlib.Core.List.{List, [], ◌∷◌, ◌++◌, map, flat_map}
use Prim.Native.Nat.{ℕ, zero, suc, ◌*◌}
use Prim.Native.String.{String}
use lib.Dec.{leb}
use lib.ListN.{set, replicate, length-replicate}
use Rattle.model.specs.declared.Event.{Event}
use Rattle.model.specs.declared.Event.TheVariants.{Drop}
use Rattle.model.specs.Bits.{has_bit}
use Rattle.model.specs.Lists.{all}
use Rattle.text.specs.Class.{class_of}
use Rattle.text.specs.Line.{through}
use Rattle.text.specs.Decimal.{numeral, decimal, number_from}
use Rattle.text.specs.Event.{bytes, spaced, form, spell, writes_name, has_spelling}
use Rattle.text.specs.Mask.{hex, hex_from}
use Rattle.text.specs.Read.{same, guess, read_event}
use Rattle.text.specs.Form.{form01, in_form}
use Rattle.text.specs.Result.{Result, value, refused}
use Rattle.text.specs.declared.spelling.Spelling.{Spelling}
use Rattle.text.specs.declared.spelling.Spelling.TheVariants.{Plain, Named}
use Rattle.kelzoud_events.specs.Interface.{packed, name_of, event_with, event_in, words_of}
use Rattle.columns.specs.Form.{event_words, is_event}
use Rattle.columns.specs.Columns.{Columns, columns, columns_of, taken, to_columns, events_from, same_columns, fits, from_columns}
use Rattle.columns.specs.Lent.{room, read_events, moved_to, stored_to, moved_from, stored_from, packed_moved, counts_after}
use Rattle.columns.proofs.Laws.Inverse.{to_else}

-- the event that a line reads as, and a drop of name 0 where it reads as none; who acts is left out
abbrev line_event : Spelling → String → Event
line_event k s = event (read_event k (bytes s))
  where
    event : Result (ℕ × Event) → Event
    event (value e) = e.1
    event (refused r) = Drop (name_of 0)

-- a trace with each kind of event, and the words of its lines
abbrev lines : List String
lines = "(create 0 64 rw)\n" ∷ "(borrow 1 8 16 rw)\n" ∷ "(write 2 9 4)\n" ∷ "(borrow 2 10 3 ro)\n" ∷ "(read 3 11 2)\n" ∷ "(drop 7)\n" ∷ []

abbrev words : List (List ℕ)
words =
    (1 ∷ 0 ∷ 0 ∷ 64 ∷ 2 ∷ 0 ∷ 0 ∷ 0 ∷ 0 ∷ 0 ∷ 1 ∷ 0 ∷ [])
    ∷ (2 ∷ 1 ∷ 8 ∷ 16 ∷ 2 ∷ 0 ∷ 0 ∷ 0 ∷ 0 ∷ 0 ∷ 1 ∷ 0 ∷ [])
    ∷ (4 ∷ 2 ∷ 9 ∷ 4 ∷ 0 ∷ 0 ∷ 0 ∷ 0 ∷ 0 ∷ 0 ∷ 0 ∷ 0 ∷ [])
    ∷ (2 ∷ 2 ∷ 10 ∷ 3 ∷ 1 ∷ 0 ∷ 0 ∷ 0 ∷ 0 ∷ 0 ∷ 1 ∷ 0 ∷ [])
    ∷ (3 ∷ 3 ∷ 11 ∷ 2 ∷ 0 ∷ 0 ∷ 0 ∷ 0 ∷ 0 ∷ 0 ∷ 0 ∷ 0 ∷ [])
    ∷ (5 ∷ 7 ∷ 0 ∷ 0 ∷ 0 ∷ 0 ∷ 0 ∷ 0 ∷ 0 ∷ 0 ∷ 0 ∷ 0 ∷ [])
    ∷ []

-- its columns
abbrev kept : Columns
kept = columns (1 ∷ 2 ∷ 4 ∷ 2 ∷ 3 ∷ 5 ∷ []) (1 ∷ 2 ∷ 2 ∷ 3 ∷ 7 ∷ []) (0 ∷ 8 ∷ 9 ∷ 10 ∷ 11 ∷ []) (64 ∷ 16 ∷ 4 ∷ 3 ∷ 2 ∷ []) (2 ∷ 2 ∷ 1 ∷ [])

-- the lines are document 01's, and their events have these words and these columns
lines_form : map (λ s. form01 (line_event Plain s)) lines ≡ map bytes lines
unfolding read_event guess through class_of number_from same has_spelling writes_name spell form form01 spaced has_bit decimal numeral
lines_form = refl

lines_words : map (λ s. event_words (line_event Plain s)) lines ≡ words
unfolding read_event guess through class_of number_from same has_spelling writes_name spell form spaced has_bit decimal numeral words_of
lines_words = refl

lines_columns : columns_of (map (line_event Plain) lines) ≡ kept
unfolding read_event guess through class_of number_from same has_spelling writes_name spell form spaced has_bit decimal numeral columns_of flat_map
lines_columns = refl

-- lines that have a spelling, and another form: a written name, a kind, a mark, a mask
other_forms : map (λ s. in_form (line_event Plain s)) ("(drop 7)\n" ∷ "(create 0 8 rw)\n" ∷ "(create 0 8 rw fresh)\n" ∷ "(create 0 8 rw 0000000000000003)\n" ∷ "(borrow 1 0 8 rw)\n" ∷ "(borrow 1 0 8 rw raw)\n" ∷ "(borrow 1 0 8 ro cell)\n" ∷ [])
    ≡ true ∷ true ∷ false ∷ false ∷ true ∷ false ∷ false ∷ []
unfolding read_event guess through class_of number_from same has_spelling writes_name spell form form01 spaced hex hex_from has_bit decimal numeral in_form
other_forms = refl

named_form : in_form (line_event Named "(create 1 0 8 rw)\n") ≡ false
unfolding read_event guess through class_of number_from same has_spelling writes_name spell form form01 spaced hex hex_from has_bit decimal numeral in_form
named_form = refl

-- ---- words that stand for events, and words that do not

abbrev places : List ℕ
places = 0 ∷ 1 ∷ 2 ∷ 3 ∷ 4 ∷ 5 ∷ 6 ∷ 7 ∷ 8 ∷ 9 ∷ 10 ∷ 11 ∷ []

-- whether words still stand for an event where one of them is 9: so where it is a name, a start or a length
abbrev changed : List ℕ → List Bool
changed w = map (λ k. is_event (set w k 9)) places

changed_words : map changed words
    ≡ (false ∷ false ∷ true ∷ true ∷ false ∷ false ∷ false ∷ false ∷ false ∷ false ∷ false ∷ false ∷ [])
    ∷ (false ∷ true ∷ true ∷ true ∷ false ∷ false ∷ false ∷ false ∷ false ∷ false ∷ false ∷ false ∷ [])
    ∷ (false ∷ true ∷ true ∷ true ∷ false ∷ false ∷ false ∷ false ∷ false ∷ false ∷ false ∷ false ∷ [])
    ∷ (false ∷ true ∷ true ∷ true ∷ false ∷ false ∷ false ∷ false ∷ false ∷ false ∷ false ∷ false ∷ [])
    ∷ (false ∷ true ∷ true ∷ true ∷ false ∷ false ∷ false ∷ false ∷ false ∷ false ∷ false ∷ false ∷ [])
    ∷ (false ∷ true ∷ false ∷ false ∷ false ∷ false ∷ false ∷ false ∷ false ∷ false ∷ false ∷ false ∷ [])
    ∷ []
unfolding is_event in_form event_in event_with words_of same has_spelling writes_name spell form form01 spaced hex has_bit decimal numeral
changed_words = refl

-- a write's words with another kind: a read's are the same, a borrow lacks its right and its holders, and 0 and 6 to 8 are none of the five
other_kinds : map (λ k. is_event (set (4 ∷ 2 ∷ 9 ∷ 4 ∷ 0 ∷ 0 ∷ 0 ∷ 0 ∷ 0 ∷ 0 ∷ 0 ∷ 0 ∷ []) 0 k)) (0 ∷ 1 ∷ 2 ∷ 3 ∷ 4 ∷ 5 ∷ 6 ∷ 7 ∷ 8 ∷ [])
    ≡ false ∷ false ∷ false ∷ true ∷ true ∷ false ∷ false ∷ false ∷ false ∷ []
unfolding is_event in_form event_in event_with words_of same has_spelling writes_name spell form form01 spaced hex has_bit decimal numeral
other_kinds = refl

-- names that are dropped together, a mark and a back, by their own words
other_requests : map is_event (
    (6 ∷ 0 ∷ 0 ∷ 1 ∷ 0 ∷ 0 ∷ 0 ∷ 0 ∷ 0 ∷ 0 ∷ 0 ∷ 0 ∷ [])
    ∷ (7 ∷ 3 ∷ 0 ∷ 0 ∷ 0 ∷ 0 ∷ 0 ∷ 0 ∷ 0 ∷ 0 ∷ 0 ∷ 0 ∷ [])
    ∷ (8 ∷ 3 ∷ 0 ∷ 0 ∷ 0 ∷ 0 ∷ 0 ∷ 0 ∷ 0 ∷ 0 ∷ 0 ∷ 0 ∷ [])
    ∷ [])
    ≡ false ∷ false ∷ false ∷ []
unfolding is_event in_form event_in event_with words_of same has_spelling writes_name spell form form01 spaced hex has_bit decimal numeral
other_requests = refl

-- ---- there

-- columns with room for one more each, and something in it
abbrev lent : Columns
lent = columns (replicate 7 9) (replicate 6 9) (replicate 6 9) (replicate 6 9) (replicate 4 9)

-- what a list is answered with, what it leaves of six words of 5 for the counts, and what of the columns
abbrev there : List (List ℕ) → Columns → ℕ × List ℕ × Columns
there ws out = (packed_moved (moved_to ws out), counts_after (moved_to ws out) (replicate 6 5), stored_to ws out)

-- all entries in front, and the 9 behind them
put : there words lent
    ≡ (
      6,
      6 ∷ 6 ∷ 5 ∷ 5 ∷ 5 ∷ 3 ∷ [],
      columns (1 ∷ 2 ∷ 4 ∷ 2 ∷ 3 ∷ 5 ∷ 9 ∷ []) (1 ∷ 2 ∷ 2 ∷ 3 ∷ 7 ∷ 9 ∷ []) (0 ∷ 8 ∷ 9 ∷ 10 ∷ 11 ∷ 9 ∷ []) (64 ∷ 16 ∷ 4 ∷ 3 ∷ 2 ∷ 9 ∷ []) (2 ∷ 2 ∷ 1 ∷ 9 ∷ []),
    )
unfolding packed moved_to stored_to read_events to_columns taken columns_of flat_map room is_event in_form event_in event_with words_of same has_spelling writes_name spell form form01 spaced hex has_bit decimal numeral
put = refl

-- no events use nothing
put_none : there [] (columns [] [] [] [] []) ≡ (0, replicate 6 0, columns [] [] [] [] [])
unfolding packed moved_to stored_to read_events to_columns taken columns_of flat_map room
put_none = refl

-- each column one entry too short is 11, and all is left
abbrev shorter : List Columns
shorter =
    columns (replicate 5 9) (replicate 5 9) (replicate 5 9) (replicate 5 9) (replicate 3 9)
    ∷ columns (replicate 6 9) (replicate 4 9) (replicate 5 9) (replicate 5 9) (replicate 3 9)
    ∷ columns (replicate 6 9) (replicate 5 9) (replicate 4 9) (replicate 5 9) (replicate 3 9)
    ∷ columns (replicate 6 9) (replicate 5 9) (replicate 5 9) (replicate 4 9) (replicate 3 9)
    ∷ columns (replicate 6 9) (replicate 5 9) (replicate 5 9) (replicate 5 9) (replicate 2 9)
    ∷ []

put_short : map (there words) shorter ≡ map (λ out. (11 * 4294967296, replicate 6 5, out)) shorter
unfolding packed moved_to stored_to read_events to_columns taken columns_of flat_map room is_event in_form event_in event_with words_of same has_spelling writes_name spell form form01 spaced hex has_bit decimal numeral
put_short = refl

-- an event of no form is 2, also where there is no room
put_other : map (there (words ++ ((6 ∷ 0 ∷ 0 ∷ 1 ∷ 0 ∷ 0 ∷ 0 ∷ 0 ∷ 0 ∷ 0 ∷ 0 ∷ 0 ∷ []) ∷ []))) (lent ∷ columns [] [] [] [] [] ∷ []) ≡ map (λ out. (2 * 4294967296, replicate 6 5, out)) (lent ∷ columns [] [] [] [] [] ∷ [])
unfolding packed moved_to stored_to read_events is_event in_form event_in event_with words_of same has_spelling writes_name spell form form01 spaced hex has_bit decimal numeral
put_other = refl

-- 4,096 events are taken, and 4,097 are 2
all_drops : (n : ℕ) → all in_form (replicate n (Drop (name_of 1))) ≡ true
unfolding in_form same has_spelling spell form form01 spaced decimal numeral
all_drops zero = refl
all_drops (suc n) = all_drops n

drops_taken : (n : ℕ) → taken (replicate n (Drop (name_of 1))) ≡ leb n 4096
unfolding taken
drops_taken n = rw (length-replicate, all_drops n) (and-true (leb n 4096))

most : taken (replicate 4096 (Drop (name_of 1))) ≡ true
most = drops_taken 4096

too_many : to_columns (replicate 4097 (Drop (name_of 1))) ≡ refused 2
too_many = to_else (replicate 4097 (Drop (name_of 1))) (drops_taken 4097)

-- ---- and back

-- a list with room for one more event
abbrev room_for : ℕ → List (List ℕ)
room_for n = replicate n (replicate 12 9)

abbrev back : Columns → List (List ℕ) → ℕ × List ℕ × List (List ℕ)
back c out = (packed_moved (moved_from c out), counts_after (moved_from c out) (replicate 6 5), stored_from c out)

taken_back : back kept (room_for 7) ≡ (6, 6 ∷ 6 ∷ 5 ∷ 5 ∷ 5 ∷ 3 ∷ [], words ++ room_for 1)
unfolding packed moved_from stored_from from_columns fits same_columns taken events_from columns_of flat_map in_form event_with words_of same has_spelling writes_name spell form form01 spaced hex has_bit decimal numeral
taken_back = refl

back_short : back kept (room_for 5) ≡ (11 * 4294967296, replicate 6 5, room_for 5)
unfolding packed moved_from stored_from from_columns fits same_columns taken events_from columns_of flat_map in_form event_with words_of same has_spelling writes_name spell form form01 spaced hex has_bit decimal numeral
back_short = refl

-- columns with an entry too many or too few, kinds 0 and 6, and rights 0 and 3 are 2, also where there is no room
abbrev others : List Columns
others =
    columns (3 ∷ []) (1 ∷ 1 ∷ []) (0 ∷ []) (8 ∷ []) []
    ∷ columns (3 ∷ []) [] (0 ∷ []) (8 ∷ []) []
    ∷ columns (3 ∷ []) (1 ∷ []) (0 ∷ 0 ∷ []) (8 ∷ []) []
    ∷ columns (3 ∷ []) (1 ∷ []) (0 ∷ []) [] []
    ∷ columns (3 ∷ []) (1 ∷ []) (0 ∷ []) (8 ∷ []) (1 ∷ [])
    ∷ columns (5 ∷ []) (1 ∷ []) (0 ∷ []) (8 ∷ []) []
    ∷ columns (1 ∷ []) (1 ∷ []) (0 ∷ []) (8 ∷ []) (2 ∷ [])
    ∷ columns (0 ∷ []) [] (0 ∷ []) (8 ∷ []) (2 ∷ [])
    ∷ columns (6 ∷ []) (1 ∷ []) [] [] []
    ∷ columns (1 ∷ []) [] (0 ∷ []) (8 ∷ []) (0 ∷ [])
    ∷ columns (2 ∷ []) (1 ∷ []) (0 ∷ []) (8 ∷ []) (3 ∷ [])
    ∷ columns [] (1 ∷ []) [] [] []
    ∷ []

back_other : (map (λ c. back c (room_for 1)) others ≡ map (λ c. (2 * 4294967296, replicate 6 5, room_for 1)) others) × (map (λ c. back c []) others ≡ map (λ c. (2 * 4294967296, replicate 6 5, [])) others)
unfolding packed moved_from stored_from from_columns fits same_columns taken events_from columns_of flat_map in_form event_with words_of same has_spelling writes_name spell form form01 spaced hex has_bit decimal numeral
back_other = (refl, refl)
