-- Examples of lines read and written as the C interface does, computed by the definitions.
-- Assumes nothing.
use mathlib.Core.Path.{◌≡◌, refl}
use mathlib.Core.List.{List, [], ◌∷◌}
use Prim.Native.Nat.{ℕ, ◌*◌}
use Prim.Native.String.{String}
use lib.ListN.{replicate}
use Rattle.model.specs.Requests.{Unlimited, rises_above, rises_strictly, is_group}
use Rattle.model.specs.Bits.{has_bit}
use Rattle.text.specs.Class.{class_of}
use Rattle.text.specs.Line.{through}
use Rattle.text.specs.Decimal.{numeral, decimal, number_from}
use Rattle.text.specs.Event.{bytes, spaced, form, spell, writes_name, has_spelling}
use Rattle.text.specs.Mask.{hex, hex_from}
use Rattle.text.specs.Write.{written, stored, write_event}
use Rattle.text.specs.Read.{same, guess, read_event}
use Rattle.text.specs.Group.{spell_group, names_from, guess_names, read_group, write_group}
use Rattle.text.specs.State.{spell_slot, read_state, write_slot}
use Rattle.text.specs.Request.{read_request, write_request}
use Rattle.kelzoud_events.specs.Interface.{packed, event_with, event_in, asked_in, part, request_in, words_of}
use Rattle.kelzoud.specs.Interface.{packed_result, packed_read, spelling_in, event_after, group_after}

-- what a line leaves: the answer, the event where twelve words of 5 stood, and the names where there were four of 5
abbrev reading : ℕ → String → ℕ × List ℕ × List ℕ
reading named s = let r = read_request Unlimited (spelling_in named) (bytes s) in (packed_read r, event_after r (replicate 12 5), group_after r (replicate 4 5))

-- a create in each form of lines, with the mark and without
read_create : (reading 0 "(create 16 64 rw)\n" ≡ (0, 1 ∷ 0 ∷ 16 ∷ 64 ∷ 2 ∷ 0 ∷ 0 ∷ 0 ∷ 0 ∷ 0 ∷ 1 ∷ 0 ∷ [], replicate 4 5))
    × (reading 9 "(create 3 16 64 rw)\n" ≡ (0, 1 ∷ 0 ∷ 16 ∷ 64 ∷ 2 ∷ 1 ∷ 3 ∷ 0 ∷ 0 ∷ 0 ∷ 1 ∷ 0 ∷ [], replicate 4 5))
    × (reading 1 "(create 16 64 rw)\n" ≡ (2 * 4294967296, replicate 12 5, replicate 4 5))
    × (reading 0 "(create 16 64 rw fresh)\n" ≡ (0, 1 ∷ 0 ∷ 16 ∷ 64 ∷ 2 ∷ 0 ∷ 0 ∷ 0 ∷ 1 ∷ 0 ∷ 1 ∷ 0 ∷ [], replicate 4 5))
    × (reading 1 "(create 3 16 64 ro fresh)\n" ≡ (0, 1 ∷ 0 ∷ 16 ∷ 64 ∷ 1 ∷ 1 ∷ 3 ∷ 0 ∷ 1 ∷ 0 ∷ 1 ∷ 0 ∷ [], replicate 4 5))
unfolding packed words_of read_event guess through class_of number_from same has_spelling writes_name spell form spaced hex hex_from has_bit decimal numeral rises_above rises_strictly is_group spell_group names_from guess_names read_group spell_slot read_state
read_create = (refl, refl, refl, refl, refl)

-- a borrow of each kind; a kind that has no word is not read, nor a mark
read_borrow : (reading 0 "(borrow 1 0 8 ro)\n" ≡ (0, 2 ∷ 1 ∷ 0 ∷ 8 ∷ 1 ∷ 0 ∷ 0 ∷ 0 ∷ 0 ∷ 0 ∷ 1 ∷ 0 ∷ [], replicate 4 5))
    × (reading 0 "(borrow 1 0 8 rw raw)\n" ≡ (0, 2 ∷ 1 ∷ 0 ∷ 8 ∷ 2 ∷ 0 ∷ 0 ∷ 1 ∷ 0 ∷ 0 ∷ 1 ∷ 0 ∷ [], replicate 4 5))
    × (reading 1 "(borrow 2 1 0 8 rw cell)\n" ≡ (0, 2 ∷ 1 ∷ 0 ∷ 8 ∷ 2 ∷ 1 ∷ 2 ∷ 2 ∷ 0 ∷ 0 ∷ 1 ∷ 0 ∷ [], replicate 4 5))
    × (reading 0 "(borrow 1 0 8 rw reference)\n" ≡ (2 * 4294967296, replicate 12 5, replicate 4 5))
    × (reading 0 "(borrow 1 0 8 rw fresh)\n" ≡ (2 * 4294967296, replicate 12 5, replicate 4 5))
unfolding packed words_of read_event guess through class_of number_from same has_spelling writes_name spell form spaced hex hex_from has_bit decimal numeral rises_above rises_strictly is_group spell_group names_from guess_names read_group spell_slot read_state
read_borrow = (refl, refl, refl, refl, refl)

-- one name is a drop, two are dropped together; names that do not rise are refused, and leave all
read_drop : (reading 0 "(drop 8)\n" ≡ (0, 5 ∷ 8 ∷ 0 ∷ 0 ∷ 0 ∷ 0 ∷ 0 ∷ 0 ∷ 0 ∷ 0 ∷ 0 ∷ 0 ∷ [], replicate 4 5))
    × (reading 1 "(drop 8 9)\n" ≡ (0, 6 ∷ 0 ∷ 0 ∷ 2 ∷ 0 ∷ 0 ∷ 0 ∷ 0 ∷ 0 ∷ 0 ∷ 0 ∷ 0 ∷ [], 8 ∷ 9 ∷ 5 ∷ 5 ∷ []))
    × (reading 0 "(drop 9 8)\n" ≡ (2 * 4294967296, replicate 12 5, replicate 4 5))
unfolding packed words_of read_event guess through class_of number_from same has_spelling writes_name spell form spaced hex hex_from has_bit decimal numeral rises_above rises_strictly is_group spell_group names_from guess_names read_group spell_slot read_state
read_drop = (refl, refl, refl)

-- who acts, and to whom a create or a borrow gives: the maker alone where the line has no mask
read_domains : (reading 0 "(as 3 (create 0 8 rw))\n" ≡ (0, 1 ∷ 0 ∷ 0 ∷ 8 ∷ 2 ∷ 0 ∷ 0 ∷ 0 ∷ 0 ∷ 3 ∷ 8 ∷ 0 ∷ [], replicate 4 5))
    × (reading 0 "(as 63 (borrow 1 0 8 rw 8000000300000000))\n" ≡ (0, 2 ∷ 1 ∷ 0 ∷ 8 ∷ 2 ∷ 0 ∷ 0 ∷ 0 ∷ 0 ∷ 63 ∷ 0 ∷ 2147483651 ∷ [], replicate 4 5))
    × (reading 0 "(as 7 (drop 8 9))\n" ≡ (0, 6 ∷ 0 ∷ 0 ∷ 2 ∷ 0 ∷ 0 ∷ 0 ∷ 0 ∷ 0 ∷ 7 ∷ 0 ∷ 0 ∷ [], 8 ∷ 9 ∷ 5 ∷ 5 ∷ []))
    × (reading 0 "(as 64 (drop 8))\n" ≡ (2 * 4294967296, replicate 12 5, replicate 4 5))
unfolding packed words_of read_event guess through class_of number_from same has_spelling writes_name spell form spaced hex hex_from has_bit decimal numeral rises_above rises_strictly is_group spell_group names_from guess_names read_group spell_slot read_state
read_domains = (refl, refl, refl, refl)

-- what the words of an event write into twenty bytes: the answer, and the buffer
abbrev writing : List ℕ → ℕ × List ℕ
writing w = let o = write_request (request_in Unlimited w (8 ∷ 9 ∷ [])) (bytes "....................") in (packed_result o.answer, o.buffer)

-- a create whose name is written and one whose is not, and names dropped together
written_lines : (writing (1 ∷ 0 ∷ 16 ∷ 64 ∷ 2 ∷ 0 ∷ 3 ∷ 0 ∷ 0 ∷ 0 ∷ 1 ∷ 0 ∷ []) ≡ (18, bytes "(create 16 64 rw)\n.."))
    × (writing (1 ∷ 0 ∷ 16 ∷ 64 ∷ 2 ∷ 1 ∷ 3 ∷ 0 ∷ 0 ∷ 0 ∷ 1 ∷ 0 ∷ []) ≡ (20, bytes "(create 3 16 64 rw)\n"))
    × (writing (6 ∷ 0 ∷ 0 ∷ 2 ∷ 0 ∷ 0 ∷ 0 ∷ 0 ∷ 0 ∷ 0 ∷ 0 ∷ 0 ∷ []) ≡ (11, bytes "(drop 8 9)\n........."))
unfolding packed asked_in event_in event_with part write_event write_group written stored has_spelling writes_name spell form spaced hex hex_from has_bit decimal numeral rises_above rises_strictly is_group spell_group
written_lines = (refl, refl, refl)

-- the line of a cell is too long for them, that of a reference is not; a create has no kind; kinds above 2, also one whose lower byte is a
-- kind's, are refused
written_kinds : (writing (2 ∷ 1 ∷ 0 ∷ 8 ∷ 2 ∷ 0 ∷ 0 ∷ 2 ∷ 0 ∷ 0 ∷ 1 ∷ 0 ∷ []) ≡ (11 * 4294967296, bytes "...................."))
    × (writing (2 ∷ 1 ∷ 0 ∷ 8 ∷ 2 ∷ 0 ∷ 0 ∷ 0 ∷ 0 ∷ 0 ∷ 1 ∷ 0 ∷ []) ≡ (18, bytes "(borrow 1 0 8 rw)\n.."))
    × (writing (1 ∷ 1 ∷ 16 ∷ 64 ∷ 2 ∷ 0 ∷ 0 ∷ 2 ∷ 0 ∷ 0 ∷ 1 ∷ 0 ∷ []) ≡ (18, bytes "(create 16 64 rw)\n.."))
    × (writing (2 ∷ 1 ∷ 0 ∷ 8 ∷ 2 ∷ 0 ∷ 0 ∷ 3 ∷ 0 ∷ 0 ∷ 1 ∷ 0 ∷ []) ≡ (2 * 4294967296, bytes "...................."))
    × (writing (2 ∷ 1 ∷ 0 ∷ 8 ∷ 2 ∷ 0 ∷ 0 ∷ 257 ∷ 0 ∷ 0 ∷ 1 ∷ 0 ∷ []) ≡ (2 * 4294967296, bytes "...................."))
unfolding packed asked_in event_in event_with part write_event write_group written stored has_spelling writes_name spell form spaced hex hex_from has_bit decimal numeral rises_above rises_strictly is_group spell_group
written_kinds = (refl, refl, refl, refl, refl)

-- a marked create; a mark that is none, also one whose lower byte is a mark's, is refused; a borrow has none
written_marks : (writing (1 ∷ 0 ∷ 0 ∷ 8 ∷ 2 ∷ 0 ∷ 0 ∷ 0 ∷ 0 ∷ 0 ∷ 1 ∷ 0 ∷ []) ≡ (16, bytes "(create 0 8 rw)\n...."))
    × (writing (1 ∷ 0 ∷ 0 ∷ 8 ∷ 2 ∷ 0 ∷ 0 ∷ 0 ∷ 1 ∷ 0 ∷ 1 ∷ 0 ∷ []) ≡ (11 * 4294967296, bytes "...................."))
    × (writing (1 ∷ 0 ∷ 0 ∷ 8 ∷ 2 ∷ 0 ∷ 0 ∷ 0 ∷ 2 ∷ 0 ∷ 1 ∷ 0 ∷ []) ≡ (2 * 4294967296, bytes "...................."))
    × (writing (1 ∷ 0 ∷ 0 ∷ 8 ∷ 2 ∷ 0 ∷ 0 ∷ 0 ∷ 257 ∷ 0 ∷ 1 ∷ 0 ∷ []) ≡ (2 * 4294967296, bytes "...................."))
    × (writing (2 ∷ 1 ∷ 0 ∷ 8 ∷ 2 ∷ 0 ∷ 0 ∷ 0 ∷ 1 ∷ 0 ∷ 1 ∷ 0 ∷ []) ≡ (18, bytes "(borrow 1 0 8 rw)\n.."))
unfolding packed asked_in event_in event_with part write_event write_group written stored has_spelling writes_name spell form spaced hex hex_from has_bit decimal numeral rises_above rises_strictly is_group spell_group
written_marks = (refl, refl, refl, refl, refl)

-- 2 for an unknown kind and an unknown right, 13 for names past the end of their list, and 11 where the line is too long; the buffer stays
refused_lines : (writing (9 ∷ 0 ∷ 16 ∷ 64 ∷ 2 ∷ 0 ∷ 0 ∷ 0 ∷ 0 ∷ 0 ∷ 0 ∷ 0 ∷ []) ≡ (2 * 4294967296, bytes "...................."))
    × (writing (1 ∷ 0 ∷ 16 ∷ 64 ∷ 258 ∷ 1 ∷ 3 ∷ 0 ∷ 0 ∷ 0 ∷ 1 ∷ 0 ∷ []) ≡ (2 * 4294967296, bytes "...................."))
    × (writing (6 ∷ 0 ∷ 1 ∷ 2 ∷ 0 ∷ 0 ∷ 0 ∷ 0 ∷ 0 ∷ 0 ∷ 0 ∷ 0 ∷ []) ≡ (13 * 4294967296, bytes "...................."))
    × (writing (1 ∷ 0 ∷ 16 ∷ 64 ∷ 2 ∷ 1 ∷ 33 ∷ 0 ∷ 0 ∷ 0 ∷ 1 ∷ 0 ∷ []) ≡ (11 * 4294967296, bytes "...................."))
unfolding packed asked_in event_in event_with part write_event write_group written stored has_spelling writes_name spell form spaced hex hex_from has_bit decimal numeral rises_above rises_strictly is_group spell_group
refused_lines = (refl, refl, refl, refl)

-- who acts is written unless it is domain 0, and a mask where it is not the maker's alone; 2 for a domain above 63 in any event, and for a mask
-- without its maker, as one of 0
written_domains : (writing (5 ∷ 8 ∷ 0 ∷ 0 ∷ 0 ∷ 0 ∷ 0 ∷ 0 ∷ 0 ∷ 63 ∷ 0 ∷ 0 ∷ []) ≡ (17, bytes "(as 63 (drop 8))\n..."))
    × (writing (6 ∷ 0 ∷ 0 ∷ 2 ∷ 0 ∷ 0 ∷ 0 ∷ 0 ∷ 0 ∷ 1 ∷ 0 ∷ 0 ∷ []) ≡ (18, bytes "(as 1 (drop 8 9))\n.."))
    × (writing (5 ∷ 8 ∷ 0 ∷ 0 ∷ 0 ∷ 0 ∷ 0 ∷ 0 ∷ 0 ∷ 64 ∷ 0 ∷ 0 ∷ []) ≡ (2 * 4294967296, bytes "...................."))
    × (writing (6 ∷ 0 ∷ 0 ∷ 2 ∷ 0 ∷ 0 ∷ 0 ∷ 0 ∷ 0 ∷ 64 ∷ 0 ∷ 0 ∷ []) ≡ (2 * 4294967296, bytes "...................."))
    × (writing (1 ∷ 0 ∷ 0 ∷ 8 ∷ 2 ∷ 0 ∷ 0 ∷ 0 ∷ 0 ∷ 0 ∷ 0 ∷ 0 ∷ []) ≡ (2 * 4294967296, bytes "...................."))
    × (writing (1 ∷ 0 ∷ 0 ∷ 8 ∷ 2 ∷ 0 ∷ 0 ∷ 0 ∷ 0 ∷ 0 ∷ 3 ∷ 0 ∷ []) ≡ (11 * 4294967296, bytes "...................."))
unfolding packed asked_in event_in event_with part write_event write_group written stored has_spelling writes_name spell form spaced hex hex_from has_bit decimal numeral rises_above rises_strictly is_group spell_group
written_domains = (refl, refl, refl, refl, refl, refl)

-- a mark and a back, in both kinds of texts, and who acts; a slot above 7 is refused, and leaves all
read_states : (reading 0 "(mark 3)\n" ≡ (0, 7 ∷ 3 ∷ 0 ∷ 0 ∷ 0 ∷ 0 ∷ 0 ∷ 0 ∷ 0 ∷ 0 ∷ 0 ∷ 0 ∷ [], replicate 4 5))
    × (reading 1 "(as 63 (back 7))\n" ≡ (0, 8 ∷ 7 ∷ 0 ∷ 0 ∷ 0 ∷ 0 ∷ 0 ∷ 0 ∷ 0 ∷ 63 ∷ 0 ∷ 0 ∷ [], replicate 4 5))
    × (reading 0 "(mark 8)\n" ≡ (2 * 4294967296, replicate 12 5, replicate 4 5))
unfolding packed words_of read_event guess through class_of number_from same has_spelling writes_name spell form spaced hex hex_from has_bit decimal numeral rises_above rises_strictly is_group spell_group names_from guess_names read_group spell_slot read_state
read_states = (refl, refl, refl)

-- they are written so, whatever stands in the words that they lack
written_states : (writing (7 ∷ 3 ∷ 9 ∷ 9 ∷ 9 ∷ 9 ∷ 9 ∷ 9 ∷ 9 ∷ 0 ∷ 9 ∷ 9 ∷ []) ≡ (9, bytes "(mark 3)\n..........."))
    × (writing (8 ∷ 0 ∷ 0 ∷ 0 ∷ 0 ∷ 0 ∷ 0 ∷ 0 ∷ 0 ∷ 1 ∷ 0 ∷ 0 ∷ []) ≡ (16, bytes "(as 1 (back 0))\n...."))
    × (writing (8 ∷ 8 ∷ 0 ∷ 0 ∷ 0 ∷ 0 ∷ 0 ∷ 0 ∷ 0 ∷ 0 ∷ 0 ∷ 0 ∷ []) ≡ (2 * 4294967296, bytes "...................."))
unfolding packed asked_in event_in event_with part write_event write_group write_slot written stored has_spelling writes_name spell form spaced hex hex_from has_bit decimal numeral rises_above rises_strictly is_group spell_group spell_slot
written_states = (refl, refl, refl)
