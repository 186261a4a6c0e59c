-- Examples of lines, of document 01 and of cards 1, 5, 6 and 9 to 11, computed by the definitions. The program `text_cases` runs these and more on the code.
-- Assumes nothing.
use Rattle.std.specs.Prelude.{None, Some}
use mathlib.Core.Path.{◌≡◌, refl}
use mathlib.Core.List.{List, [], ◌∷◌, map}
use Prim.Native.Nat.{ℕ, ◌+◌, ◌^◌}
use Prim.Native.String.{String}
use lib.ListN.{length, replicate}
use Rattle.text.specs.declared.spelling.Spelling.TheVariants.{Plain, Named}
use Rattle.model.specs.declared.Event.{Event}
use Rattle.model.specs.declared.Event.TheVariants.{Create, Borrow, Read, Write, Drop}
use Rattle.model.specs.Bits.{has_bit}
use Rattle.model.specs.declared.Asked.{Asked}
use Rattle.model.specs.declared.Asked.TheVariants as asked
use Rattle.model.specs.Requests.{Unlimited, caller, Request, Single, Group, Mark, Back, is_group, rises_above, rises_strictly}
use Rattle.text.specs.Result.{Result, value, refused}
use Rattle.text.specs.Class.{class_of}
use Rattle.text.specs.Line.{through, next_line}
use Rattle.text.specs.Decimal.{numeral, decimal, number_from}
use Rattle.text.specs.Mask.{hex, hex_from}
use Rattle.text.specs.Event.{bytes, spaced, form, spell, writes_name, has_spelling}
use Rattle.text.specs.Write.{written, stored, write_event}
use Rattle.text.specs.Read.{same, guess, read_event}
use Rattle.text.specs.Form.{form01, in_form, read_form}
use Rattle.text.specs.Group.{spell_group, names_from, guess_names, read_group, write_group}
use Rattle.text.specs.State.{spell_slot, spell_mark, spell_back, read_state, write_slot, write_mark, write_back}
use Rattle.text.specs.Request.{read_request, write_request}
use Rattle.text.proofs.Laws.Table.{values}
use Rattle.text.proofs.Laws.Rights.{name, span, held, terms, readings}

-- what a line reads as that says who acts
abbrev by : ℕ → Event → Result (ℕ × Event)
by actor e = value (actor, e)

-- a line of each kind
good : readings Plain ("(create 4294967295 1 rw)\n" ∷ "(borrow 1 16 16 ro)\n" ∷ "(read 1 0 4)\n" ∷ "(write 2 0 8)\n" ∷ "(drop 1)\n" ∷ [])
    ≡ by 0 (Create None (span 4294967295 1) (terms 2 0 0))
    ∷ by 0 (Borrow None (name 1) (span 16 16) (terms 1 0 0))
    ∷ by 0 (Read (name 1) (span 0 4))
    ∷ by 0 (Write (name 2) (span 0 8))
    ∷ by 0 (Drop (name 1))
    ∷ []
unfolding read_event guess through class_of number_from same has_spelling writes_name has_bit spell form spaced decimal numeral hex hex_from
good = refl

-- card 1: a line of each kind with names written out
named : readings Named ("(create 1 0 64 rw)\n" ∷ "(borrow 2 1 0 8 rw)\n" ∷ "(read 1 0 8)\n" ∷ "(write 2 0 8)\n" ∷ "(drop 1)\n" ∷ [])
    ≡ by 0 (Create (Some (name 1)) (span 0 64) (terms 2 0 0))
    ∷ by 0 (Borrow (Some (name 2)) (name 1) (span 0 8) (terms 2 0 0))
    ∷ by 0 (Read (name 1) (span 0 8))
    ∷ by 0 (Write (name 2) (span 0 8))
    ∷ by 0 (Drop (name 1))
    ∷ []
unfolding read_event guess through class_of number_from same has_spelling writes_name has_bit spell form spaced decimal numeral hex hex_from
named = refl

-- card 6: borrows of each kind, with names written out and without; proofs/Laws/Rights has more, and lines that are refused
kinds : (readings Plain ("(borrow 1 0 8 rw)\n" ∷ "(borrow 1 0 8 rw raw)\n" ∷ "(borrow 1 0 8 ro cell)\n" ∷ [])
    ≡ by 0 (Borrow None (name 1) (span 0 8) (terms 2 0 0))
    ∷ by 0 (Borrow None (name 1) (span 0 8) (terms 2 1 0))
    ∷ by 0 (Borrow None (name 1) (span 0 8) (terms 1 2 0))
    ∷ [])
    × (readings Named ("(borrow 2 1 0 8 ro raw)\n" ∷ "(borrow 2 1 0 8 ro cell)\n" ∷ [])
    ≡ by 0 (Borrow (Some (name 2)) (name 1) (span 0 8) (terms 1 1 0))
    ∷ by 0 (Borrow (Some (name 2)) (name 1) (span 0 8) (terms 1 2 0))
    ∷ [])
unfolding read_event guess through class_of number_from same has_spelling writes_name has_bit spell form spaced decimal numeral hex hex_from
kinds = (refl, refl)

-- card 9: creates with the word `fresh`, with names written out and without, and each spelling's line in the other
fresh : (readings Plain ("(create 0 8 rw fresh)\n" ∷ "(create 0 8 ro fresh)\n" ∷ "(create 1 0 8 rw fresh)\n" ∷ [])
    ≡ by 0 (Create None (span 0 8) (terms 2 0 1)) ∷ by 0 (Create None (span 0 8) (terms 1 0 1)) ∷ refused 2 ∷ [])
    × (readings Named ("(create 1 0 8 rw fresh)\n" ∷ "(create 1 0 8 ro fresh)\n" ∷ "(create 0 8 rw fresh)\n" ∷ [])
    ≡ by 0 (Create (Some (name 1)) (span 0 8) (terms 2 0 1)) ∷ by 0 (Create (Some (name 1)) (span 0 8) (terms 1 0 1)) ∷ refused 2 ∷ [])
unfolding read_event guess through class_of number_from same has_spelling writes_name has_bit spell form spaced decimal numeral hex hex_from
fresh = (refl, refl)

-- refusal 2: a leading zero, a number above the limit, two spaces, a tab, a missing newline, bytes after it, and an empty line
bad : readings Plain ("(read 01 0 8)\n" ∷ "(drop 4294967296)\n" ∷ "(drop  1)\n" ∷ "(drop\t1)\n" ∷ "(drop 1)" ∷ "(drop 1)\n\n" ∷ "\n" ∷ [])
    ≡ replicate 7 (refused 2)
unfolding read_event guess through class_of number_from same has_spelling writes_name has_bit spell form spaced decimal numeral hex hex_from
bad = refl

-- refusal 2: a name written where none is, none where one is, and two
bad_names : (readings Plain ("(create 1 0 64 rw)\n" ∷ "(borrow 2 1 0 8 rw)\n" ∷ []) ≡ replicate 2 (refused 2))
    × (readings Named ("(create 0 64 rw)\n" ∷ "(borrow 1 0 8 rw)\n" ∷ "(create 1 1 0 64 rw)\n" ∷ []) ≡ replicate 3 (refused 2))
unfolding read_event guess through class_of number_from same has_spelling writes_name has_bit spell form spaced decimal numeral hex hex_from
bad_names = (refl, refl)

-- refusal 11: `(drop 1)` with its newline into 8 bytes
no_room : write_event Plain 0 (Drop (name 1)) (replicate 8 0) ≡ record { answer = refused 11; buffer = replicate 8 0 }
unfolding write_event written stored has_spelling writes_name has_bit spell form spaced decimal numeral
no_room = refl

-- refusal 2: an event whose right is neither 1 nor 2
no_right : write_event Plain 0 (Create None (span 0 64) (terms 3 0 0)) (replicate 20 0) ≡ record { answer = refused 2; buffer = replicate 20 0 }
unfolding write_event written stored has_spelling writes_name has_bit spell form spaced decimal numeral
no_right = refl

-- refusal 2: a borrow of any other kind
no_kind : write_event Plain 0 (Borrow None (name 1) (span 0 8) (terms 2 3 0)) (replicate 25 0) ≡ record { answer = refused 2; buffer = replicate 25 0 }
unfolding write_event written stored has_spelling writes_name has_bit spell form spaced decimal numeral
no_kind = refl

-- refusal 2: a create of any other mark or of a kind, and a borrow with a mark
no_mark : (write_event Plain 0 (Create None (span 0 8) (terms 2 0 2)) (replicate 25 0) ≡ record { answer = refused 2; buffer = replicate 25 0 })
    × (write_event Plain 0 (Create None (span 0 8) (terms 2 1 0)) (replicate 25 0) ≡ record { answer = refused 2; buffer = replicate 25 0 })
    × (write_event Plain 0 (Borrow None (name 1) (span 0 8) (terms 2 0 1)) (replicate 25 0) ≡ record { answer = refused 2; buffer = replicate 25 0 })
unfolding write_event written stored has_spelling writes_name has_bit spell form spaced decimal numeral
no_mark = (refl, refl, refl)

-- refusal 2: an event whose name is not written as in the spelling, in no room too
no_name : write_event Named 0 (Create None (span 0 64) (terms 2 0 0)) [] ≡ record { answer = refused 2; buffer = [] }
unfolding write_event written stored has_spelling writes_name has_bit spell form spaced decimal numeral
no_name = refl

-- the bytes after the line stay
room : write_event Plain 0 (Drop (name 1)) (bytes "............") ≡ record { answer = value 9; buffer = bytes "(drop 1)\n..." }
unfolding write_event written stored has_spelling writes_name has_bit spell form spaced decimal numeral
room = refl

-- the new name after the word
name_written : write_event Named 0 (Create (Some (name 1)) (span 0 64) (terms 2 0 0)) (bytes "....................")
    ≡ record { answer = value 19; buffer = bytes "(create 1 0 64 rw)\n." }
unfolding write_event written stored has_spelling writes_name has_bit spell form spaced decimal numeral
name_written = refl

-- the kind behind the right
kind_written : write_event Plain 0 (Borrow None (name 1) (span 0 8) (terms 2 1 0)) (bytes ".........................")
    ≡ record { answer = value 22; buffer = bytes "(borrow 1 0 8 rw raw)\n..." }
unfolding write_event written stored has_spelling writes_name has_bit spell form spaced decimal numeral
kind_written = refl

-- the mark behind the right, and refusal 11 in one byte less
fresh_written : (write_event Plain 0 (Create None (span 0 8) (terms 2 0 1)) (bytes ".........................")
    ≡ record { answer = value 22; buffer = bytes "(create 0 8 rw fresh)\n..." })
    × (write_event Plain 0 (Create None (span 0 8) (terms 2 0 1)) (replicate 21 0) ≡ record { answer = refused 11; buffer = replicate 21 0 })
unfolding write_event written stored has_spelling writes_name has_bit spell form spaced decimal numeral
fresh_written = (refl, refl)

-- the next line of a trace
line : next_line (bytes "(drop 1)\n(drop 2)\n") ≡ bytes "(drop 1)\n"
unfolding through class_of
line = refl

-- card 5: names dropped together, and refusal 2 for names that do not rise strictly, for none, and for another word
abbrev groups : List String → List (Result (ℕ × List ℕ))
groups = map (λ s. read_group (bytes s))

together : groups ("(drop 2 5 9)\n" ∷ "(drop 7)\n" ∷ []) ≡ value (0, 2 ∷ 5 ∷ 9 ∷ []) ∷ value (0, 7 ∷ []) ∷ []
unfolding read_group guess_names names_from is_group rises_strictly rises_above spell_group through class_of number_from same spaced decimal numeral
together = refl

bad_groups : groups ("(drop 2 5 5)\n" ∷ "(drop 5 2)\n" ∷ "(drop)\n" ∷ "(drop )\n" ∷ "(drop 2 05)\n" ∷ "(read 2 5 9)\n" ∷ []) ≡ replicate 6 (refused 2)
unfolding read_group guess_names names_from is_group rises_strictly rises_above spell_group through class_of number_from same spaced decimal numeral
bad_groups = refl

-- refusal 13 before 11, with the buffer untouched
no_group : write_group 0 (5 ∷ 2 ∷ []) (bytes "...") ≡ record { answer = refused 13; buffer = bytes "..." }
unfolding write_group is_group rises_strictly rises_above
no_group = refl

group_written : write_group 0 (2 ∷ 5 ∷ 9 ∷ []) (bytes "...............") ≡ record { answer = value 13; buffer = bytes "(drop 2 5 9)\n.." }
unfolding write_group is_group rises_strictly rises_above written stored spell_group spaced decimal numeral
group_written = refl

-- ---- card 10

-- who acts: a line of each kind by domain 3, the last domain, and domain 0, which acts without
acting : readings Plain ("(as 3 (read 2 0 8))\n" ∷ "(as 3 (write 2 0 8))\n" ∷ "(as 3 (drop 2))\n" ∷ "(as 63 (read 2 0 8))\n" ∷ "(read 2 0 8)\n" ∷ [])
    ≡ by 3 (Read (name 2) (span 0 8)) ∷ by 3 (Write (name 2) (span 0 8)) ∷ by 3 (Drop (name 2)) ∷ by 63 (Read (name 2) (span 0 8)) ∷ by 0 (Read (name 2) (span 0 8)) ∷ []
unfolding read_event guess through class_of number_from same has_spelling writes_name has_bit spell form spaced decimal numeral hex hex_from
acting = refl

-- refusal 2: domain 0 written, a domain above 63, a leading zero, no domain, none with its space, two domains, a bracket lost, one too many, two spaces, a
-- space before the last bracket, another word, and the largest number
no_acting : readings Plain ("(as 0 (read 2 0 8))\n" ∷ "(as 64 (read 2 0 8))\n" ∷ "(as 03 (read 2 0 8))\n" ∷ "(as (read 2 0 8))\n" ∷ "(as  (read 2 0 8))\n"
    ∷ "(as 3 (as 4 (read 2 0 8)))\n" ∷ "(as 3 (read 2 0 8)\n" ∷ "(as 3 (read 2 0 8)))\n" ∷ "(as 3  (read 2 0 8))\n" ∷ "(as 3 (read 2 0 8) )\n"
    ∷ "(at 3 (read 2 0 8))\n" ∷ "(as 4294967295 (create 0 8 rw))\n" ∷ []) ≡ replicate 12 (refused 2)
unfolding read_event guess through class_of number_from same has_spelling writes_name has_bit spell form spaced decimal numeral hex hex_from
no_acting = refl

-- a mask: 9 is domains 0 and 3; where it is left out, the maker alone holds what it makes
masks : readings Plain ("(as 3 (create 0 8 rw 0000000000000009))\n" ∷ "(create 0 8 rw 8000000000000001)\n" ∷ "(as 3 (create 0 8 rw))\n"
    ∷ "(as 63 (create 0 8 ro fresh c000000000000000))\n" ∷ "(borrow 1 0 8 rw cell 000000000000000f)\n" ∷ "(as 5 (borrow 1 0 8 ro raw))\n"
    ∷ "(create 0 8 rw f00000000000000d)\n" ∷ "(borrow 1 0 8 rw cdefabcdefabcdef)\n" ∷ [])
    ≡ by 3 (Create None (span 0 8) (held 2 0 0 9))
    ∷ by 0 (Create None (span 0 8) (held 2 0 0 9223372036854775809))
    ∷ by 3 (Create None (span 0 8) (held 2 0 0 8))
    ∷ by 63 (Create None (span 0 8) (held 1 0 1 13835058055282163712))
    ∷ by 0 (Borrow None (name 1) (span 0 8) (held 2 2 0 15))
    ∷ by 5 (Borrow None (name 1) (span 0 8) (held 1 1 0 32))
    ∷ by 0 (Create None (span 0 8) (held 2 0 0 17293822569102704653))
    ∷ by 0 (Borrow None (name 1) (span 0 8) (held 2 0 0 14839268198186733039))
    ∷ []
unfolding read_event guess through class_of number_from same has_spelling writes_name has_bit spell form spaced decimal numeral hex hex_from
masks = refl

-- the same with names written out
masks_named : readings Named ("(as 3 (create 1 0 8 rw 0000000000000009))\n" ∷ "(as 3 (borrow 2 1 0 8 ro raw 000000000000000a))\n" ∷ "(as 3 (drop 1))\n" ∷ [])
    ≡ by 3 (Create (Some (name 1)) (span 0 8) (held 2 0 0 9))
    ∷ by 3 (Borrow (Some (name 2)) (name 1) (span 0 8) (held 1 1 0 10))
    ∷ by 3 (Drop (name 1))
    ∷ []
unfolding read_event guess through class_of number_from same has_spelling writes_name has_bit spell form spaced decimal numeral hex hex_from
masks_named = refl

-- refusal 2: the maker alone written out, a mask without its maker, no holder, an upper-case digit, 15 digits, 17, a letter that is no digit, two
-- spaces, two masks, a mask before the mark, and before the kind, and one behind a read
no_masks : readings Plain ("(as 3 (create 0 8 rw 0000000000000008))\n" ∷ "(as 3 (create 0 8 rw 0000000000000001))\n" ∷ "(create 0 8 rw 0000000000000000)\n"
    ∷ "(create 0 8 rw 000000000000000F)\n" ∷ "(create 0 8 rw 000000000000003)\n" ∷ "(create 0 8 rw 00000000000000003)\n" ∷ "(create 0 8 rw 000000000000g003)\n"
    ∷ "(create 0 8 rw  0000000000000003)\n" ∷ "(create 0 8 rw 0000000000000003 0000000000000003)\n" ∷ "(create 0 8 rw 0000000000000003 fresh)\n"
    ∷ "(borrow 1 0 8 rw 0000000000000003 raw)\n" ∷ "(read 1 0 8 0000000000000003)\n" ∷ []) ≡ replicate 12 (refused 2)
unfolding read_event guess through class_of number_from same has_spelling writes_name has_bit spell form spaced decimal numeral hex hex_from
no_masks = refl

-- the digits are written highest first: domain 63 is in the first of them, and domain 0 in the last
pub digits_in_order : (hex 16 (2 ^ 63) ≡ bytes "8000000000000000")
    × (hex 16 (2 ^ 0) ≡ bytes "0000000000000001")
    × (hex 16 (2 ^ 4 + 2 ^ 1) ≡ bytes "0000000000000012")
    × (hex 16 1311768467463790320 ≡ bytes "123456789abcdef0")
unfolding hex
digits_in_order = (refl, refl, refl, refl)

-- written: by a domain, with a mask, and with the maker's own left out
acting_written : (write_event Plain 3 (Read (name 2) (span 0 8)) (bytes "......................") ≡ record { answer = value 20; buffer = bytes "(as 3 (read 2 0 8))\n.." })
    × (write_event Plain 3 (Create None (span 0 8) (held 2 0 0 9)) (bytes "..........................................")
    ≡ record { answer = value 40; buffer = bytes "(as 3 (create 0 8 rw 0000000000000009))\n.." })
    × (write_event Plain 3 (Create None (span 0 8) (held 2 0 1 8)) (bytes "..............................") ≡ record { answer = value 29; buffer = bytes "(as 3 (create 0 8 rw fresh))\n." })
unfolding write_event written stored has_spelling writes_name has_bit spell form spaced decimal numeral hex
acting_written = (refl, refl, refl)

-- refusal 11 in one byte less; refusal 2 for a domain above 63, and for a mask without its maker, in no room too
no_acting_written : (write_event Plain 3 (Read (name 2) (span 0 8)) (replicate 19 0) ≡ record { answer = refused 11; buffer = replicate 19 0 })
    × (write_event Plain 64 (Drop (name 1)) [] ≡ record { answer = refused 2; buffer = [] })
    × (write_event Plain 3 (Create None (span 0 8) (held 2 0 0 1)) [] ≡ record { answer = refused 2; buffer = [] })
unfolding write_event written stored has_spelling writes_name has_bit spell form spaced decimal numeral hex
no_acting_written = (refl, refl, refl)

-- names dropped together by a domain, lines that are refused, and the writer's refusals in their order: 13, 2, 11
acting_together : groups ("(as 3 (drop 2 5 9))\n" ∷ "(as 63 (drop 7))\n" ∷ []) ≡ value (3, 2 ∷ 5 ∷ 9 ∷ []) ∷ value (63, 7 ∷ []) ∷ []
unfolding read_group guess_names names_from is_group rises_strictly rises_above spell_group through class_of number_from same spaced decimal numeral
acting_together = refl

no_acting_together : groups ("(as 0 (drop 2 5 9))\n" ∷ "(as 64 (drop 2 5 9))\n" ∷ "(as 03 (drop 2 5 9))\n" ∷ "(as 3 (drop 2 5 9)\n" ∷ "(as 3 (drop 5 2))\n" ∷ []) ≡ replicate 5 (refused 2)
unfolding read_group guess_names names_from is_group rises_strictly rises_above spell_group through class_of number_from same spaced decimal numeral
no_acting_together = refl

together_written : (write_group 3 (2 ∷ 5 ∷ 9 ∷ []) (bytes "......................") ≡ record { answer = value 20; buffer = bytes "(as 3 (drop 2 5 9))\n.." })
    × (write_group 64 (5 ∷ 2 ∷ []) [] ≡ record { answer = refused 13; buffer = [] })
    × (write_group 64 (2 ∷ 5 ∷ []) [] ≡ record { answer = refused 2; buffer = [] })
    × (write_group 63 (2 ∷ 5 ∷ []) [] ≡ record { answer = refused 11; buffer = [] })
unfolding write_group is_group rises_strictly rises_above written stored spell_group spaced decimal numeral
together_written = (refl, refl, refl, refl)

-- ---- card 11

-- marks and backs, of the first slot and the last, by domain 0, by domain 2 and by the last domain
abbrev states : List String → List (Result Asked)
states = map (λ s. read_state (bytes s))

mark_lines : states ("(mark 3)\n" ∷ "(mark 0)\n" ∷ "(mark 7)\n" ∷ "(as 2 (mark 3))\n" ∷ "(as 63 (mark 7))\n" ∷ [])
    ≡ value (asked.Mark 0 3) ∷ value (asked.Mark 0 0) ∷ value (asked.Mark 0 7) ∷ value (asked.Mark 2 3) ∷ value (asked.Mark 63 7) ∷ []
unfolding read_state spell_slot through class_of number_from same spaced decimal numeral
mark_lines = refl

back_lines : states ("(back 3)\n" ∷ "(back 0)\n" ∷ "(back 7)\n" ∷ "(as 2 (back 3))\n" ∷ "(as 63 (back 7))\n" ∷ [])
    ≡ value (asked.Back 0 3) ∷ value (asked.Back 0 0) ∷ value (asked.Back 0 7) ∷ value (asked.Back 2 3) ∷ value (asked.Back 63 7) ∷ []
unfolding read_state spell_slot through class_of number_from same spaced decimal numeral
back_lines = refl

-- refusal 2: a slot above 7, one above the limit, a leading zero, no slot, none with its space, two slots, domain 0 written, a domain above 63, a missing
-- newline, bytes after it, two spaces, a bracket lost, upper case, a word cut short, and other words
no_mark_lines : states ("(mark 8)\n" ∷ "(mark 10)\n" ∷ "(mark 4294967299)\n" ∷ "(mark 03)\n" ∷ "(mark)\n" ∷ "(mark )\n" ∷ "(mark 1 2)\n" ∷ "(as 0 (mark 1))\n"
    ∷ "(as 64 (mark 1))\n" ∷ "(mark 1)" ∷ "(mark 1)\n\n" ∷ "(mark  1)\n" ∷ "(as 2 (mark 1)\n" ∷ "(Mark 1)\n" ∷ "(mar 1)\n" ∷ "(make 1)\n" ∷ "(drop 1)\n" ∷ [])
    ≡ replicate 17 (refused 2)
unfolding read_state spell_slot through class_of number_from same spaced decimal numeral
no_mark_lines = refl

no_back_lines : states ("(back 8)\n" ∷ "(back 4294967295)\n" ∷ "(back 03)\n" ∷ "(back)\n" ∷ "(back )\n" ∷ "(back 1 2)\n" ∷ "(as 0 (back 1))\n" ∷ "(as 64 (back 1))\n" ∷ "(back 7)"
    ∷ "(as 2 (back 7)\n" ∷ "(bac 7)\n" ∷ "(borrow 7)\n" ∷ []) ≡ replicate 12 (refused 2)
unfolding read_state spell_slot through class_of number_from same spaced decimal numeral
no_back_lines = refl

-- in both kinds of traces alike
abbrev in_both : String → List (Result Request)
in_both s = read_request Unlimited Plain (bytes s) ∷ read_request Unlimited Named (bytes s) ∷ []

mark_in_both : (in_both "(as 2 (mark 3))\n" ≡ replicate 2 (value (Mark (caller 2 Unlimited) 3)))
    × (in_both "(back 7)\n" ≡ replicate 2 (value (Back (caller 0 Unlimited) 7)))
    × (in_both "(drop 7)\n" ≡ replicate 2 (value (Single (caller 0 Unlimited) (Drop (name 7)))))
    × (in_both "(drop 3 7)\n" ≡ replicate 2 (value (Group (caller 0 Unlimited) (3 ∷ 7 ∷ []))))
    × (in_both "(mark 8)\n" ≡ replicate 2 (refused 2))
unfolding read_event guess has_spelling writes_name has_bit spell form read_group guess_names names_from is_group rises_strictly rises_above spell_group read_state spell_slot through class_of number_from same spaced decimal numeral
mark_in_both = (refl, refl, refl, refl, refl)

-- written, and the writers' refusals in their order: 2, 11
states_written : (write_mark 0 3 (bytes "...........") ≡ record { answer = value 9; buffer = bytes "(mark 3)\n.." })
    × (write_back 2 3 (bytes "................") ≡ record { answer = value 16; buffer = bytes "(as 2 (back 3))\n" })
    × (write_mark 0 8 [] ≡ record { answer = refused 2; buffer = [] })
    × (write_back 64 7 [] ≡ record { answer = refused 2; buffer = [] })
    × (write_mark 0 7 (bytes "........") ≡ record { answer = refused 11; buffer = bytes "........" })
    × (write_back 63 7 [] ≡ record { answer = refused 11; buffer = [] })
unfolding write_slot written stored spell_slot spaced decimal numeral
states_written = (refl, refl, refl, refl, refl, refl)

-- the line of a request is that of what it asks for
requests_written : (write_request (Mark (caller 2 Unlimited) 3) (bytes "..................") ≡ record { answer = value 16; buffer = bytes "(as 2 (mark 3))\n.." })
    × (write_request (Back (caller 0 Unlimited) 3) (bytes "...........") ≡ record { answer = value 9; buffer = bytes "(back 3)\n.." })
    × (write_request (Back (caller 0 Unlimited) 8) (bytes "...........") ≡ record { answer = refused 2; buffer = bytes "..........." })
unfolding write_slot written stored spell_slot spaced decimal numeral
requests_written = (refl, refl, refl)

-- ---- document 01's form, without the words that cards have added

abbrev forms : List String → List (Result Event)
forms = map (λ s. read_form (bytes s))

-- the five forms
five_forms : forms ("(create 0 64 rw)\n" ∷ "(borrow 1 16 16 ro)\n" ∷ "(read 1 0 4)\n" ∷ "(write 2 0 8)\n" ∷ "(drop 7)\n" ∷ [])
    ≡ value (Create None (span 0 64) (terms 2 0 0))
    ∷ value (Borrow None (name 1) (span 16 16) (terms 1 0 0))
    ∷ value (Read (name 1) (span 0 4))
    ∷ value (Write (name 2) (span 0 8))
    ∷ value (Drop (name 7))
    ∷ []
unfolding read_event guess through class_of number_from same has_spelling writes_name has_bit spell form form01 in_form spaced decimal numeral hex hex_from
five_forms = refl

-- refusal 2: a mark, a kind, another domain, a mask, names dropped together, a mark of a state, the line before names, a name written out, and an empty line
no_forms : forms ("(create 0 8 rw fresh)\n" ∷ "(borrow 1 0 8 rw raw)\n" ∷ "(as 3 (read 1 0 8))\n" ∷ "(create 0 8 rw 0000000000000003)\n" ∷ "(drop 1 2)\n"
    ∷ "(mark 1)\n" ∷ "(trace 2)\n" ∷ "(create 1 0 8 rw)\n" ∷ "\n" ∷ "" ∷ []) ≡ replicate 10 (refused 2)
unfolding read_event guess through class_of number_from same has_spelling writes_name has_bit spell form form01 in_form spaced decimal numeral hex hex_from
no_forms = refl

-- ---- the longest lines

-- the bounds of proofs/Laws/Range, proofs/Laws/Group and proofs/Laws/State are reached: without and with a written name, of a create, of 64 names, and of
-- a mark and a back
every : ℕ
every = 18446744073709551615

longest : (length (spell 63 (Borrow None (name 4294967295) (span 4294967295 4294967295) (held 1 2 0 every))) ≡ 75)
    × (length (spell 63 (Borrow (Some (name 4294967295)) (name 4294967295) (span 4294967295 4294967295) (held 1 2 0 every))) ≡ 86)
    × (length (spell 63 (Create None (span 4294967295 4294967295) (held 2 0 1 every))) ≡ 65)
    × (length (spell 63 (Create (Some (name 4294967295)) (span 4294967295 4294967295) (held 2 0 1 every))) ≡ 76)
    × (length (spell_group 63 (values (λ n. n) 4294967232 64)) ≡ 719)
    × (length (spell_mark 63 7) ≡ 17)
    × (length (spell_back 63 7) ≡ 17)
unfolding spell form spell_group spell_slot spaced decimal numeral hex every
longest = (refl, refl, refl, refl, refl, refl, refl)
