-- Document 01's example of `capcheck`, and others of its text, computed by the definitions.
-- Assumes nothing.
use mathlib.Core.Path.{◌≡◌, refl}
use mathlib.Core.Bool.{true}
use mathlib.Core.List.{List, [], ◌∷◌, ◌++◌}
use Prim.Native.String.{String}
use lib.ListN.{replicate}
use Rattle.model.specs.declared.Cap.{Cap}
use Rattle.model.specs.Lists.{all}
use Rattle.model.specs.Derivation.{ancestry, on_ancestry}
use Rattle.model.specs.Strike.{origin, strike, reached, struck}
use Rattle.model.specs.Slots.{Memory, Slot, Nothing, Stored}
use Rattle.model.specs.Table.{row, empty_row, terms_in_order, live_rows, lent_table, lookup, is_empty_row, live_rows_first, row_fits_parent, parent_in_order, row_in_order, rows_in_order, in_order}
use Rattle.model.specs.Requests.{rises_above, rises_strictly, is_group}
use Rattle.model.specs.Limits.{exceeds, refused_sheet, no_row, limit_reached}
use Rattle.model.specs.Refusals.{not_written, standings, unfit_slot, refusals, judge}
use Rattle.model.specs.Effects.{revoke, after_access, rows_without, rows_after}
use Rattle.model.specs.Bits.{has_bit, with_bit, bit_at, put_at, put_from, bits_after, all_written}
use Rattle.model.specs.Step.{answer, after}
use Rattle.text.specs.Group.{spell_group, names_from, guess_names, read_group}
use Rattle.text.specs.State.{spell_slot, read_state}
use Rattle.text.specs.Class.{class_of}
use Rattle.text.specs.Line.{through, push, parts_of}
use Rattle.text.specs.Decimal.{numeral, decimal, number_from}
use Rattle.text.specs.Event.{bytes, spaced, form as line_form, spell, has_spelling, writes_name}
use Rattle.text.specs.Mask.{hex, hex_from}
use Rattle.text.specs.Read.{same, guess, read_event}
use Rattle.listing.specs.Listing.{pieces, form, children, roots, listed}
use Rattle.trace.specs.Run.{run_lines, run_trace, run_from}
use Rattle.trace.specs.Check.{answer_line, check_with, check_text}

-- an input, and what is printed of it: the example; a trace of no lines; a leading zero, an empty line and a last line without
-- byte 10, each refusal 2; and trace 10
examples : List (String × String)
examples =
    ("(create 0 64 rw)\n(borrow 1 0 16 rw)\n(borrow 1 16 16 rw)\n(write 2 0 8)\n(read 1 0 4)\n(write 2 0 8)\n", "(refused 7 6)\n(issued 3)\n(1 0 64 rw 0 0000000000000001 (2 0 16 ro 0 0000000000000001) (3 16 16 rw 0 0000000000000001))\n")
    ∷ ("", "(allowed 0)\n(issued 0)\n")
    ∷ ("(create 0 64 rw)\n(read 01 0 8)\n", "(refused 2 2)\n(issued 1)\n(1 0 64 rw 0 0000000000000001)\n")
    ∷ ("(create 0 64 rw)\n\n", "(refused 2 2)\n(issued 1)\n(1 0 64 rw 0 0000000000000001)\n")
    ∷ ("(create 0 64 rw)\n(drop 1)", "(refused 2 2)\n(issued 1)\n(1 0 64 rw 0 0000000000000001)\n")
    ∷ ("(create 4096 8 rw)\n(borrow 1 4096 8 rw)\n(borrow 2 4096 8 rw)\n(write 2 4096 8)\n(write 3 4096 8)\n", "(refused 5 5)\n(issued 3)\n(1 4096 8 rw 0 0000000000000001 (2 4096 8 rw 0 0000000000000001))\n")
    ∷ []

-- card 6: the traces of docs/EMBEDDING, "Raw pointers and cells", in their order there
kinds : List (String × String)
kinds =
    ("(create 4096 8 rw)\n(borrow 1 4096 8 rw raw)\n(borrow 2 4096 8 rw)\n(write 2 4096 8)\n(write 3 4096 8)\n", "(refused 5 5)\n(issued 3)\n(1 4096 8 rw 0 0000000000000001 (2 4096 8 rw raw 0 0000000000000001))\n")
    ∷ ("(create 0 64 rw)\n(borrow 1 0 8 rw)\n(borrow 2 0 8 rw raw)\n(borrow 2 0 8 rw raw)\n(write 3 0 8)\n(write 4 0 8)\n(write 2 0 8)\n(read 3 0 8)\n(write 4 0 8)\n", "(allowed 9)\n(issued 4)\n(1 0 64 rw 0 0000000000000001 (2 0 8 rw 0 0000000000000001 (3 0 8 rw raw 0 0000000000000001) (4 0 8 rw raw 0 0000000000000001)))\n")
    ∷ ("(create 0 64 rw)\n(borrow 1 0 8 rw)\n(borrow 2 0 8 rw raw)\n(borrow 1 4 8 rw)\n(write 4 4 4)\n(write 3 0 8)\n", "(refused 5 6)\n(issued 4)\n(1 0 64 rw 0 0000000000000001 (4 4 8 rw 0 0000000000000001))\n")
    ∷ ("(create 0 64 rw)\n(borrow 1 0 8 rw raw)\n(borrow 2 0 8 rw raw)\n(write 1 0 8)\n(write 2 0 8)\n(read 3 0 8)\n", "(refused 5 6)\n(issued 3)\n(1 0 64 rw 0 0000000000000001 (2 0 8 rw raw 0 0000000000000001))\n")
    ∷ ("(create 0 8 rw)\n(borrow 1 0 8 rw cell)\n(borrow 1 0 8 rw cell)\n(write 2 0 8)\n(write 3 0 8)\n(write 2 0 8)\n", "(allowed 6)\n(issued 3)\n(1 0 8 rw 0 0000000000000001 (2 0 8 rw cell 0 0000000000000001) (3 0 8 rw cell 0 0000000000000001))\n")
    ∷ ("(create 0 8 rw)\n(borrow 1 0 8 rw cell)\n(borrow 1 0 8 rw cell)\n(write 2 0 8)\n(read 3 0 8)\n(write 2 0 8)\n", "(refused 7 6)\n(issued 3)\n(1 0 8 rw 0 0000000000000001 (2 0 8 ro cell 0 0000000000000001) (3 0 8 rw cell 0 0000000000000001))\n")
    ∷ ("(create 0 8 rw)\n(borrow 1 0 8 rw cell)\n(borrow 2 0 8 rw raw)\n(borrow 2 0 8 rw raw)\n(write 3 0 8)\n(read 4 0 8)\n(write 2 0 8)\n(write 3 0 8)\n", "(allowed 8)\n(issued 4)\n(1 0 8 rw 0 0000000000000001 (2 0 8 rw cell 0 0000000000000001 (3 0 8 rw raw 0 0000000000000001) (4 0 8 rw raw 0 0000000000000001)))\n")
    ∷ ("(create 0 16 rw)\n(borrow 1 0 16 ro)\n(borrow 1 0 8 rw cell)\n(write 3 0 8)\n(read 2 8 8)\n(read 3 0 8)\n(write 3 0 8)\n", "(allowed 7)\n(issued 3)\n(1 0 16 rw 0 0000000000000001 (2 0 16 ro 0 0000000000000001) (3 0 8 rw cell 0 0000000000000001))\n")
    ∷ ("(create 0 8 rw)\n(borrow 1 0 8 rw cell)\n(borrow 2 0 8 rw)\n(borrow 2 0 8 rw)\n(write 4 0 8)\n(write 3 0 8)\n", "(refused 5 6)\n(issued 4)\n(1 0 8 rw 0 0000000000000001 (2 0 8 rw cell 0 0000000000000001 (4 0 8 rw 0 0000000000000001)))\n")
    ∷ ("(create 0 8 rw)\n(borrow 1 0 8 rw)\n(borrow 1 0 8 rw cell)\n(write 3 0 8)\n(write 2 0 8)\n", "(allowed 5)\n(issued 3)\n(1 0 8 rw 0 0000000000000001 (2 0 8 rw 0 0000000000000001))\n")
    ∷ []

-- card 8: those of 'Thinning a log' there, two with a read and then without it
thinned : List (String × String)
thinned =
    ("(create 0 16 rw)\n(borrow 1 0 8 rw)\n(borrow 2 4 4 rw)\n(borrow 1 8 8 rw)\n(read 1 0 4)\n(borrow 4 8 4 rw)\n(write 5 8 4)\n", "(allowed 7)\n(issued 5)\n(1 0 16 rw 0 0000000000000001 (2 0 8 ro 0 0000000000000001 (3 4 4 ro 0 0000000000000001)) (4 8 8 rw 0 0000000000000001 (5 8 4 rw 0 0000000000000001)))\n")
    ∷ ("(create 0 16 rw)\n(borrow 1 0 8 rw)\n(borrow 2 4 4 rw)\n(borrow 1 8 8 rw)\n(borrow 4 8 4 rw)\n(write 5 8 4)\n", "(allowed 6)\n(issued 5)\n(1 0 16 rw 0 0000000000000001 (2 0 8 rw 0 0000000000000001 (3 4 4 rw 0 0000000000000001)) (4 8 8 rw 0 0000000000000001 (5 8 4 rw 0 0000000000000001)))\n")
    ∷ ("(create 0 8 rw)\n(borrow 1 0 8 rw)\n(borrow 1 0 8 rw)\n(read 1 0 8)\n(write 2 0 8)\n", "(refused 7 5)\n(issued 3)\n(1 0 8 rw 0 0000000000000001 (2 0 8 ro 0 0000000000000001) (3 0 8 ro 0 0000000000000001))\n")
    ∷ ("(create 0 8 rw)\n(borrow 1 0 8 rw)\n(borrow 1 0 8 rw)\n(write 2 0 8)\n", "(allowed 4)\n(issued 3)\n(1 0 8 rw 0 0000000000000001 (2 0 8 rw 0 0000000000000001))\n")
    ∷ []

-- card 9: memory that is used again after all of it was written, and is read where it is not yet written
written_first : List (String × String)
written_first =
    ("(create 0 8 rw)\n(write 1 0 8)\n(create 0 8 rw fresh)\n(write 2 0 4)\n(borrow 2 0 8 ro)\n(read 3 0 4)\n(read 3 0 8)\n", "(refused 16 7)\n(issued 3)\n(2 0 8 rw fresh 0 0000000000000001 (3 0 8 ro fresh 0 0000000000000001))\n")
    ∷ []

-- card 10: a domain that does not hold what it reads; one that borrows from what it holds, and that writes through what it holds alone; a
-- mask that is the maker's alone is not written; and domain 0 acts without `(as ..)`
domains : List (String × String)
domains =
    ("(as 1 (create 0 8 rw))\n(read 1 0 8)\n", "(refused 17 2)\n(issued 1)\n(1 0 8 rw 1 0000000000000002)\n")
    ∷ ("(create 0 8 rw 0000000000000003)\n(as 1 (borrow 1 0 8 rw))\n(as 1 (write 2 0 4))\n(write 2 0 4)\n", "(refused 17 4)\n(issued 2)\n(1 0 8 rw 0 0000000000000003 (2 0 8 rw 1 0000000000000002))\n")
    ∷ ("(create 0 8 rw 8000000000000001)\n(as 63 (drop 1))\n", "(allowed 2)\n(issued 1)\n")
    ∷ ("(create 0 8 rw 0000000000000001)\n", "(refused 2 1)\n(issued 0)\n")
    ∷ ("(as 0 (create 0 8 rw))\n", "(refused 2 1)\n(issued 0)\n")
    ∷ ("(as 64 (create 0 8 rw))\n", "(refused 2 1)\n(issued 0)\n")
    ∷ []

-- card 11: a name that was dropped comes back, and so does a right that was lost; the written bits come back with the table; the issued number does
-- not, so names go on from it, and those given since the mark are ended; a back without a mark; a slot above 7, a leading zero, and domain 0 acts
-- without `(as ..)`; and a mark that another domain goes back to
states : List (String × String)
states =
    ("(create 0 8 rw)\n(mark 3)\n(drop 1)\n(back 3)\n(read 1 0 8)\n", "(allowed 5)\n(issued 1)\n(1 0 8 rw 0 0000000000000001)\n")
    ∷ ("(create 0 8 rw)\n(borrow 1 0 8 rw)\n(mark 0)\n(read 1 0 8)\n(back 0)\n(write 2 0 8)\n", "(allowed 6)\n(issued 2)\n(1 0 8 rw 0 0000000000000001 (2 0 8 rw 0 0000000000000001))\n")
    ∷ ("(create 0 8 rw fresh)\n(mark 1)\n(write 1 0 8)\n(back 1)\n(read 1 0 8)\n", "(refused 16 5)\n(issued 1)\n(1 0 8 rw fresh 0 0000000000000001)\n")
    ∷ ("(trace 2)\n(create 1 0 8 rw)\n(mark 7)\n(borrow 2 1 0 8 ro)\n(back 7)\n(borrow 3 1 0 4 ro)\n(read 2 0 8)\n", "(refused 5 7)\n(issued 3)\n(1 0 8 rw 0 0000000000000001 (3 0 4 ro 0 0000000000000001))\n")
    ∷ ("(create 0 8 rw)\n(mark 4)\n(back 5)\n", "(refused 19 3)\n(issued 1)\n(1 0 8 rw 0 0000000000000001)\n")
    ∷ ("(mark 8)\n", "(refused 2 1)\n(issued 0)\n")
    ∷ ("(mark 03)\n", "(refused 2 1)\n(issued 0)\n")
    ∷ ("(as 0 (mark 1))\n", "(refused 2 1)\n(issued 0)\n")
    ∷ ("(as 2 (create 0 8 rw))\n(as 2 (mark 6))\n(as 2 (drop 1))\n(as 63 (back 6))\n", "(allowed 4)\n(issued 1)\n(1 0 8 rw 2 0000000000000004)\n")
    ∷ []

-- card 11: a stored table of another number of rows, and one that is out of order with the issued number, are "1 on going back"; this "carries
-- its own line number, and the lines before it stand"
abbrev stored_there : List Cap → List (Slot Memory)
stored_there table = Stored (record { table = table; bits = replicate 8192 0 }) ∷ replicate 7 Nothing

abbrev sixth : Cap
sixth = row (record { name = 6; parent = 0; span = record { start = record { 0 = 0 }; length = 8 }; kind = 0; fresh = 0; maker = 0; holders = 1 }) 2 0

unfit_tables : List (List Cap)
unfit_tables = replicate 1023 empty_row ∷ (sixth ∷ replicate 1023 empty_row) ∷ []

printed : (all (λ e. same (check_text (bytes e.0)) (bytes e.1)) (examples ++ (kinds ++ (thinned ++ (written_first ++ (domains ++ states))))) ≡ true)
    × (all (λ table. same (check_with (stored_there table) (bytes "(create 0 8 rw)\n(back 0)\n(drop 1)\n")) (bytes "(refused 1 2)\n(issued 1)\n(1 0 8 rw 0 0000000000000001)\n")) unfit_tables ≡ true)
unfolding examples kinds thinned written_first domains states unfit_tables ancestry on_ancestry origin strike reached struck live_rows lent_table lookup is_empty_row live_rows_first row_fits_parent parent_in_order row_in_order rows_in_order in_order unfit_slot refusals judge revoke after_access rows_after answer after rises_above rises_strictly is_group standings rows_without spell_group names_from guess_names read_group spell_slot read_state class_of through push parts_of numeral decimal number_from spaced line_form spell has_spelling writes_name same guess read_event pieces form children roots listed run_lines run_trace run_from answer_line check_with terms_in_order exceeds refused_sheet no_row limit_reached hex hex_from not_written has_bit with_bit bit_at put_at put_from bits_after all_written
printed = (refl, refl)
