-- Reports on some clients' texts, and the order of some clients' lines, computed by the definitions.
-- Assumes nothing.
use mathlib.Core.Path.{◌≡◌, refl}
use mathlib.Core.Bool.{Bool, true, false, ◌&&◌}
use mathlib.Core.List.{List, [], ◌∷◌, map}
use Prim.Native.Nat.{ℕ}
use Prim.Native.String.{String}
use lib.Dec.{eqb}
use Rattle.model.specs.Lists.{all}
use Rattle.model.specs.Derivation.{ancestry, on_ancestry}
use Rattle.model.specs.Strike.{origin, strike, reached, struck}
use Rattle.model.specs.Table.{terms_in_order, live_rows, lent_table, lookup, is_empty_row, live_rows_first, row_fits_parent, parent_in_order, row_in_order, rows_in_order, in_order}
use Rattle.model.specs.Limits.{exceeds, refused_sheet, no_row, limit_reached}
use Rattle.model.specs.Refusals.{not_written, unfit_slot, refusals, judge}
use Rattle.model.specs.Effects.{revoke, after_access, rows_without, rows_after}
use Rattle.model.specs.Bits.{has_bit, with_bit, bit_at, put_at, put_from, bits_after, all_written}
use Rattle.model.specs.Step.{answer, after}
use Rattle.text.specs.Class.{class_of}
use Rattle.text.specs.Line.{through, push, parts_of}
use Rattle.text.specs.Decimal.{numeral, decimal, number_from}
use Rattle.text.specs.Event.{bytes, spaced, form, spell, has_spelling, writes_name}
use Rattle.text.specs.Mask.{hex, hex_from}
use Rattle.text.specs.Read.{same, guess, read_event}
use Rattle.text.specs.Form.{form01, in_form}
use Rattle.sizes.specs.Turns.{Turn, texts, one_round, rounds, longest, turns}
use Rattle.sizes.specs.Clients.{stop, translated, refusal, outcome}
use Rattle.sizes.specs.Clients
use Rattle.kelzoud_events.specs.Interface.{packed}
use Rattle.sizes.specs.Report.{Report, rows, refused, fits, first_from, sizing, report_words, packed_report, report_line}

-- the texts, end to end; their lengths; and the report
record Example : Type 0 where
  text : String
  lengths : List ℕ
  report : Report

abbrev for : String → List ℕ → Report → Example
for text lengths report = record { text = text; lengths = lengths; report = report }

-- no client; one without a line; what is dropped makes room, and what is borrowed takes it; two clients, whose live rows add up as their
-- lines are taken in turn; one that goes on alone; a read and a write need no row
allowed_ones : List Example
allowed_ones =
    for "" [] (rows 0)
    ∷ for "" (0 ∷ 0 ∷ []) (rows 0)
    ∷ for "(create 0 8 rw)\n(drop 1)\n(create 0 8 rw)\n" (41 ∷ []) (rows 1)
    ∷ for "(create 0 8 rw)\n(borrow 1 0 8 rw)\n(write 1 0 8)\n(create 8 8 rw)\n" (64 ∷ []) (rows 2)
    ∷ for "(create 0 8 rw)\n(drop 1)\n(create 64 8 rw)\n(drop 1)\n" (25 ∷ 26 ∷ []) (rows 2)
    ∷ for "(create 0 8 rw)\n(create 64 8 rw)\n(create 96 8 rw)\n(drop 1)\n(create 96 8 rw)\n" (16 ∷ 17 ∷ 43 ∷ []) (rows 3)
    ∷ for "(create 0 8 rw)\n(read 1 0 8)\n(create 8 8 rw)\n(write 1 8 8)\n" (29 ∷ 30 ∷ []) (rows 2)
    ∷ []

-- a create that ends another client's capability; a name of another client's, with and without a legal span; a name that has ended; a name
-- that is 0, and one that comes too early; a last line without byte 10; the first of two faults in turn, though the other stands first in the
-- texts; a written name, a kind, a mark and a domain; the header of card 1; a line of card 5 and one of card 11
refused_ones : List Example
refused_ones =
    for "(create 0 8 rw)\n(drop 1)\n(create 0 8 rw)\n(drop 1)\n" (25 ∷ 25 ∷ []) (refused (stop 5 1 2))
    ∷ for "(create 0 8 rw)\n(read 1 0 8)\n" (16 ∷ 13 ∷ []) (refused (stop 4 2 1))
    ∷ for "(create 0 8 rw)\n(read 1 4294967295 2)\n" (16 ∷ 22 ∷ []) (refused (stop 3 2 1))
    ∷ for "(create 0 8 rw)\n(drop 1)\n(read 1 0 8)\n" (38 ∷ []) (refused (stop 5 1 3))
    ∷ for "(drop 0)\n" (9 ∷ []) (refused (stop 4 1 1))
    ∷ for "(create 0 8 rw)\n(drop 0)\n" (25 ∷ []) (refused (stop 4 1 2))
    ∷ for "(create 0 8 rw)\n(create 64 8 rw)\n(read 2 64 8)\n" (16 ∷ 31 ∷ []) (refused (stop 4 2 2))
    ∷ for "(create 0 8 rw)\n(create 64 8 rw)" (16 ∷ 16 ∷ []) (refused (stop 2 2 1))
    ∷ for "(create 0 8 rw)\n(drop 2)\n(drop 1)\n" (25 ∷ 9 ∷ []) (refused (stop 4 2 1))
    ∷ for "(create 1 0 8 rw)\n" (18 ∷ []) (refused (stop 2 1 1))
    ∷ for "(create 0 8 rw)\n(borrow 1 0 8 rw raw)\n" (38 ∷ []) (refused (stop 2 1 2))
    ∷ for "(create 0 8 rw fresh)\n" (22 ∷ []) (refused (stop 2 1 1))
    ∷ for "(as 1 (create 0 8 rw))\n" (23 ∷ []) (refused (stop 2 1 1))
    ∷ for "(trace 2)\n" (10 ∷ []) (refused (stop 2 1 1))
    ∷ for "(drop 1 2)\n" (11 ∷ []) (refused (stop 2 1 1))
    ∷ for "(mark 0)\n" (9 ∷ []) (refused (stop 2 1 1))
    ∷ []

-- sums that are not the text's, and nine lengths
unfit_ones : List Example
unfit_ones =
    for "(drop 1)\n" (8 ∷ []) (refused (stop 2 0 0))
    ∷ for "(drop 1)\n" (10 ∷ []) (refused (stop 2 0 0))
    ∷ for "(drop 1)\n" [] (refused (stop 2 0 0))
    ∷ for "" (0 ∷ 0 ∷ 0 ∷ 0 ∷ 0 ∷ 0 ∷ 0 ∷ 0 ∷ 0 ∷ []) (refused (stop 2 0 0))
    ∷ for "" (0 ∷ 0 ∷ 0 ∷ 0 ∷ 0 ∷ 0 ∷ 0 ∷ 0 ∷ []) (rows 0)
    ∷ []

same_report : Report → Report → Bool
same_report (rows m) (rows n) = eqb m n
same_report (rows m) (refused s) = false
same_report (refused r) (rows n) = false
same_report (refused r) (refused s) = eqb r.refusal s.refusal && eqb r.client s.client && eqb r.line s.line

is_reported : Example → Bool
is_reported e = same_report (sizing (bytes e.text) e.lengths) e.report

reported : (all is_reported allowed_ones && (all is_reported refused_ones && all is_reported unfit_ones)) ≡ true
unfolding allowed_ones refused_ones unfit_ones same_report is_reported ancestry on_ancestry origin strike reached struck terms_in_order live_rows lent_table lookup is_empty_row live_rows_first row_fits_parent parent_in_order row_in_order rows_in_order in_order exceeds refused_sheet no_row limit_reached not_written unfit_slot refusals judge revoke after_access rows_without rows_after has_bit with_bit bit_at put_at put_from bits_after all_written answer after class_of through push parts_of numeral decimal number_from spaced form spell has_spelling writes_name hex hex_from same guess read_event form01 in_form texts one_round rounds longest translated refusal outcome Clients.after fits first_from sizing
reported = refl

-- three clients, of two lines, none and three: client and number of each line as it is taken
in_turn : map {B = ℕ × ℕ} (λ (t : Turn). (t.client, t.number)) (turns (bytes "a\nb\nc\nd\ne\n") (4 ∷ 0 ∷ 6 ∷ []))
    ≡ (1, 1) ∷ (3, 1) ∷ (1, 2) ∷ (3, 2) ∷ (3, 3) ∷ []
unfolding class_of push parts_of texts one_round rounds longest
in_turn = refl

-- a report in words, as one number and as the line that `capsize` prints: rows, at most 1,024, and a refusal, with its line's number up to what 32
-- bits hold
in_words : (report_words (rows 0) ≡ 0 ∷ 0 ∷ 0 ∷ 0 ∷ [])
    × (report_words (rows 1024) ≡ 0 ∷ 1024 ∷ 0 ∷ 0 ∷ [])
    × (report_words (refused (stop 10 8 4294967295)) ≡ 10 ∷ 0 ∷ 8 ∷ 4294967295 ∷ [])
    × (report_words (refused (stop 2 0 0)) ≡ 2 ∷ 0 ∷ 0 ∷ 0 ∷ [])
in_words = (refl, refl, refl, refl)

in_one_number : (packed_report (rows 1024) ≡ 1024) × (packed_report (refused (stop 10 8 3)) ≡ 42949672960)
unfolding packed
in_one_number = (refl, refl)

in_text : (report_line (rows 3) ≡ bytes "(rows 3)\n") × (report_line (refused (stop 5 2 4294967295)) ≡ bytes "(refused 5 2 4294967295)\n")
unfolding report_line spaced decimal numeral
in_text = (refl, refl)
