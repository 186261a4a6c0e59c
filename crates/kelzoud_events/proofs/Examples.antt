-- Examples of events as words, and of a batch, computed by the definitions.
-- Assumes nothing.
use Rattle.std.specs.Prelude.{None, Some}
use mathlib.Core.Path.{◌≡◌, refl}
use mathlib.Core.List.{List, [], ◌∷◌, map}
use Prim.Native.Nat.{ℕ}
use lib.ListN.{length, set, drop, replicate}
use Rattle.model.specs.declared.Terms.{Terms}
use Rattle.model.specs.declared.Event.TheVariants.{Create, Borrow, Read, Write, Drop}
use Rattle.model.specs.Requests.{Unlimited, Limited, Caller, Request, Single, Group, Mark, Back, caller}
use Rattle.model.specs.Slots.{Memory, Stored, unstored}
use Rattle.model.specs.Charge.{bits_below, charge}
use Rattle.model.specs.Counts.{tally}
use Rattle.model.specs.Given.{count_from}
use Rattle.model.specs.Derivation.{ancestry, on_ancestry}
use Rattle.model.specs.Sheet6.{sheet6}
use Rattle.model.specs.Strike.{origin, strike, reached, struck}
use Rattle.model.specs.Table.{empty_row, terms_in_order, live_rows, lent_table, lookup, is_empty_row, live_rows_first, row_fits_parent, parent_in_order, row_in_order, rows_in_order, in_order}
use Rattle.model.specs.Requests.{rises_above, rises_strictly, is_group}
use Rattle.model.specs.Limits.{exceeds, refused_sheet, no_row, limit_reached}
use Rattle.model.specs.Refusals.{not_written, unfit_slot, standings, refusals, judge}
use Rattle.model.specs.Effects.{revoke, after_access, rows_without, rows_after}
use Rattle.model.specs.Bits.{has_bit, with_bit, bit_at, put_at, put_from, bits_after, all_written}
use Rattle.model.specs.Step.{State, answer, after, initial}
use Rattle.table.specs.Words.{cap_of, rows_in}
use Rattle.table.specs.States.{is_memory, states_in}
use Rattle.table.specs.Lent.{lent}
use Rattle.rules.specs.Steps.{lends}
use Rattle.kelzoud_events.specs.Batch.{taken, after_all, answers_all}
use Rattle.kelzoud_events.specs.Interface.{charge_words, name_of, span_of, no_terms, event_with, event_in, asked_in, part, request_in, words_of}

abbrev requests : List ℕ → List (List ℕ) → List Request
requests names = map (λ w. request_in Unlimited w names)

abbrev terms : ℕ → ℕ → ℕ → Terms
terms right kind fresh = record { right = right; kind = kind; fresh = fresh; holders = 1 }

abbrev by : ℕ → Caller
by actor = caller actor Unlimited

-- each kind; what a kind lacks is not looked at: a create has no kind of capability, and what is no create no mark
kinds : requests (7 ∷ 8 ∷ 9 ∷ []) (
    (1 ∷ 5 ∷ 16 ∷ 64 ∷ 2 ∷ 0 ∷ 9 ∷ 2 ∷ 0 ∷ 0 ∷ 1 ∷ 0 ∷ [])
    ∷ (1 ∷ 5 ∷ 16 ∷ 64 ∷ 2 ∷ 3 ∷ 9 ∷ 4294967295 ∷ 1 ∷ 0 ∷ 1 ∷ 0 ∷ [])
    ∷ (2 ∷ 5 ∷ 16 ∷ 8 ∷ 1 ∷ 0 ∷ 0 ∷ 0 ∷ 1 ∷ 0 ∷ 1 ∷ 0 ∷ [])
    ∷ (2 ∷ 5 ∷ 16 ∷ 8 ∷ 1 ∷ 1 ∷ 0 ∷ 2 ∷ 4294967295 ∷ 0 ∷ 1 ∷ 0 ∷ [])
    ∷ (3 ∷ 5 ∷ 16 ∷ 8 ∷ 2 ∷ 1 ∷ 9 ∷ 1 ∷ 2 ∷ 0 ∷ 1 ∷ 0 ∷ [])
    ∷ (4 ∷ 5 ∷ 16 ∷ 8 ∷ 2 ∷ 1 ∷ 9 ∷ 0 ∷ 1 ∷ 0 ∷ 1 ∷ 0 ∷ [])
    ∷ (5 ∷ 5 ∷ 16 ∷ 8 ∷ 2 ∷ 1 ∷ 9 ∷ 0 ∷ 256 ∷ 0 ∷ 1 ∷ 0 ∷ [])
    ∷ (6 ∷ 5 ∷ 1 ∷ 2 ∷ 2 ∷ 1 ∷ 9 ∷ 0 ∷ 1 ∷ 0 ∷ 1 ∷ 0 ∷ [])
    ∷ (7 ∷ 5 ∷ 1 ∷ 2 ∷ 2 ∷ 1 ∷ 9 ∷ 0 ∷ 1 ∷ 0 ∷ 1 ∷ 0 ∷ [])
    ∷ (8 ∷ 5 ∷ 1 ∷ 2 ∷ 2 ∷ 1 ∷ 9 ∷ 0 ∷ 1 ∷ 0 ∷ 1 ∷ 0 ∷ [])
    ∷ [])
    ≡ Single (by 0) (Create None (span_of 16 64) (terms 2 0 0))
    ∷ Single (by 0) (Create (Some (name_of 9)) (span_of 16 64) (terms 2 0 1))
    ∷ Single (by 0) (Borrow None (name_of 5) (span_of 16 8) (terms 1 0 0))
    ∷ Single (by 0) (Borrow (Some (name_of 0)) (name_of 5) (span_of 16 8) (terms 1 2 0))
    ∷ Single (by 0) (Read (name_of 5) (span_of 16 8))
    ∷ Single (by 0) (Write (name_of 5) (span_of 16 8))
    ∷ Single (by 0) (Drop (name_of 5))
    ∷ Group (by 0) (8 ∷ 9 ∷ [])
    ∷ Mark (by 0) 5
    ∷ Back (by 0) 5
    ∷ []
unfolding asked_in event_in event_with part
kinds = refl

-- an unknown kind, below and above the others, is a create whose right is 0, whatever its mark
unknown : requests [] ((0 ∷ 0 ∷ 16 ∷ 64 ∷ 2 ∷ 0 ∷ 0 ∷ 0 ∷ 0 ∷ 0 ∷ 1 ∷ 0 ∷ []) ∷ (9 ∷ 0 ∷ 16 ∷ 64 ∷ 2 ∷ 0 ∷ 0 ∷ 0 ∷ 1 ∷ 0 ∷ 1 ∷ 0 ∷ []) ∷ (4294967295 ∷ 0 ∷ 16 ∷ 64 ∷ 2 ∷ 0 ∷ 0 ∷ 0 ∷ 0 ∷ 0 ∷ 1 ∷ 0 ∷ []) ∷ [])
    ≡ replicate 3 (Single (by 0) (Create None (span_of 16 64) no_terms))
unfolding asked_in event_in event_with
unknown = refl

-- a right above 255 is right 0, whatever its lower byte
rights : requests [] (map (λ right. 1 ∷ 0 ∷ 16 ∷ 64 ∷ right ∷ 0 ∷ 0 ∷ 0 ∷ 0 ∷ 0 ∷ 1 ∷ 0 ∷ []) (1 ∷ 255 ∷ 258 ∷ []))
    ≡ map (λ right. Single (by 0) (Create None (span_of 16 64) (terms right 0 0))) (1 ∷ 255 ∷ 0 ∷ [])
unfolding asked_in event_in event_with
rights = refl

-- a kind of capability above 255 is kind 3, whatever its lower byte
capability_kinds : requests [] (map (λ kind. 2 ∷ 5 ∷ 16 ∷ 8 ∷ 1 ∷ 0 ∷ 0 ∷ kind ∷ 0 ∷ 0 ∷ 1 ∷ 0 ∷ []) (1 ∷ 255 ∷ 256 ∷ 4294967295 ∷ []))
    ≡ map (λ kind. Single (by 0) (Borrow None (name_of 5) (span_of 16 8) (terms 1 kind 0))) (1 ∷ 255 ∷ 3 ∷ 3 ∷ [])
unfolding asked_in event_in event_with
capability_kinds = refl

-- a mark above 255 is mark 2, whatever its lower byte
marks : requests [] (map (λ mark. 1 ∷ 0 ∷ 16 ∷ 64 ∷ 2 ∷ 0 ∷ 0 ∷ 0 ∷ mark ∷ 0 ∷ 1 ∷ 0 ∷ []) (0 ∷ 1 ∷ 2 ∷ 255 ∷ 256 ∷ 4294967295 ∷ []))
    ≡ map (λ mark. Single (by 0) (Create None (span_of 16 64) (terms 2 0 mark))) (0 ∷ 1 ∷ 2 ∷ 255 ∷ 2 ∷ 2 ∷ [])
unfolding asked_in event_in event_with
marks = refl

-- who acts is any number, as is a slot, and a mask is its two halves, the lower one first; what makes nothing has none
domains : requests (7 ∷ 8 ∷ []) (
    (1 ∷ 0 ∷ 16 ∷ 64 ∷ 2 ∷ 0 ∷ 0 ∷ 0 ∷ 0 ∷ 3 ∷ 8 ∷ 2147483648 ∷ [])
    ∷ (1 ∷ 0 ∷ 16 ∷ 64 ∷ 2 ∷ 0 ∷ 0 ∷ 0 ∷ 0 ∷ 4294967295 ∷ 0 ∷ 0 ∷ [])
    ∷ (3 ∷ 5 ∷ 16 ∷ 8 ∷ 0 ∷ 0 ∷ 0 ∷ 0 ∷ 0 ∷ 63 ∷ 4294967295 ∷ 1 ∷ [])
    ∷ (6 ∷ 0 ∷ 0 ∷ 2 ∷ 0 ∷ 0 ∷ 0 ∷ 0 ∷ 0 ∷ 5 ∷ 9 ∷ 9 ∷ [])
    ∷ (7 ∷ 0 ∷ 0 ∷ 0 ∷ 0 ∷ 0 ∷ 0 ∷ 0 ∷ 0 ∷ 63 ∷ 0 ∷ 0 ∷ [])
    ∷ (8 ∷ 4294967295 ∷ 0 ∷ 0 ∷ 0 ∷ 0 ∷ 0 ∷ 0 ∷ 0 ∷ 64 ∷ 0 ∷ 0 ∷ [])
    ∷ [])
    ≡ Single (by 3) (Create None (span_of 16 64) (record { right = 2; kind = 0; fresh = 0; holders = 9223372036854775816 }))
    ∷ Single (by 4294967295) (Create None (span_of 16 64) (record { right = 2; kind = 0; fresh = 0; holders = 0 }))
    ∷ Single (by 63) (Read (name_of 5) (span_of 16 8))
    ∷ Group (by 5) (7 ∷ 8 ∷ [])
    ∷ Mark (by 63) 0
    ∷ Back (by 64) 4294967295
    ∷ []
unfolding asked_in event_in event_with part
domains = refl

-- names up to the end of the list, from its end, and past it, where they would wrap too
groups : requests (7 ∷ 8 ∷ 9 ∷ []) (
    (6 ∷ 0 ∷ 0 ∷ 3 ∷ 0 ∷ 0 ∷ 0 ∷ 0 ∷ 0 ∷ 0 ∷ 1 ∷ 0 ∷ [])
    ∷ (6 ∷ 0 ∷ 3 ∷ 0 ∷ 0 ∷ 0 ∷ 0 ∷ 0 ∷ 0 ∷ 0 ∷ 1 ∷ 0 ∷ [])
    ∷ (6 ∷ 0 ∷ 2 ∷ 2 ∷ 0 ∷ 0 ∷ 0 ∷ 0 ∷ 0 ∷ 0 ∷ 1 ∷ 0 ∷ [])
    ∷ (6 ∷ 0 ∷ 4 ∷ 0 ∷ 0 ∷ 0 ∷ 0 ∷ 0 ∷ 0 ∷ 0 ∷ 1 ∷ 0 ∷ [])
    ∷ (6 ∷ 0 ∷ 1 ∷ 4294967295 ∷ 0 ∷ 0 ∷ 0 ∷ 0 ∷ 0 ∷ 0 ∷ 1 ∷ 0 ∷ [])
    ∷ [])
    ≡ Group (by 0) (7 ∷ 8 ∷ 9 ∷ []) ∷ Group (by 0) [] ∷ Group (by 0) [] ∷ Group (by 0) [] ∷ Group (by 0) [] ∷ []
unfolding asked_in event_in event_with part
groups = refl

-- words of requests: what makes nothing has no mask
words : map words_of (
    Single (by 3) (Create (Some (name_of 9)) (span_of 16 64) (record { right = 2; kind = 0; fresh = 1; holders = 9223372036854775816 }))
    ∷ Single (by 0) (Borrow None (name_of 5) (span_of 16 8) (terms 1 2 0))
    ∷ Single (by 3) (Read (name_of 5) (span_of 16 8))
    ∷ Single (by 0) (Drop (name_of 5))
    ∷ Group (by 63) (8 ∷ 9 ∷ [])
    ∷ Mark (by 0) 3
    ∷ Back (by 2) 7
    ∷ [])
    ≡ (1 ∷ 0 ∷ 16 ∷ 64 ∷ 2 ∷ 1 ∷ 9 ∷ 0 ∷ 1 ∷ 3 ∷ 8 ∷ 2147483648 ∷ [])
    ∷ (2 ∷ 5 ∷ 16 ∷ 8 ∷ 1 ∷ 0 ∷ 0 ∷ 2 ∷ 0 ∷ 0 ∷ 1 ∷ 0 ∷ [])
    ∷ (3 ∷ 5 ∷ 16 ∷ 8 ∷ 0 ∷ 0 ∷ 0 ∷ 0 ∷ 0 ∷ 3 ∷ 0 ∷ 0 ∷ [])
    ∷ (5 ∷ 5 ∷ 0 ∷ 0 ∷ 0 ∷ 0 ∷ 0 ∷ 0 ∷ 0 ∷ 0 ∷ 0 ∷ 0 ∷ [])
    ∷ (6 ∷ 0 ∷ 0 ∷ 2 ∷ 0 ∷ 0 ∷ 0 ∷ 0 ∷ 0 ∷ 63 ∷ 0 ∷ 0 ∷ [])
    ∷ (7 ∷ 3 ∷ 0 ∷ 0 ∷ 0 ∷ 0 ∷ 0 ∷ 0 ∷ 0 ∷ 0 ∷ 0 ∷ 0 ∷ [])
    ∷ (8 ∷ 7 ∷ 0 ∷ 0 ∷ 0 ∷ 0 ∷ 0 ∷ 0 ∷ 0 ∷ 2 ∷ 0 ∷ 0 ∷ [])
    ∷ []
unfolding words_of
words = refl

-- ---- a batch

-- a create, a write through a name that is not issued, a read, and one name of the list dropped as a group
events : List (List ℕ)
events =
    (1 ∷ 0 ∷ 16 ∷ 64 ∷ 2 ∷ 0 ∷ 0 ∷ 0 ∷ 0 ∷ 0 ∷ 1 ∷ 0 ∷ [])
    ∷ (4 ∷ 2 ∷ 16 ∷ 8 ∷ 0 ∷ 0 ∷ 0 ∷ 0 ∷ 0 ∷ 0 ∷ 1 ∷ 0 ∷ [])
    ∷ (3 ∷ 1 ∷ 16 ∷ 8 ∷ 0 ∷ 0 ∷ 0 ∷ 0 ∷ 0 ∷ 0 ∷ 1 ∷ 0 ∷ [])
    ∷ (6 ∷ 0 ∷ 1 ∷ 1 ∷ 0 ∷ 0 ∷ 0 ∷ 0 ∷ 0 ∷ 0 ∷ 1 ∷ 0 ∷ [])
    ∷ []

two : State
two = initial 2 (tally 0 0 0 0 0 0 0)

-- three entries: the refusal in the middle stops nothing, and the fourth event is not taken
three : (taken events (replicate 3 (7 ∷ 7 ∷ [])) ≡ 3)
    × (answers_all sheet6 Unlimited two events (9 ∷ 1 ∷ []) (replicate 3 (7 ∷ 7 ∷ [])) ≡ (0 ∷ 1 ∷ []) ∷ (4 ∷ 0 ∷ []) ∷ (0 ∷ 0 ∷ []) ∷ [])
    × (after_all sheet6 Unlimited two events (9 ∷ 1 ∷ []) (replicate 3 (7 ∷ 7 ∷ [])) ≡ lends (cap_of (1 ∷ 0 ∷ 16 ∷ 64 ∷ 2 ∷ 1 ∷ 0 ∷ 0 ∷ 0 ∷ 1 ∷ 0 ∷ []) ∷ empty_row ∷ []) (replicate 8192 0) unstored (tally 1 1 0 1 0 0 1))
unfolding events two asked_in event_in event_with part ancestry on_ancestry origin strike reached struck terms_in_order live_rows lent_table lookup is_empty_row live_rows_first row_fits_parent parent_in_order row_in_order rows_in_order in_order not_written unfit_slot exceeds refused_sheet no_row limit_reached standings refusals judge revoke after_access rows_without rows_after has_bit with_bit bit_at put_at put_from bits_after all_written answer after rises_above rises_strictly is_group
three = (refl, refl, refl)

-- six entries: all four are taken, the last drops the name 1, and the entries behind stay
six : (taken events (replicate 6 (7 ∷ 7 ∷ [])) ≡ 4)
    × (answers_all sheet6 Unlimited two events (9 ∷ 1 ∷ []) (replicate 6 (7 ∷ 7 ∷ [])) ≡ (0 ∷ 1 ∷ []) ∷ (4 ∷ 0 ∷ []) ∷ (0 ∷ 0 ∷ []) ∷ (0 ∷ 0 ∷ []) ∷ (7 ∷ 7 ∷ []) ∷ (7 ∷ 7 ∷ []) ∷ [])
    × (after_all sheet6 Unlimited two events (9 ∷ 1 ∷ []) (replicate 6 (7 ∷ 7 ∷ [])) ≡ lends (replicate 2 empty_row) (replicate 8192 0) unstored (tally 1 1 0 1 0 1 1))
unfolding events two asked_in event_in event_with part ancestry on_ancestry origin strike reached struck terms_in_order live_rows lent_table lookup is_empty_row live_rows_first row_fits_parent parent_in_order row_in_order rows_in_order in_order not_written unfit_slot exceeds refused_sheet no_row limit_reached standings refusals judge revoke after_access rows_without rows_after has_bit with_bit bit_at put_at put_from bits_after all_written answer after rises_above rises_strictly is_group
six = (refl, refl, refl)

-- a marked create, a read of bytes that no write came to, a write of them, and the read again
fresh : List (List ℕ)
fresh =
    (1 ∷ 0 ∷ 16 ∷ 64 ∷ 2 ∷ 0 ∷ 0 ∷ 0 ∷ 1 ∷ 0 ∷ 1 ∷ 0 ∷ [])
    ∷ (3 ∷ 1 ∷ 16 ∷ 8 ∷ 0 ∷ 0 ∷ 0 ∷ 0 ∷ 0 ∷ 0 ∷ 1 ∷ 0 ∷ [])
    ∷ (4 ∷ 1 ∷ 16 ∷ 8 ∷ 0 ∷ 0 ∷ 0 ∷ 0 ∷ 0 ∷ 0 ∷ 1 ∷ 0 ∷ [])
    ∷ (3 ∷ 1 ∷ 16 ∷ 8 ∷ 0 ∷ 0 ∷ 0 ∷ 0 ∷ 0 ∷ 0 ∷ 1 ∷ 0 ∷ [])
    ∷ []

-- the first read is refusal 16; the write sets the eight bits of byte 2, and the second read is allowed
written_first_lem : (answers_all sheet6 Unlimited two fresh [] (replicate 4 (7 ∷ 7 ∷ [])) ≡ (0 ∷ 1 ∷ []) ∷ (16 ∷ 0 ∷ []) ∷ (0 ∷ 0 ∷ []) ∷ (0 ∷ 0 ∷ []) ∷ [])
    × (after_all sheet6 Unlimited two fresh [] (replicate 4 (7 ∷ 7 ∷ [])) ≡ lends (cap_of (1 ∷ 0 ∷ 16 ∷ 64 ∷ 2 ∷ 1 ∷ 0 ∷ 1 ∷ 0 ∷ 1 ∷ 0 ∷ []) ∷ empty_row ∷ []) (set (replicate 8192 0) 2 255) unstored (tally 1 1 0 1 1 0 1))
unfolding fresh two asked_in event_in event_with part ancestry on_ancestry origin strike reached struck terms_in_order live_rows lent_table lookup is_empty_row live_rows_first row_fits_parent parent_in_order row_in_order rows_in_order in_order not_written unfit_slot exceeds refused_sheet no_row limit_reached standings refusals judge revoke after_access rows_without rows_after has_bit with_bit bit_at put_at put_from bits_after all_written answer after rises_above rises_strictly is_group
written_first_lem = (refl, refl)

-- one byte too few: every answer is refusal 1, and nothing changes
short : State
short = lends (replicate 2 empty_row) (replicate 8191 0) unstored (tally 0 0 0 0 0 0 0)

too_short : (answers_all sheet6 Unlimited short fresh [] (replicate 5 (7 ∷ 7 ∷ [])) ≡ (1 ∷ 0 ∷ []) ∷ (1 ∷ 0 ∷ []) ∷ (1 ∷ 0 ∷ []) ∷ (1 ∷ 0 ∷ []) ∷ (7 ∷ 7 ∷ []) ∷ [])
    × (after_all sheet6 Unlimited short fresh [] (replicate 5 (7 ∷ 7 ∷ [])) ≡ short)
unfolding fresh short asked_in event_in event_with part ancestry on_ancestry origin strike reached struck terms_in_order live_rows lent_table lookup is_empty_row live_rows_first row_fits_parent parent_in_order row_in_order rows_in_order in_order not_written unfit_slot exceeds refused_sheet no_row limit_reached standings refusals judge revoke after_access rows_without rows_after has_bit with_bit bit_at put_at put_from bits_after all_written answer after rises_above rises_strictly is_group
too_short = (refl, refl)

-- ---- marks and backs

-- a marked create, a mark, a write, a back, a read of what was written, a back to a slot with nothing in it, and a mark in no slot
turned : List (List ℕ)
turned =
    (1 ∷ 0 ∷ 16 ∷ 64 ∷ 2 ∷ 0 ∷ 0 ∷ 0 ∷ 1 ∷ 0 ∷ 1 ∷ 0 ∷ [])
    ∷ (7 ∷ 1 ∷ 0 ∷ 0 ∷ 0 ∷ 0 ∷ 0 ∷ 0 ∷ 0 ∷ 0 ∷ 0 ∷ 0 ∷ [])
    ∷ (4 ∷ 1 ∷ 16 ∷ 8 ∷ 0 ∷ 0 ∷ 0 ∷ 0 ∷ 0 ∷ 0 ∷ 0 ∷ 0 ∷ [])
    ∷ (8 ∷ 1 ∷ 0 ∷ 0 ∷ 0 ∷ 0 ∷ 0 ∷ 0 ∷ 0 ∷ 0 ∷ 0 ∷ 0 ∷ [])
    ∷ (3 ∷ 1 ∷ 16 ∷ 8 ∷ 0 ∷ 0 ∷ 0 ∷ 0 ∷ 0 ∷ 0 ∷ 0 ∷ 0 ∷ [])
    ∷ (8 ∷ 2 ∷ 0 ∷ 0 ∷ 0 ∷ 0 ∷ 0 ∷ 0 ∷ 0 ∷ 0 ∷ 0 ∷ 0 ∷ [])
    ∷ (7 ∷ 8 ∷ 0 ∷ 0 ∷ 0 ∷ 0 ∷ 0 ∷ 0 ∷ 0 ∷ 0 ∷ 0 ∷ 0 ∷ [])
    ∷ []

created : Memory
created = record { table = cap_of (1 ∷ 0 ∷ 16 ∷ 64 ∷ 2 ∷ 1 ∷ 0 ∷ 1 ∷ 0 ∷ 1 ∷ 0 ∷ []) ∷ empty_row ∷ []; bits = replicate 8192 0 }

-- the back brings the bits of the mark, so the read is refusal 16; then 19 and 2. What is stored stays, and so does the count of writes
there_and_back : (answers_all sheet6 Unlimited two turned [] (replicate 7 (7 ∷ 7 ∷ [])) ≡ (0 ∷ 1 ∷ []) ∷ (0 ∷ 0 ∷ []) ∷ (0 ∷ 0 ∷ []) ∷ (0 ∷ 0 ∷ []) ∷ (16 ∷ 0 ∷ []) ∷ (19 ∷ 0 ∷ []) ∷ (2 ∷ 0 ∷ []) ∷ [])
    × (after_all sheet6 Unlimited two turned [] (replicate 7 (7 ∷ 7 ∷ [])) ≡ lends created.table created.bits (set unstored 1 (Stored created)) (tally 1 1 0 0 1 0 3))
unfolding turned two created asked_in event_in event_with part ancestry on_ancestry origin strike reached struck terms_in_order live_rows lent_table lookup is_empty_row live_rows_first row_fits_parent parent_in_order row_in_order rows_in_order in_order not_written unfit_slot exceeds refused_sheet no_row limit_reached standings refusals judge revoke after_access rows_without rows_after has_bit with_bit bit_at put_at put_from bits_after all_written answer after rises_above rises_strictly is_group
there_and_back = (refl, refl)

-- in slot 1 stands a table of another number of rows: going back to it is refusal 1, and the batch goes on
misfit : State
misfit = lends (replicate 3 empty_row) (replicate 8192 0) (set unstored 1 (Stored created)) (tally 1 0 0 0 0 0 0)

misfits : (answers_all sheet6 Unlimited misfit (drop 3 turned) [] (replicate 4 (7 ∷ 7 ∷ [])) ≡ (1 ∷ 0 ∷ []) ∷ (5 ∷ 0 ∷ []) ∷ (19 ∷ 0 ∷ []) ∷ (2 ∷ 0 ∷ []) ∷ [])
    × (after_all sheet6 Unlimited misfit (drop 3 turned) [] (replicate 4 (7 ∷ 7 ∷ [])) ≡ lends (replicate 3 empty_row) (replicate 8192 0) (set unstored 1 (Stored created)) (tally 1 0 0 0 0 0 3))
unfolding turned misfit created asked_in event_in event_with part ancestry on_ancestry origin strike reached struck terms_in_order live_rows lent_table lookup is_empty_row live_rows_first row_fits_parent parent_in_order row_in_order rows_in_order in_order not_written unfit_slot exceeds refused_sheet no_row limit_reached standings refusals judge revoke after_access rows_without rows_after has_bit with_bit bit_at put_at put_from bits_after all_written answer after rises_above rises_strictly is_group
misfits = (refl, refl)

-- memory of another size: no slots, and every answer is refusal 1
abbrev zeros : ℕ → List (List ℕ)
zeros n = replicate n (replicate 11 0)

sizes : map (λ (p : ℕ × ℕ). length (states_in (zeros p.0) (replicate p.1 0))) ((8200, 65536) ∷ (8199, 65536) ∷ (8200, 65535) ∷ (8201, 65536) ∷ (0, 0) ∷ []) ≡ 8 ∷ 0 ∷ 0 ∷ 0 ∷ 0 ∷ []
unfolding is_memory states_in count_from
sizes = refl

memoryless : State
memoryless = lent (zeros 2) (replicate 8192 0) (zeros 8199) [] (replicate 7 0)

no_memory : (answers_all sheet6 Unlimited memoryless turned [] (replicate 8 (7 ∷ 7 ∷ [])) ≡ (1 ∷ 0 ∷ []) ∷ (1 ∷ 0 ∷ []) ∷ (1 ∷ 0 ∷ []) ∷ (1 ∷ 0 ∷ []) ∷ (1 ∷ 0 ∷ []) ∷ (1 ∷ 0 ∷ []) ∷ (1 ∷ 0 ∷ []) ∷ (7 ∷ 7 ∷ []) ∷ [])
    × (after_all sheet6 Unlimited memoryless turned [] (replicate 8 (7 ∷ 7 ∷ [])) ≡ memoryless)
unfolding turned memoryless rows_in is_memory states_in asked_in event_in event_with part ancestry on_ancestry origin strike reached struck terms_in_order live_rows lent_table lookup is_empty_row live_rows_first row_fits_parent parent_in_order row_in_order rows_in_order in_order not_written unfit_slot exceeds refused_sheet no_row limit_reached standings refusals judge revoke after_access rows_without rows_after has_bit with_bit bit_at put_at put_from bits_after all_written answer after rises_above rises_strictly is_group
no_memory = (refl, refl)

-- ---- limits

-- two creates by domain 3, whose limit is 1, and one by domain 0: the second is 18, and in the place of 10 nothing is
limited : List (List ℕ)
limited =
    (1 ∷ 0 ∷ 16 ∷ 8 ∷ 2 ∷ 0 ∷ 0 ∷ 0 ∷ 0 ∷ 3 ∷ 8 ∷ 0 ∷ [])
    ∷ (1 ∷ 0 ∷ 32 ∷ 8 ∷ 2 ∷ 0 ∷ 0 ∷ 0 ∷ 0 ∷ 3 ∷ 8 ∷ 0 ∷ [])
    ∷ (1 ∷ 0 ∷ 48 ∷ 8 ∷ 2 ∷ 0 ∷ 0 ∷ 0 ∷ 0 ∷ 0 ∷ 1 ∷ 0 ∷ [])
    ∷ (3 ∷ 1 ∷ 16 ∷ 8 ∷ 0 ∷ 0 ∷ 0 ∷ 0 ∷ 0 ∷ 0 ∷ 0 ∷ 0 ∷ [])
    ∷ []

limits : List ℕ
limits = set (set (replicate 64 0) 0 1) 3 1

by_limits : answers_all sheet6 (Limited limits) two limited [] (replicate 4 (7 ∷ 7 ∷ [])) ≡ (0 ∷ 1 ∷ []) ∷ (18 ∷ 0 ∷ []) ∷ (0 ∷ 2 ∷ []) ∷ (17 ∷ 0 ∷ []) ∷ []
unfolding limited limits two asked_in event_in event_with part ancestry on_ancestry origin strike reached struck terms_in_order live_rows lent_table lookup is_empty_row live_rows_first row_fits_parent parent_in_order row_in_order rows_in_order in_order not_written unfit_slot exceeds refused_sheet no_row limit_reached standings refusals judge revoke after_access rows_without rows_after has_bit with_bit bit_at put_at put_from bits_after all_written answer after rises_above rises_strictly is_group
by_limits = refl

-- a list of 63 limits is refused
too_few : answers_all sheet6 (Limited (replicate 63 0)) two limited [] (replicate 2 (7 ∷ 7 ∷ [])) ≡ (1 ∷ 0 ∷ []) ∷ (1 ∷ 0 ∷ []) ∷ []
unfolding limited two asked_in event_in event_with part ancestry on_ancestry origin strike reached struck terms_in_order live_rows lent_table lookup is_empty_row live_rows_first row_fits_parent parent_in_order row_in_order rows_in_order in_order not_written unfit_slot exceeds refused_sheet no_row limit_reached standings refusals judge revoke after_access rows_without rows_after has_bit with_bit bit_at put_at put_from bits_after all_written answer after rises_above rises_strictly is_group
too_few = refl

-- ---- charges

-- 64 bytes of five holders are 12 each, and 4 are left over; 4 and 5 in their order
charges : map (λ name. charge_words (charge (cap_of (1 ∷ 0 ∷ 16 ∷ 64 ∷ 2 ∷ 1 ∷ 0 ∷ 0 ∷ 3 ∷ 15 ∷ 2147483648 ∷ []) ∷ empty_row ∷ []) 2 (name_of name))) (0 ∷ 1 ∷ 2 ∷ 3 ∷ [])
    ≡ (4 ∷ 0 ∷ 0 ∷ []) ∷ (0 ∷ 12 ∷ 4 ∷ []) ∷ (5 ∷ 0 ∷ 0 ∷ []) ∷ (4 ∷ 0 ∷ 0 ∷ []) ∷ []
unfolding charge bits_below has_bit terms_in_order live_rows lookup is_empty_row live_rows_first row_fits_parent parent_in_order row_in_order rows_in_order in_order
charges = refl
