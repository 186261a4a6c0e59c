-- Document 01, "The bracket text", its last part: what `capcheck` prints.
-- Assumes nothing.
use Rattle.std.specs.Prelude.{ℕ, Bool, not, cond, List, [], ◌∷◌, ◌++◌, leb, eqb, length}
use Rattle.model.specs.Requests.{Unlimited}
use Rattle.model.specs.declared.Tally.{Tally}
use Rattle.model.specs.Counts.{tally}
use Rattle.model.specs.Sheet6.{sheet6}
use Rattle.model.specs.Slots.{Memory, Slot, unstored}
use Rattle.model.specs.Step.{State, initial}
use Rattle.text.specs.Event.{bytes, line}
use Rattle.listing.specs.Listing.{listing}
use Rattle.trace.specs.Run.{Ran, run}

-- "`(allowed LINES)` or `(refused NUMBER LINE)`"
unfoldable pub answer_line : ℕ → ℕ → List ℕ
answer_line refusal number =
    cond (eqb refusal 0) (line "(allowed" (number ∷ []) (bytes ")\n")) (line "(refused" (refusal ∷ number ∷ []) (bytes ")\n"))

-- ", then the listing"
abbrev pub listing_of : Ran State → List ℕ
listing_of r = listing r.state.memory.table r.state.tally.issued

abbrev pub report : Ran State → List ℕ
report r = answer_line r.refusal r.number ++ listing_of r

abbrev pub no_counts : Tally
no_counts = tally 0 0 0 0 0 0 0

-- It "uses 1,024 empty rows", card 6's sheet, and written bits that are zeros; the slots are those of the memory that is lent to it.
abbrev pub begins : List (Slot Memory) → State
begins slots = record { memory = (initial 1024 no_counts).memory; tally = no_counts; slots = slots }

-- "Input above 65,536 bytes gives the one line `(long)`."
abbrev pub is_long : List ℕ → Bool
is_long input = not (leb (length input) 65536)

unfoldable pub check_with : List (Slot Memory) → List ℕ → List ℕ
check_with slots input =
    let text = report (run sheet6 Unlimited (begins slots) input) in
    cond (leb (length input) 65536) text (bytes "(long)\n")

-- what is stored then; of an input that is too long nothing is run
unfoldable pub stored_with : List (Slot Memory) → List ℕ → List (Slot Memory)
stored_with slots input = cond (leb (length input) 65536) (run sheet6 Unlimited (begins slots) input).state.slots slots

-- what `capcheck` prints: eight slots, and "nothing is stored there at first"
abbrev pub check_text : List ℕ → List ℕ
check_text = check_with unstored
