-- `listing::reading::read_listing` meets its contract: the guess is judged, and then copied.
-- Assumes nothing.
use mathlib.Core.Path.{◌≡◌, sym, ap, subst, ◌∙◌}
use mathlib.Core.Bool.{Bool}
use mathlib.Core.List.{List}
use Prim.Native.Nat.{ℕ}
use lib.ListN.{length, take}
use borrow.Author.Tests.{not-true, not-false}
use Rattle.model.specs.declared.Cap.{Cap}
use Rattle.model.specs.declared.Tally.{Tally}
use Rattle.model.specs.declared.Refusal.TheVariants.{Misspelt, TableFull}
use Rattle.table.specs.Words.{rows_in}
use Rattle.table.specs.Rows.{Front}
use Rattle.text.specs.Decimal.{number_of}
use Rattle.listing.specs.First.{first_rows}
use Rattle.listing.specs.ReadListing.{is_listing}
use Rattle.listing.specs.ReadInto.{with_issued}
use Rattle.listing.proofs.Laws.First.{rows_part}
use Rattle.listing.proofs.Laws.Lent.{read_many, read_refused, read_given}
use Rattle.listing.proofs.Laws.ReadListing.{stored_none, answers_2, answers_10, answers_given}
use Rattle.listing.proofs.reading.read_listing.Goals as goal

-- what was found of the rows that were stored
found : (s : List ℕ) (ws : List (List ℕ)) (count issued : ℕ) {r b : Bool} → r ≡ is_listing s (rows_in (take count ws)) issued → r ≡ b → is_listing s (first_rows ws count) issued ≡ b
found s ws count issued e q = ap (λ (t : List Cap). is_listing s t issued) (sym (rows_part ws count)) ∙ sym e ∙ q

-- the live rows of a table of 1,024
counted : (ws : List (List ℕ)) (k : ℕ) → length ws ≡ 1024 → Front (rows_in ws) (length ws) k → Front (rows_in ws) 1024 k
counted ws k e f = subst (λ (n : ℕ). Front (rows_in ws) n k) e f

pub returns-then-table-gt1024 : goal.returns-then-table-gt1024
returns-then-table-gt1024 c =
    let a = c.args in
    read_many a.text.now a.table.now a.tally.now c.if-table-gt1024.true

pub guess_table-count-requires : goal.guess_table-count-requires
guess_table-count-requires c = stored_none

pub returns-then-not-is_listing : goal.returns-then-not-is_listing
returns-then-not-is_listing c =
    let a = c.args in
    let few = c.if-table-gt1024.false in
    let issued = c.number-issued.result in
    let ei = c.number-issued.ensures ∙ ap number_of c.after_space.ensures in
    let no = found a.text.now c.guess_table-count.new.table c.guess_table-count.result issued c.is_listing.ensures (not-true c.is_listing.result c.if-not-is_listing.true-raw) in
    read_refused a.text.now a.table.now a.tally.now few Misspelt (answers_2 a.text.now _ few c.guess_table-count.ensures.1 issued c.guess_table-count.ensures.0 ei no)

pub returns-then-table-live_count : goal.returns-then-table-live_count
returns-then-table-live_count c =
    let a = c.args in
    let few = c.if-table-gt1024.false in
    let issued = c.number-issued.result in
    let ei = c.number-issued.ensures ∙ ap number_of c.after_space.ensures in
    let yes = found a.text.now c.guess_table-count.new.table c.guess_table-count.result issued c.is_listing.ensures (not-false c.is_listing.result c.if-not-is_listing.false-raw) in
    read_refused a.text.now a.table.now a.tally.now few TableFull (answers_10 a.text.now _ few c.guess_table-count.ensures.1 issued c.guess_table-count.ensures.0 ei yes c.live_count.result (counted c.guess_table-count.new.table c.live_count.result c.guess_table-count.ensures.1.long c.live_count.ensures) c.if-table-live_count.true)

pub returns : goal.returns
returns c =
    let a = c.args in
    let few = c.if-table-gt1024.false in
    let issued = c.number-issued.result in
    let ei = c.number-issued.ensures ∙ ap number_of c.after_space.ensures in
    let yes = found a.text.now c.guess_table-count.new.table c.guess_table-count.result issued c.is_listing.ensures (not-false c.is_listing.result c.if-not-is_listing.false-raw) in
    read_given a.text.now a.table.now a.tally.now few c.copy_over.new.to c.set_tally.new.tally issued
    (answers_given a.text.now _ few c.guess_table-count.ensures.1 issued c.guess_table-count.ensures.0 ei yes c.live_count.result (counted c.guess_table-count.new.table c.live_count.result c.guess_table-count.ensures.1.long c.live_count.ensures) c.if-table-live_count.false (ap rows_in c.copy_over.ensures ∙ rows_part _ (length a.table.now)))
    (c.set_tally.ensures ∙ c.with_issued.ensures ∙ ap (λ (t : Tally). with_issued issued t) c.tally_at-before.ensures)
