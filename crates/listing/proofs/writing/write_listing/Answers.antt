-- `listing::writing::write_listing` meets its contract: refusal 1, or the listing of the live rows.
-- Assumes nothing.
use Rattle.std.specs.Prelude.{Result}
use Rattle.model.specs.declared.Refusal.{Refusal}
use mathlib.Core.Path.{◌≡◌, refl, sym, ap, ◌∙◌}
use mathlib.Core.Bool.{true}
use mathlib.Core.List.{List}
use Prim.Native.Nat.{ℕ}
use native.Mathlib.Omega.{arith}
use lib.ListN.{length}
use borrow.Author.Tests.{not-true, not-false}
use Rattle.model.specs.Table.{in_order}
use Rattle.table.specs.Words.{rows_in}
use Rattle.listing.specs.First.{first_rows}
use Rattle.table.specs.Rows.{Front}
use Rattle.listing.specs.Listing.{listed, listing}
use Rattle.text.specs.Write.{Writes, written, stored}
use Rattle.listing.specs.WriteListing.{listing_written, listing_stored, WritesListing}
use Rattle.table.proofs.Offered.{too_many}
use Rattle.listing.proofs.Laws.Lent.{not_written}
use Rattle.listing.proofs.Laws.Front.{front_live, front_listing}
use Rattle.listing.proofs.writing.write_listing.Goals as goal

module _ (ws : List (List ℕ)) (issued : ℕ) (out : List ℕ) where
  writes : (k : ℕ) → Front (rows_in ws) (length ws) k → in_order (rows_in ws) issued ≡ true → {after : List ℕ} {r : Result ℕ Refusal} → Writes true (listed (first_rows ws k) issued) out after r
      → WritesListing (rows_in ws) issued out after r
  unfolding listing_written listing_stored
  writes k f h w =
      let same : listed (first_rows ws k) issued ≡ listing (rows_in ws) issued = sym (front_listing ws (length ws) k refl f issued h) in
      record {
        answer = w.answer ∙ ap (λ (s : List ℕ). written true s out) same ∙ sym (rw h);
        buffer = w.buffer ∙ ap (λ (s : List ℕ). stored true s out) same ∙ sym (rw h);
      }

pub returns-then-n-gt1024 : goal.returns-then-n-gt1024
returns-then-n-gt1024 c =
    let a = c.args in
    not_written (rows_in a.table.now) a.issued a.out.now (too_many a.table.now a.issued c.if-n-gt1024.true)

pub returns-then-not-in_order : goal.returns-then-not-in_order
returns-then-not-in_order c =
    let a = c.args in
    not_written (rows_in a.table.now) a.issued a.out.now (sym c.in_order.ensures ∙ not-true c.in_order.result c.if-not-in_order.true-raw)

pub write_rows-requires : goal.write_rows-requires
write_rows-requires c =
    let a = c.args in
    (omega (arith, c.live_count-live.ensures.fits, c.if-n-gt1024.false), front_live a.table.now (length a.table.now) c.live_count-live.result refl c.live_count-live.ensures a.issued (sym c.in_order.ensures ∙ not-false c.in_order.result c.if-not-in_order.false-raw), c.live_count-live.ensures.fits)

pub returns : goal.returns
returns c =
    let a = c.args in
    writes a.table.now a.issued a.out.now c.live_count-live.result c.live_count-live.ensures (sym c.in_order.ensures ∙ not-false c.in_order.result c.if-not-in_order.false-raw) c.write_rows.ensures
