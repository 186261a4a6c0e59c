-- `listing::reading::is_listing` meets its contract: the rows are judged, and their listing is compared with the text.
-- Assumes nothing.
use mathlib.Core.Path.{◌≡◌, refl, sym, ap, ◌∙◌}
use mathlib.Core.Logic.{inl, inr}
use mathlib.Core.Bool.{true, false}
use mathlib.Core.List.{List}
use Prim.Native.Nat.{ℕ, ◌≤◌}
use native.Mathlib.Omega.{arith}
use lib.ListN.{length, length-replicate}
use borrow.Author.Tests.{not-true, not-false}
use Rattle.model.specs.Table.{in_order}
use Rattle.table.specs.Words.{rows_in}
use Rattle.listing.specs.First.{first_rows}
use Rattle.table.specs.Rows.{Front}
use Rattle.text.specs.Read.{same}
use Rattle.listing.specs.Links.{Live}
use Rattle.listing.specs.Listing.{listed}
use Rattle.listing.specs.ReadListing.{is_listing}
use Rattle.listing.proofs.Laws.Front.{order, front_live, front_listing}
use Rattle.listing.proofs.reading.is_listing.Goals as goal

module _ (s : List ℕ) (ws : List (List ℕ)) (issued : ℕ) where
  -- a table that is not in order, and one that is
  disordered : in_order (rows_in ws) issued ≡ false → false ≡ is_listing s (rows_in ws) issued
  unfolding is_listing
  disordered h = sym (rw h)

  module _ (k : ℕ) (f : Front (rows_in ws) (length ws) k) (h : in_order (rows_in ws) issued ≡ true) where
    compared : is_listing s (rows_in ws) issued ≡ same s (listed (first_rows ws k) issued)
    unfolding is_listing
    compared = rw h (ap (same s) (front_listing ws (length ws) k refl f issued h))

pub returns-then-not-in_order : goal.returns-then-not-in_order
returns-then-not-in_order c =
    let a = c.args in
    disordered a.text.now a.table.now a.issued (sym c.in_order.ensures ∙ not-true c.in_order.result c.if-not-in_order.true-raw)

pub writes_back-requires : goal.writes_back-requires
writes_back-requires c =
    let is-ordered : in_order (rows_in c.args.table.now) c.args.issued ≡ true = sym c.in_order.ensures ∙ not-false c.in_order.result c.if-not-in_order.false-raw in
    let few : c.live_count-live.result ≤ 1024 = omega (arith, c.live_count-live.ensures.fits, c.requires) in
    let inside : c.live_count-live.result ≤ length c.args.table.now = c.live_count-live.ensures.fits in
    let names : c.args.issued ≤ 1000000 = (order is-ordered).names in
    let live : Live (first_rows c.args.table.now c.live_count-live.result) = front_live c.args.table.now (length c.args.table.now) c.live_count-live.result refl c.live_count-live.ensures c.args.issued is-ordered in
    (few, live, inl (omega (arith, c.if-text-le2048.true, length-replicate {A = ℕ} 2048 0)), inside, names)

pub returns-then-text-le2048 : goal.returns-then-text-le2048
returns-then-text-le2048 c =
    let is-ordered : in_order (rows_in c.args.table.now) c.args.issued ≡ true = sym c.in_order.ensures ∙ not-false c.in_order.result c.if-not-in_order.false-raw in
    let same-listing : is_listing c.args.text.now (rows_in c.args.table.now) c.args.issued ≡ same c.args.text.now (listed (first_rows c.args.table.now c.live_count-live.result) c.args.issued) = compared c.args.text.now c.args.table.now c.args.issued c.live_count-live.result c.live_count-live.ensures is-ordered in
    c.writes_back.ensures ∙ sym same-listing

pub writes_back-requires-2 : goal.writes_back-requires-2
writes_back-requires-2 c =
    let is-ordered : in_order (rows_in c.args.table.now) c.args.issued ≡ true = sym c.in_order.ensures ∙ not-false c.in_order.result c.if-not-in_order.false-raw in
    let few : c.live_count-live.result ≤ 1024 = omega (arith, c.live_count-live.ensures.fits, c.requires) in
    let inside : c.live_count-live.result ≤ length c.args.table.now = c.live_count-live.ensures.fits in
    let names : c.args.issued ≤ 1000000 = (order is-ordered).names in
    let live : Live (first_rows c.args.table.now c.live_count-live.result) = front_live c.args.table.now (length c.args.table.now) c.live_count-live.result refl c.live_count-live.ensures c.args.issued is-ordered in
    (few, live, inr (omega (arith, length-replicate {A = ℕ} 60429 0)), inside, names)

pub returns : goal.returns
returns c =
    let is-ordered : in_order (rows_in c.args.table.now) c.args.issued ≡ true = sym c.in_order.ensures ∙ not-false c.in_order.result c.if-not-in_order.false-raw in
    let same-listing : is_listing c.args.text.now (rows_in c.args.table.now) c.args.issued ≡ same c.args.text.now (listed (first_rows c.args.table.now c.live_count-live.result) c.args.issued) = compared c.args.text.now c.args.table.now c.args.issued c.live_count-live.result c.live_count-live.ensures is-ordered in
    c.writes_back-2.ensures ∙ sym same-listing
