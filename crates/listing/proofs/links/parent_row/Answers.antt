-- `listing::links::parent_row` meets its contract: behind the last row stands the name 0, and any other parent is found.
-- Assumes nothing.
use mathlib.Core.Path.{◌≡◌, refl, sym, ap, ◌∙◌}
use mathlib.Core.Bool.{Bool, true, false}
use mathlib.Core.List.{List}
use Prim.Native.Nat.{ℕ, ◌≤◌, ◌<◌}
use native.Mathlib.Omega.{arith}
use lib.Dec.{ltb}
use lib.ListN.{length, get_or, get_or-eq_default}
use borrow.Author.Tests.{ltb-true, ltb-false}
use Rattle.model.specs.declared.Cap.{Cap}
use Rattle.model.specs.Table.{empty_row}
use Rattle.table.specs.Words.{rows_in}
use Rattle.listing.specs.First.{first_rows}
use Rattle.table.specs.Rows.{name_at, parent_at, Found}
use Rattle.listing.proofs.Laws.First.{length_first, first_at}
use Rattle.table.proofs.Offered.{named_none}
use Rattle.listing.proofs.Laws.Sorted.{InOrder}
use Rattle.listing.proofs.Laws.Live.{live_order, rise_in, parent_earlier}
use Rattle.listing.proofs.links.parent_row.Goals as goal

module _ (ws : List (List ℕ)) (n i : ℕ) (inside : n ≤ length ws) (l : i < n) where
  abbrev rows : List Cap
  rows = first_rows ws n

  parent_is : {c : Cap} → c ≡ get_or (rows_in ws) i empty_row → parent_at rows i ≡ c.parent.0
  parent_is e = ap (λ (d : Cap). d.parent.0) (first_at ws n i l ∙ sym e)

  name_in : (j : ℕ) → j < n → name_at rows j ≡ name_at (rows_in ws) j
  name_in j h = ap (λ (d : Cap). d.name.0) (first_at ws n j h)

  root : parent_at rows i ≡ 0 → name_at rows n ≡ parent_at rows i
  root z = ap (λ (d : Cap). d.name.0) (get_or-eq_default rows empty_row (omega (arith, length_first ws n inside))) ∙ sym z

  child : InOrder rows → (x r : ℕ) → parent_at rows i ≡ x → (x ≡ 0 → ⊥) → Found (rows_in ws) n x r → (r ≤ n) × (name_at rows r ≡ parent_at rows i)
  child order x r is some f =
      let j = parent_earlier rows order i (omega (arith, length_first ws n inside)) (λ z. some (sym is ∙ z)) in
      (f.fits, go (ltb r n) refl j)
    where
      go : (t : Bool) → ltb r n ≡ t → (j : ℕ) × ((j < i) × (name_at rows j ≡ parent_at rows i)) → name_at rows r ≡ parent_at rows i
      go true h j = let lt = ltb-true r n h in name_in r lt ∙ f.here lt ∙ sym is
      go false h j =
          let lt : j.0 < n = omega (arith, j.1.0) in
          absurd (named_none (rows_in ws) n x (f.gone (ltb-false r n h)) j.0 lt (sym (name_in j.0 lt) ∙ j.1.1 ∙ is))

pub returns-then-parent-eq0 : goal.returns-then-parent-eq0
returns-then-parent-eq0 c =
    let w = c.args.table.now in
    (omega arith, root w c.args.n c.args.i c.requires.4 c.requires.0 (parent_is w c.args.n c.args.i c.requires.4 c.requires.0 c.row_at-parent.ensures ∙ c.if-parent-eq0.true))

pub find_near-requires : goal.find_near-requires
find_near-requires c =
    (c.requires.1, rise_in c.args.table.now c.args.n c.requires.4 (live_order c.requires.2))

pub returns : goal.returns
returns c =
    let w = c.args.table.now in
    child w c.args.n c.args.i c.requires.4 c.requires.0 (live_order c.requires.2) _ c.find_near.result (parent_is w c.args.n c.args.i c.requires.4 c.requires.0 c.row_at-parent.ensures) c.if-parent-eq0.false c.find_near.ensures
