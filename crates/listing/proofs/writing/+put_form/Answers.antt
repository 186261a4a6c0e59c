use mathlib.Core.Path.{◌≡◌, sym, ◌∙◌, subst}
use Prim.Native.Nat.{ℕ, ◌+◌, ◌-◌, ◌<◌}
use mathlib.Core.List.{List}
use native.Mathlib.Omega.{arith}
use lib.ListN.{get_or, set, length-set}
use Rattle.model.specs.declared.Cap.{Cap}
use Rattle.model.specs.Table.{empty_row}
use Rattle.table.specs.Words.{rows_in}
use Rattle.text.specs.Put.{Put, Room}
use Rattle.text.proofs.Offered.{put_length}
use Rattle.listing.specs.First.{first_rows}
use Rattle.listing.specs.Listing.{pieces}
use Rattle.listing.proofs.Laws.First.{first_at}
use Rattle.listing.proofs.Laws.Listing.{within, beyond}
use Rattle.listing.proofs.Laws.Forms.{bracket_room, pieces_fit, entered, space_fits, child_fits, passed, bracket_fits, closed, formed}
use Rattle.listing.proofs.writing.+put_form.Goals as goal

-- the pieces that were put are those of row i
placed : (ws : List (List ℕ)) (n i : ℕ) → i < n → {out a : List ℕ} {at h : ℕ} {c : Cap} → c ≡ get_or (rows_in ws) i empty_row → Put out at (pieces c) a h → Put out at (pieces (get_or (first_rows ws n) i empty_row)) a h
placed ws n i l {out} {a} {at} {h} e p = subst (λ (d : Cap). Put out at (pieces d) a h) (e ∙ sym (first_at ws n i l)) p

pub bounds-out-at : goal.bounds-out-at
bounds-out-at t c =
    bracket_room (first_rows c.args.table.now c.args.n) c.args.i c.args.out.now c.args.at c.requires.3

pub put_pieces-here-requires : goal.put_pieces-here-requires
put_pieces-here-requires t c =
    let e : get_or (first_rows c.args.table.now c.args.n) c.args.i empty_row ≡ c.row_at.result = first_at c.args.table.now c.args.n c.args.i c.requires.1 ∙ sym c.row_at.ensures in
    subst (λ (d : Cap). Room (set c.args.out.now c.args.at 40) (c.args.at + 1) (pieces d)) e (pieces_fit (first_rows c.args.table.now c.args.n) c.args.i c.args.out.now c.args.at c.requires.3)

pub loop-k-init : goal.loop-k-init
loop-k-init t c =
    entered (first_rows c.args.table.now c.args.n) c.args.i c.args.out.now c.args.at c.args.first.now c.args.next.now c.requires.2 (within c.args.table.now c.args.n c.args.i c.requires.4 c.requires.1) (placed c.args.table.now c.args.n c.args.i c.requires.1 c.row_at.ensures c.put_pieces-here.ensures) c.requires.3

pub bounds-out-here : goal.bounds-out-here
bounds-out-here t c =
    space_fits (first_rows c.args.table.now c.args.n) c.args.i c.loop-k.invariant (within c.args.table.now c.args.n c.loop-k.k c.requires.4 c.loop-k-test.true)

pub overflow_add-here : goal.overflow_add-here
overflow_add-here t c =
    let h = space_fits (first_rows c.args.table.now c.args.n) c.args.i c.loop-k.invariant (within c.args.table.now c.args.n c.loop-k.k c.requires.4 c.loop-k-test.true) in
    let same = c.loop-k.invariant.rest.kept in
    omega (arith, c.well_formed.1.1.1.1.1.0.0, put_length c.put_pieces-here.ensures, length-set c.args.out.now c.args.at 40)

pub put_form-here-requires : goal.put_form-here-requires
put_form-here-requires t c =
    let is-t : c.args.n - c.args.i ≡ t = c.decreases in
    let less : c.args.n - c.loop-k.k < t = omega (arith, c.loop-k.invariant.after, c.loop-k-test.true) in
    (less, (c.requires.0, c.loop-k-test.true, c.requires.2, simp length-set (child_fits (first_rows c.args.table.now c.args.n) c.args.i c.loop-k.invariant (within c.args.table.now c.args.n c.loop-k.k c.requires.4 c.loop-k-test.true)), c.requires.4))

pub loop-k-smaller : goal.loop-k-smaller
loop-k-smaller t c =
    let n = c.requires.2.siblings c.loop-k.k (within c.args.table.now c.args.n c.loop-k.k c.requires.4 c.loop-k-test.true) in
    omega (arith, n.from, c.loop-k-test.true)

pub loop-k-preserved : goal.loop-k-preserved
loop-k-preserved t c =
    let k = within c.args.table.now c.args.n c.loop-k.k c.requires.4 c.loop-k-test.true in
    passed (first_rows c.args.table.now c.args.n) c.args.i c.loop-k.invariant c.args.next.now (c.requires.2.siblings c.loop-k.k k) k c.put_form-here.ensures

pub bounds-out-here-2 : goal.bounds-out-here-2
bounds-out-here-2 t c =
    bracket_fits (first_rows c.args.table.now c.args.n) c.args.i c.loop-k.invariant (beyond c.args.table.now c.args.n c.loop-k.k c.requires.4 c.loop-k-test.false)

pub overflow_add-result : goal.overflow_add-result
overflow_add-result t c =
    let h = bracket_fits (first_rows c.args.table.now c.args.n) c.args.i c.loop-k.invariant (beyond c.args.table.now c.args.n c.loop-k.k c.requires.4 c.loop-k-test.false) in
    let same = c.loop-k.invariant.rest.kept in
    omega (arith, c.well_formed.1.1.1.1.1.0.0, put_length c.put_pieces-here.ensures, length-set c.args.out.now c.args.at 40)

pub returns : goal.returns
returns t c =
    formed (first_rows c.args.table.now c.args.n) c.args.i c.args.out.now c.args.at c.args.first.now c.args.next.now c.requires.2 (within c.args.table.now c.args.n c.args.i c.requires.4 c.requires.1) (placed c.args.table.now c.args.n c.args.i c.requires.1 c.row_at.ensures c.put_pieces-here.ensures) (closed (first_rows c.args.table.now c.args.n) c.args.i c.loop-k.invariant (beyond c.args.table.now c.args.n c.loop-k.k c.requires.4 c.loop-k-test.false))
