use mathlib.Core.Path.{subst}
use Prim.Native.Nat.{ℕ}
use native.Mathlib.Omega.{arith}
use lib.ListN.{get_or}
use Rattle.listing.specs.First.{first_rows}
use Rattle.listing.proofs.Laws.First.{length_first}
use Rattle.text.proofs.Offered.{put_length}
use Rattle.listing.proofs.Laws.Listing.{within, beyond}
use Rattle.listing.proofs.Laws.Forms.{Lines, first_line, line_fits, newline_fits, next_line_lem, all_lines}
use Rattle.listing.proofs.writing.put_roots.Goals as goal

pub loop-k-init : goal.loop-k-init
loop-k-init c =
    subst (λ (m : ℕ). Lines (first_rows c.args.table.now c.args.n) c.args.out.now c.args.at c.args.out.now c.args.at (get_or c.args.first.now m 0)) (length_first c.args.table.now c.args.n c.requires.3) (first_line (first_rows c.args.table.now c.args.n) c.args.out.now c.args.at c.args.first.now c.args.next.now c.requires.1)

pub put_form-here-requires : goal.put_form-here-requires
put_form-here-requires c =
    (c.requires.0, c.loop-k-test.true, c.requires.1, line_fits (first_rows c.args.table.now c.args.n) c.args.out.now c.args.at c.args.first.now c.args.next.now c.requires.1 c.loop-k.invariant (within c.args.table.now c.args.n c.loop-k.k c.requires.3 c.loop-k-test.true) c.requires.2, c.requires.3)

pub bounds-out-here : goal.bounds-out-here
bounds-out-here c =
    newline_fits (first_rows c.args.table.now c.args.n) c.args.out.now c.args.at c.args.first.now c.args.next.now c.requires.1 c.loop-k.invariant (within c.args.table.now c.args.n c.loop-k.k c.requires.3 c.loop-k-test.true) c.put_form-here.ensures c.requires.2

pub overflow_add-here : goal.overflow_add-here
overflow_add-here c =
    let h = newline_fits (first_rows c.args.table.now c.args.n) c.args.out.now c.args.at c.args.first.now c.args.next.now c.requires.1 c.loop-k.invariant (within c.args.table.now c.args.n c.loop-k.k c.requires.3 c.loop-k-test.true) c.put_form-here.ensures c.requires.2 in
    omega (arith, h, c.well_formed.1.1.1.1.0.0, put_length c.put_form-here.ensures, c.loop-k.invariant.rest.kept)

pub loop-k-smaller : goal.loop-k-smaller
loop-k-smaller c =
    let n = c.requires.1.siblings c.loop-k.k (within c.args.table.now c.args.n c.loop-k.k c.requires.3 c.loop-k-test.true) in
    omega (arith, n.from, c.loop-k-test.true)

pub loop-k-preserved : goal.loop-k-preserved
loop-k-preserved c =
    next_line_lem (first_rows c.args.table.now c.args.n) c.args.out.now c.args.at c.args.first.now c.args.next.now c.requires.1 c.loop-k.invariant (within c.args.table.now c.args.n c.loop-k.k c.requires.3 c.loop-k-test.true) c.put_form-here.ensures

pub shape_of-out : goal.shape_of-out
shape_of-out c =
    put_length (all_lines (first_rows c.args.table.now c.args.n) c.args.out.now c.args.at c.args.first.now c.args.next.now c.requires.1 c.loop-k.invariant (beyond c.args.table.now c.args.n c.loop-k.k c.requires.3 c.loop-k-test.false))

pub returns : goal.returns
returns c =
    all_lines (first_rows c.args.table.now c.args.n) c.args.out.now c.args.at c.args.first.now c.args.next.now c.requires.1 c.loop-k.invariant (beyond c.args.table.now c.args.n c.loop-k.k c.requires.3 c.loop-k-test.false)
