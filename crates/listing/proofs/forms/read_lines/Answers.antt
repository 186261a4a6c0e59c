use mathlib.Core.Path.{◌≡◌, sym, ap, subst}
use Prim.Native.Nat.{ℕ, ◌<◌}
use native.Mathlib.Omega.{arith}
use lib.ListN.{length}
use Rattle.listing.proofs.Laws.Reading.{tail_length}
use Rattle.listing.proofs.Laws.Roots.{Left, all_left, line_read, ended, full}
use Rattle.listing.proofs.forms.read_lines.Goals as goal

pub loop-left-init : goal.loop-left-init
loop-left-init c = all_left c.args.text.now c.args.table.now c.requires

pub returns-then-count-ge1024 : goal.returns-then-count-ge1024
returns-then-count-ge1024 c = (c.loop-left.invariant.stored, full c.loop-left.invariant c.if-count-ge1024.true)

pub loop-left-smaller : goal.loop-left-smaller
loop-left-smaller c =
    let some : 0 < c.loop-left.left = c.loop-left-test.true in
    omega (arith, c.saturating_sub-left.ensures, c.read_form-line.ensures.2.inside, ap length c.last.ensures, tail_length c.args.text.now c.loop-left.left c.loop-left.invariant.inside)

pub loop-left-preserved : goal.loop-left-preserved
loop-left-preserved c =
    let read = c.read_form-line.ensures in
    subst (λ (n : ℕ). Left c.args.text.now c.read_form-line.new.table n c.read_form-line.result.count) (sym c.saturating_sub-left.ensures)
    (line_read c.loop-left.invariant c.loop-left-test.true c.if-count-ge1024.false c.last.ensures read.0 read.1 read.2)

pub returns : goal.returns
returns c = let z : c.loop-left.left ≡ 0 = omega (arith, c.loop-left-test.false) in (c.loop-left.invariant.stored, ended c.loop-left.invariant z)
