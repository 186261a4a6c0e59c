use mathlib.Core.Path.{◌≡◌, sym, ap, ap₂, ◌∙◌}
use mathlib.Core.Bool.{Bool, true}
use mathlib.Core.List.{List}
use Prim.Native.Nat.{ℕ, ◌+◌, ◌*◌, ◌≤◌, ◌<◌}
use native.Mathlib.Omega.{arith}
use lib.ListN.{length, drop}
use Rattle.listing.specs.Forms.{follows, child_follows}
use Rattle.listing.specs.Stored.{Stored, newest}
use Rattle.listing.proofs.Laws.Stored.{length_newest}
use Rattle.listing.proofs.Laws.Reading.{tail, tail_length, tail_behind, children_short, follows_parts, form_reads, run_begins, run_more, run_ends}
use Rattle.listing.proofs.forms.+read_form_read_run.Goals as goal

-- what a test that a child follows tells, where the last bytes of a text are left
module _ (s : List ℕ) (left : ℕ) where
  at_tail : {ws : List (List ℕ)} {count : ℕ} → Stored ws count → (depth : ℕ) {rest : List ℕ} {b : Bool} → rest ≡ tail s left → b ≡ follows rest count depth → child_follows depth (record { rest = tail s left; rows = newest ws count }) ≡ b
  at_tail st depth e h = ap₂ (λ (t : List ℕ) (n : ℕ). follows t n depth) (sym e) (length_newest st) ∙ sym h

  goes : (count depth : ℕ) → left ≤ length s → {rest : List ℕ} {b : Bool} → rest ≡ tail s left → b ≡ follows rest count depth → b ≡ true → (depth < 64) × (count < 1024) × (0 < left)
  goes count depth inside {rest} e h t =
      let parts = follows_parts rest count depth (sym h ∙ t) in
      (parts.0, parts.1, omega (arith, parts.2, ap length e, tail_length s left inside))

pub read_form-read_run-inner-requires : goal.read_form-read_run-inner-requires
read_form-read_run-inner-requires t c =
    let less : 2 * length c.last-children.result.now < t = omega (arith, c.decreases, children_short c.args.text.now (c.last-children.ensures ∙ c.head_of-head.ensures.2)) in
    (less, c.add_row-stored.ensures.1)

pub read_form-returns : goal.read_form-returns
read_form-returns t c =
    let a = c.args in
    let add = c.add_row-stored.ensures in
    let head = c.head_of-head.ensures in
    let inner = c.read_run-inner.ensures in
    (omega (arith, add.0, inner.0), inner.1, form_reads a.text.now (newest a.table.now a.count) a.parent a.depth head.0 add.2 (c.last-children.ensures ∙ head.2) inner.2 (c.past-rest.ensures ∙ ap (drop 1) c.last.ensures))

pub read_run-loop-left-init : goal.read_run-loop-left-init
read_run-loop-left-init t c =
    (omega arith, c.requires, run_begins c.args.text.now (newest c.args.table.now c.args.count) c.args.parent c.args.depth)

pub read_run-last-requires : goal.read_run-last-requires
read_run-last-requires t c = c.loop-left.invariant.2.inside

pub read_run-last-requires-in-loop-left : goal.read_run-last-requires-in-loop-left
read_run-last-requires-in-loop-left t c = c.loop-left.invariant.2.inside

pub read_run-read_form-read-requires : goal.read_run-read_form-read-requires
read_run-read_form-read-requires t c =
    let parts = goes c.args.text.now c.loop-left.left c.loop-left.stored c.args.depth c.loop-left.invariant.2.inside c.last.ensures c.child_follows.ensures c.loop-left-test.true in
    let less : 2 * length c.past-child.result.now + 1 < t = omega (arith, c.decreases, parts.2, c.loop-left.invariant.2.inside, tail_behind c.args.text.now c.loop-left.left c.loop-left.invariant.2.inside c.last-in-loop-left.ensures c.past-child.ensures) in
    (less, (c.loop-left.invariant.1, parts.1))

pub read_run-loop-left-smaller : goal.read_run-loop-left-smaller
read_run-loop-left-smaller t c =
    let parts = goes c.args.text.now c.loop-left.left c.loop-left.stored c.args.depth c.loop-left.invariant.2.inside c.last.ensures c.child_follows.ensures c.loop-left-test.true in
    omega (arith, parts.2, c.read_form-read.ensures.2.inside, tail_behind c.args.text.now c.loop-left.left c.loop-left.invariant.2.inside c.last-in-loop-left.ensures c.past-child.ensures)

pub read_run-loop-left-preserved : goal.read_run-loop-left-preserved
read_run-loop-left-preserved t c =
    let one = c.read_form-read.ensures in
    let parts = goes c.args.text.now c.loop-left.left c.loop-left.stored c.args.depth c.loop-left.invariant.2.inside c.last.ensures c.child_follows.ensures c.loop-left-test.true in
    let follow = at_tail c.args.text.now c.loop-left.left c.loop-left.invariant.1 c.args.depth c.last.ensures c.child_follows.ensures ∙ c.loop-left-test.true in
    (omega (arith, one.0, c.loop-left.invariant.0), one.1, run_more c.args.text.now (newest c.args.table.now c.args.count) c.args.parent c.args.depth c.loop-left.invariant.2 follow parts.2 c.last-in-loop-left.ensures c.past-child.ensures one.2)

pub read_run-returns : goal.read_run-returns
read_run-returns t c =
    let none = at_tail c.args.text.now c.loop-left.left c.loop-left.invariant.1 c.args.depth c.last.ensures c.child_follows.ensures ∙ c.loop-left-test.false in
    (c.loop-left.invariant.0, c.loop-left.invariant.1, run_ends c.args.text.now (newest c.args.table.now c.args.count) c.args.parent c.args.depth c.loop-left.invariant.2 none)
