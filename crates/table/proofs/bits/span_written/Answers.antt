-- `span_written` meets its contract: the span's addresses at once, or those before its whole bytes, of these, and behind them.
-- Assumes nothing.
use mathlib.Core.Path.{◌≡◌, sym, ap, ◌∙◌}
use Prim.Native.Nat.{◌+◌, ◌-◌, ◌/◌}
use native.Mathlib.Omega.{arith}
use borrow.Author.Tests.{not-true, not-false}
use Rattle.model.specs.Bits.{bit_at, all_written}
use Rattle.table.proofs.Laws.Bits.{all_thirds}
use Rattle.table.proofs.bits.span_written.Goals as goal

pub returns-then-last-first : goal.returns-then-last-first
returns-then-last-first c =
    let s = c.args in
    let to = c.end-to.result in
    let n : to - s.s.start.0 ≡ s.s.length = omega (arith, c.end-to.ensures) in
    c.some_written.ensures ∙ ap (all_written (bit_at s.bits.now) s.s.start.0) n

pub returns-then-not-some_written : goal.returns-then-not-some_written
returns-then-not-some_written c =
    let s = c.args in
    let f = bit_at s.bits.now in
    let from = s.s.start.0 in
    let to = c.end-to.result in
    let n : s.s.length ≡ to - from = omega (arith, c.end-to.ensures) in
    let a = sym c.some_written-2.ensures ∙ not-true c.some_written-2.result c.if-not-some_written.true-raw in
    sym (ap (all_written f from) n ∙ all_thirds f from ((from + 7) / 8) (to / 8) to (omega arith) c.if-last-first.false (omega arith) ∙ rw a)

pub returns-then-not-bytes_written : goal.returns-then-not-bytes_written
returns-then-not-bytes_written c =
    let s = c.args in
    let f = bit_at s.bits.now in
    let from = s.s.start.0 in
    let to = c.end-to.result in
    let n : s.s.length ≡ to - from = omega (arith, c.end-to.ensures) in
    let a = sym c.some_written-2.ensures ∙ not-false c.some_written-2.result c.if-not-some_written.false-raw in
    let b = sym c.bytes_written.ensures ∙ not-true c.bytes_written.result c.if-not-bytes_written.true-raw in
    sym (ap (all_written f from) n ∙ all_thirds f from ((from + 7) / 8) (to / 8) to (omega arith) c.if-last-first.false (omega arith) ∙ rw (a, b))

pub returns : goal.returns
returns c =
    let s = c.args in
    let f = bit_at s.bits.now in
    let from = s.s.start.0 in
    let to = c.end-to.result in
    let n : s.s.length ≡ to - from = omega (arith, c.end-to.ensures) in
    let a = sym c.some_written-2.ensures ∙ not-false c.some_written-2.result c.if-not-some_written.false-raw in
    let b = sym c.bytes_written.ensures ∙ not-false c.bytes_written.result c.if-not-bytes_written.false-raw in
    c.some_written-3.ensures ∙ sym (ap (all_written f from) n ∙ all_thirds f from ((from + 7) / 8) (to / 8) to (omega arith) c.if-last-first.false (omega arith) ∙ rw (a, b))
