-- `put_span` meets its contract: the span's addresses at once, or those before its whole bytes, of these, and behind them.
-- Assumes nothing.
use mathlib.Core.Path.{sym, ap, ◌∙◌}
use Prim.Native.Nat.{◌+◌, ◌-◌, ◌*◌, ◌/◌}
use native.Mathlib.Omega.{arith}
use Rattle.model.specs.Bits.{put_from}
use Rattle.table.proofs.Laws.Bits.{put_none, put_thirds}
use Rattle.table.proofs.bits.put_span.Goals as goal

pub returns-then-to-from : goal.returns-then-to-from
returns-then-to-from c =
    let s = c.args in
    let e = ap (λ n. n - s.s.start.0) c.low_end-to.ensures in
    rw (← e) (sym (put_none s.v s.s.start.0 c.low_end-to.result s.bits.now c.if-to-from.true))

pub returns-then-last-first : goal.returns-then-last-first
returns-then-last-first c =
    let e = ap (λ n. n - c.args.s.start.0) c.low_end-to.ensures in
    rw (← e) c.put_some.ensures

pub returns : goal.returns
returns c =
    let s = c.args in
    let from = s.s.start.0 in
    let to = c.low_end-to.result in
    let e = ap (λ n. n - from) c.low_end-to.ensures in
    rw (← e)
    (c.put_some-3.ensures
    ∙ ap (put_from s.v (to / 8 * 8) (to - to / 8 * 8)) (c.put_bytes.ensures ∙ ap (put_from s.v ((from + 7) / 8 * 8) ((to / 8 - (from + 7) / 8) * 8)) c.put_some-2.ensures)
    ∙ sym (put_thirds s.v from ((from + 7) / 8) (to / 8) to s.bits.now (omega arith) c.if-last-first.false (omega arith)))
