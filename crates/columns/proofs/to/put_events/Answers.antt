use mathlib.Core.Path.{refl, sym, ◌∙◌}
use mathlib.Core.List.{[]}
use Prim.Native.Nat.{◌+◌}
use native.Mathlib.Omega.{arith}
use lib.ListN.{drop, get_or}
use Rattle.model.specs.Lists.{all}
use Rattle.model.proofs.Offered.{and_both}
use Rattle.columns.specs.Form.{is_event}
use Rattle.columns.specs.Columns.{columns}
use Rattle.columns.proofs.Laws.Words.{bytes_small}
use Rattle.columns.proofs.Laws.Turns.{small_with, all_next, inside}
use Rattle.columns.proofs.Laws.To.{putting, columns_in, columns_next, room_each, places, turn, stored}
use Rattle.columns.proofs.to.put_events.Goals as goal

pub loop-i-init : goal.loop-i-init
loop-i-init c =
    let a = c.args in
    let out = columns a.kinds.now a.names.now a.starts.now a.lengths.now a.rights.now in
    (omega arith, record { names = omega arith; spans = omega arith; rights = omega arith }, c.requires.1, putting out (columns_in a.events.now))

pub overflow_cast-kinds : goal.overflow_cast-kinds
overflow_cast-kinds c =
    let ws = c.args.events.now in
    let i = c.loop-i.i in
    let yes = and_both (is_event (get_or ws i [])) (all is_event (drop (i + 1) ws)) (sym (all_next is_event ws [] i c.loop-i-test.true) ∙ c.loop-i.invariant.2) in
    omega (arith, (bytes_small (get_or ws i []) yes.0).0)

pub bounds-kinds-i : goal.bounds-kinds-i
bounds-kinds-i c =
    let ws = c.args.events.now in
    let i = c.loop-i.i in
    let yes = and_both (is_event (get_or ws i [])) (all is_event (drop (i + 1) ws)) (sym (all_next is_event ws [] i c.loop-i-test.true) ∙ c.loop-i.invariant.2) in
    let a = c.args in
    let out = columns a.kinds.now a.names.now a.starts.now a.lengths.now a.rights.now in
    let f = columns_next ws i c.loop-i-test.true yes.0 in
    inside (rw f.kinds at c.loop-i.invariant.3.kinds) (room_each (columns_in ws) out c.requires.3).0

pub put_below-requires : goal.put_below-requires
put_below-requires c =
    let a = c.args in
    let out = columns a.kinds.now a.names.now a.starts.now a.lengths.now a.rights.now in
    let lent = columns c.loop-i.kinds c.loop-i.names c.loop-i.starts c.loop-i.lengths c.loop-i.rights in
    (places a.events.now out lent c.loop-i.at a.used c.loop-i.i (columns_in (drop c.loop-i.i a.events.now)) c.requires.1 c.requires.2 c.requires.3 c.loop-i.invariant.3).0

pub put_below-requires-in-loop-i : goal.put_below-requires-in-loop-i
put_below-requires-in-loop-i c =
    let a = c.args in
    let out = columns a.kinds.now a.names.now a.starts.now a.lengths.now a.rights.now in
    let lent = columns c.loop-i.kinds c.loop-i.names c.loop-i.starts c.loop-i.lengths c.loop-i.rights in
    (places a.events.now out lent c.loop-i.at a.used c.loop-i.i (columns_in (drop c.loop-i.i a.events.now)) c.requires.1 c.requires.2 c.requires.3 c.loop-i.invariant.3).1

pub put_below-requires-in-loop-i-2 : goal.put_below-requires-in-loop-i-2
put_below-requires-in-loop-i-2 c =
    let a = c.args in
    let out = columns a.kinds.now a.names.now a.starts.now a.lengths.now a.rights.now in
    let lent = columns c.loop-i.kinds c.loop-i.names c.loop-i.starts c.loop-i.lengths c.loop-i.rights in
    (places a.events.now out lent c.loop-i.at a.used c.loop-i.i (columns_in (drop c.loop-i.i a.events.now)) c.requires.1 c.requires.2 c.requires.3 c.loop-i.invariant.3).2

pub overflow_cast-w : goal.overflow_cast-w
overflow_cast-w c =
    let ws = c.args.events.now in
    let i = c.loop-i.i in
    let yes = and_both (is_event (get_or ws i [])) (all is_event (drop (i + 1) ws)) (sym (all_next is_event ws [] i c.loop-i-test.true) ∙ c.loop-i.invariant.2) in
    omega (arith, (bytes_small (get_or ws i []) yes.0).1)

pub put_below-requires-in-loop-i-3 : goal.put_below-requires-in-loop-i-3
put_below-requires-in-loop-i-3 c =
    let a = c.args in
    let out = columns a.kinds.now a.names.now a.starts.now a.lengths.now a.rights.now in
    let lent = columns c.loop-i.kinds c.loop-i.names c.loop-i.starts c.loop-i.lengths c.loop-i.rights in
    (places a.events.now out lent c.loop-i.at a.used c.loop-i.i (columns_in (drop c.loop-i.i a.events.now)) c.requires.1 c.requires.2 c.requires.3 c.loop-i.invariant.3).3

pub loop-i-preserved : goal.loop-i-preserved
loop-i-preserved c =
    let ws = c.args.events.now in
    let i = c.loop-i.i in
    let yes = and_both (is_event (get_or ws i [])) (all is_event (drop (i + 1) ws)) (sym (all_next is_event ws [] i c.loop-i-test.true) ∙ c.loop-i.invariant.2) in
    let f = columns_next ws i c.loop-i-test.true yes.0 in
    (omega (arith, c.loop-i-test.true), small_with (get_or (get_or ws i []) 0 0) c.loop-i.invariant.1 c.with_kind-at.ensures, yes.1, turn (get_or ws i []) ws c.requires.1 c.requires.2 f c.loop-i.invariant.3 refl c.put_below.ensures c.put_below-in-loop-i.ensures c.put_below-in-loop-i-2.ensures c.put_below-in-loop-i-3.ensures c.with_kind-at.ensures)

pub returns : goal.returns
returns c = stored c.args.events.now c.loop-i-test.false c.requires.3 c.loop-i.invariant.3
