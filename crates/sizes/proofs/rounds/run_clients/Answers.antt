use mathlib.Core.Path.{refl, subst, ◌∙◌}
use mathlib.Core.Bool.{true}
use native.Mathlib.Omega.{arith}
use Rattle.sizes.specs.Taken.{memory}
use Rattle.sizes.specs.Rounds.{Left}
use Rattle.sizes.proofs.Laws.Rounds.{in_rounds_none, in_rounds_stops, in_rounds_less, in_rounds_more, in_rounds_all, line_few}
use Rattle.sizes.proofs.rounds.run_clients.Goals as goal

pub loop-at-init : goal.loop-at-init
loop-at-init c = (in_rounds_none c.args.text.now c.args.at.now c.args.ends.now c.args.clients c.requires.1 (memory c.args.table.now c.args.bits.now c.args.places.now c.args.names.now c.args.keys.now c.args.counts.now) c.args.from c.requires.2, refl, refl)

pub is_left-requires : goal.is_left-requires
is_left-requires c = c.requires.1

pub one_round-round-requires : goal.one_round-round-requires
one_round-round-requires c =
    let so = c.loop-at.invariant.0 in
    let g = so.each c.requires.0.shared c.requires.0.holds in
    (record { shared = g.shared; holds = g.holds }, c.requires.1, so.places)

pub shape_of-table-in-Err : goal.shape_of-table-in-Err
shape_of-table-in-Err c = c.table-1.given ∙ c.loop-at.invariant.1

pub shape_of-bits-in-Err : goal.shape_of-bits-in-Err
shape_of-bits-in-Err c = c.bits-1.given ∙ c.loop-at.invariant.2

pub returns-in-Err : goal.returns-in-Err
returns-in-Err c =
    let a = c.args in
    let so = c.loop-at.invariant.0 in
    let m₀ = (memory c.args.table.now c.args.bits.now c.args.places.now c.args.names.now c.args.keys.now c.args.counts.now) in
    let m = (memory c.loop-at.table c.loop-at.bits c.loop-at.places c.loop-at.names c.loop-at.keys c.loop-at.counts) in
    let some : Left c.loop-at.at a.ends.now a.clients true = subst (Left c.loop-at.at a.ends.now a.clients) c.loop-at-test.true c.is_left.ensures in
    let m' = (memory c.one_round-round.new.table c.one_round-round.new.bits c.one_round-round.new.places c.one_round-round.new.names c.one_round-round.new.keys c.one_round-round.new.counts) in
    in_rounds_stops a.text.now a.at.now a.ends.now a.clients c.requires.1 m₀ a.from c.loop-at.at m c.loop-at.now c.loop-at.line so some c.one_round-round.new.at m' c.one_round-round.result.answer c.one_round-round.result.client c.one_round-round.result.standing c.one_round-round.ensures.1 c.in-Err.refusal c.in-Err.is

pub overflow_add-line : goal.overflow_add-line
overflow_add-line c =
    let a = c.args in
    let so = c.loop-at.invariant.0 in
    let m₀ = (memory c.args.table.now c.args.bits.now c.args.places.now c.args.names.now c.args.keys.now c.args.counts.now) in
    let m = (memory c.loop-at.table c.loop-at.bits c.loop-at.places c.loop-at.names c.loop-at.keys c.loop-at.counts) in
    let some : Left c.loop-at.at a.ends.now a.clients true = subst (Left c.loop-at.at a.ends.now a.clients) c.loop-at-test.true c.is_left.ensures in
    omega (arith, c.well_formed, line_few a.text.now a.at.now a.ends.now a.clients c.requires.1 m₀ a.from c.loop-at.at m c.loop-at.now c.loop-at.line so some)

pub loop-at-smaller : goal.loop-at-smaller
loop-at-smaller c =
    let a = c.args in
    let so = c.loop-at.invariant.0 in
    let m₀ = (memory c.args.table.now c.args.bits.now c.args.places.now c.args.names.now c.args.keys.now c.args.counts.now) in
    let m = (memory c.loop-at.table c.loop-at.bits c.loop-at.places c.loop-at.names c.loop-at.keys c.loop-at.counts) in
    let some : Left c.loop-at.at a.ends.now a.clients true = subst (Left c.loop-at.at a.ends.now a.clients) c.loop-at-test.true c.is_left.ensures in
    let m' = (memory c.one_round-round.new.table c.one_round-round.new.bits c.one_round-round.new.places c.one_round-round.new.names c.one_round-round.new.keys c.one_round-round.new.counts) in
    in_rounds_less a.text.now a.at.now a.ends.now a.clients c.requires.1 m₀ a.from c.loop-at.at m c.loop-at.now c.loop-at.line so some c.one_round-round.new.at m' c.one_round-round.result.answer c.one_round-round.result.client c.one_round-round.result.standing c.one_round-round.ensures.1 c.in_default.field-0 c.in_default.is (c.one_round-round.ensures.0 c.in_default.field-0 c.in_default.is)

pub loop-at-preserved : goal.loop-at-preserved
loop-at-preserved c =
    let a = c.args in
    let so = c.loop-at.invariant.0 in
    let m₀ = (memory c.args.table.now c.args.bits.now c.args.places.now c.args.names.now c.args.keys.now c.args.counts.now) in
    let m = (memory c.loop-at.table c.loop-at.bits c.loop-at.places c.loop-at.names c.loop-at.keys c.loop-at.counts) in
    let some : Left c.loop-at.at a.ends.now a.clients true = subst (Left c.loop-at.at a.ends.now a.clients) c.loop-at-test.true c.is_left.ensures in
    let m' = (memory c.one_round-round.new.table c.one_round-round.new.bits c.one_round-round.new.places c.one_round-round.new.names c.one_round-round.new.keys c.one_round-round.new.counts) in
    (in_rounds_more a.text.now a.at.now a.ends.now a.clients c.requires.1 m₀ a.from c.loop-at.at m c.loop-at.now c.loop-at.line so some c.one_round-round.new.at m' c.one_round-round.result.answer c.one_round-round.result.client c.one_round-round.result.standing c.one_round-round.ensures.1 c.in_default.field-0 c.in_default.is (c.one_round-round.ensures.0 c.in_default.field-0 c.in_default.is), c.table-1.given ∙ c.loop-at.invariant.1, c.bits-1.given ∙ c.loop-at.invariant.2)

pub shape_of-table : goal.shape_of-table
shape_of-table c = c.loop-at.invariant.1

pub shape_of-bits : goal.shape_of-bits
shape_of-bits c = c.loop-at.invariant.2

pub returns : goal.returns
returns c =
    let a = c.args in
    let so = c.loop-at.invariant.0 in
    let m₀ = (memory c.args.table.now c.args.bits.now c.args.places.now c.args.names.now c.args.keys.now c.args.counts.now) in
    let m = (memory c.loop-at.table c.loop-at.bits c.loop-at.places c.loop-at.names c.loop-at.keys c.loop-at.counts) in
    in_rounds_all a.text.now a.at.now a.ends.now a.clients c.requires.1 m₀ a.from c.loop-at.at m c.loop-at.now c.loop-at.line so (subst (Left c.loop-at.at a.ends.now a.clients) c.loop-at-test.false c.is_left.ensures)
