use mathlib.Core.Path.{refl, ◌∙◌}
use mathlib.Core.List.{[]}
use native.Mathlib.Omega.{arith}
use Rattle.sizes.specs.Taken.{memory}
use Rattle.sizes.proofs.Laws.Rounds.{refused_allowed, in_round_none, in_round_more, in_round_stops, round_advanced, round_runs}
use Rattle.sizes.proofs.rounds.one_round.Goals as goal

pub loop-client-init : goal.loop-client-init
loop-client-init c = (in_round_none c.args.text.now c.args.at.now c.args.ends.now c.args.clients (memory c.args.table.now c.args.bits.now c.args.places.now c.args.names.now c.args.keys.now c.args.counts.now) c.args.from c.requires.2, refl, refl)

pub take_turn-turned-requires : goal.take_turn-turned-requires
take_turn-turned-requires c =
    let so = c.loop-client.invariant.0 in
    let g = so.each c.requires.0.shared 1 [] c.requires.0.holds in
    let l = c.loop-client-test.true in
    (record { shared = g.shared; holds = g.holds }, omega (arith, c.requires.1), so.places.long, so.places.rising c.loop-client.client l, so.places.inside c.loop-client.client l)

pub returns-in-Err : goal.returns-in-Err
returns-in-Err c =
    let a = c.args in
    let so = c.loop-client.invariant.0 in
    let m₀ = (memory c.args.table.now c.args.bits.now c.args.places.now c.args.names.now c.args.keys.now c.args.counts.now) in
    let m = (memory c.loop-client.table c.loop-client.bits c.loop-client.places c.loop-client.names c.loop-client.keys c.loop-client.counts) in
    let m' = (memory c.take_turn-turned.new.table c.take_turn-turned.new.bits c.take_turn-turned.new.places c.take_turn-turned.new.names c.take_turn-turned.new.keys c.take_turn-turned.new.counts) in
    (λ x e. refused_allowed e refl, in_round_stops a.text.now a.at.now a.ends.now a.clients m₀ a.from c.loop-client.at m c.loop-client.now c.loop-client.client so c.loop-client-test.true c.take_turn-turned.new.at m' c.take_turn-turned.result.answer c.take_turn-turned.result.standing c.take_turn-turned.ensures.1 c.in-Err.refusal c.in-Err.is)

pub loop-client-preserved : goal.loop-client-preserved
loop-client-preserved c =
    let a = c.args in
    let so = c.loop-client.invariant.0 in
    let m₀ = (memory c.args.table.now c.args.bits.now c.args.places.now c.args.names.now c.args.keys.now c.args.counts.now) in
    let m = (memory c.loop-client.table c.loop-client.bits c.loop-client.places c.loop-client.names c.loop-client.keys c.loop-client.counts) in
    let m' = (memory c.take_turn-turned.new.table c.take_turn-turned.new.bits c.take_turn-turned.new.places c.take_turn-turned.new.names c.take_turn-turned.new.keys c.take_turn-turned.new.counts) in
    (in_round_more a.text.now a.at.now a.ends.now a.clients m₀ a.from c.loop-client.at m c.loop-client.now c.loop-client.client so c.loop-client-test.true c.take_turn-turned.new.at m' c.take_turn-turned.result.answer c.take_turn-turned.result.standing c.take_turn-turned.ensures.1 c.take_turn-turned.ensures.0 c.in_default.field-0 c.in_default.is, c.table-1.given ∙ c.loop-client.invariant.1, c.bits-1.given ∙ c.loop-client.invariant.2)

pub returns : goal.returns
returns c =
    let a = c.args in
    let so = c.loop-client.invariant.0 in
    let m₀ = (memory c.args.table.now c.args.bits.now c.args.places.now c.args.names.now c.args.keys.now c.args.counts.now) in
    let m = (memory c.loop-client.table c.loop-client.bits c.loop-client.places c.loop-client.names c.loop-client.keys c.loop-client.counts) in (
      λ x e. round_advanced a.text.now a.at.now a.ends.now a.clients m₀ a.from c.loop-client.at m c.loop-client.now c.loop-client.client so c.loop-client-test.false,
      round_runs a.text.now a.at.now a.ends.now a.clients m₀ a.from c.loop-client.at m c.loop-client.now c.loop-client.client so c.loop-client-test.false _,
    )
