-- `sizes::rounds::one_round` meets its contract. The invariant, `InRound`: the lines taken so far in this round, and those of the other clients, give what the whole round gives.
-- Assumes nothing.
use mathlib.Core.Path.{◌≡◌}
use lib.ListN.{length}
use Rattle.sizes.specs.Taken.{memory}
use Rattle.sizes.proofs.Laws.Rounds.{InRound}
use Rattle.sizes.proofs.rounds.one_round.Given as goal

abbrev pub invariant-loop-client : goal.invariant-loop-client
invariant-loop-client l =
    InRound l.text l.initial.at l.ends l.clients (memory l.initial.table l.initial.bits l.initial.places l.initial.names l.initial.keys l.initial.counts) l.initial.now l.at (memory l.table l.bits l.places l.names l.keys l.counts) l.now l.client × (length l.table ≡ length l.initial.table) × (length l.bits ≡ length l.initial.bits)
