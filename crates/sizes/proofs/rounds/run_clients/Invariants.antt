-- `sizes::rounds::run_clients` meets its contract. The invariant, `InRounds`: the rounds that are left, from what the clients share now, give the report of all. There are as many as the longest rest has lines.
-- Assumes nothing.
use mathlib.Core.Path.{◌≡◌}
use lib.ListN.{length}
use Rattle.sizes.specs.Turns.{longest}
use Rattle.sizes.specs.Taken.{memory}
use Rattle.sizes.specs.Rounds.{lines_from}
use Rattle.sizes.proofs.Laws.Rounds.{InRounds}
use Rattle.sizes.proofs.rounds.run_clients.Given as goal

abbrev pub invariant-loop-at : goal.invariant-loop-at
invariant-loop-at l =
    InRounds l.text l.initial.at l.ends l.clients (memory l.initial.table l.initial.bits l.initial.places l.initial.names l.initial.keys l.initial.counts) l.initial.now l.at (memory l.table l.bits l.places l.names l.keys l.counts) l.now l.line × (length l.table ≡ length l.initial.table) × (length l.bits ≡ length l.initial.bits)

abbrev pub decreases-loop-at : goal.decreases-loop-at
decreases-loop-at l =
    longest (lines_from l.text l.at l.ends 0 l.clients)
