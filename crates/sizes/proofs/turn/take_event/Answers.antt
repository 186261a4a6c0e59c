-- `sizes::turn::take_event` meets its contract: what is kept of names, with the new one, is that of what the clients share then.
-- Assumes nothing.
use mathlib.Core.Path.{sym, subst, ◌∙◌}
use Prim.Native.Nat.{ℕ, suc}
use lib.ListN.{length, get_or}
use Rattle.table.specs.Words.{rows_in}
use Rattle.table.proofs.Offered.{orderly_rise}
use Rattle.text.specs.Result.{value}
use Rattle.sizes.specs.Clients.{shared_after}
use Rattle.sizes.specs.Names.{names_with, keys_with, counts_with, used_with}
use Rattle.sizes.specs.Taken.{memory, Holds}
use Rattle.sizes.proofs.Laws.Taken.{live_few, count_few, held, needed, held_kept}
use Rattle.sizes.proofs.turn.take_event.Goals as goal

pub make_room-used-requires : goal.make_room-used-requires
make_room-used-requires c = let hold = c.requires.0.holds in let a = c.args in (live_few hold, orderly_rise (rows_in a.table.now) (length a.table.now) a.from.live a.from.tally.issued hold.fit.known.orderly, hold.listed, hold.keyed.room)

pub ask-asked-requires : goal.ask-asked-requires
ask-asked-requires c = (record { shared = c.requires.0.shared; holds = held_kept c.requires.0.holds c.make_room-used.ensures.0 }, c.requires.1)

pub give-more-requires : goal.give-more-requires
give-more-requires c = (c.make_room-used.ensures.1, c.requires.1, count_few c.requires.0.holds c.args.client c.requires.1)

pub returns : goal.returns
returns c =
    let a = c.args in
    let gave = c.give-more.ensures in
    let names = c.make_room-used.new.names in
    let keys = c.make_room-used.new.keys in
    let used = c.make_room-used.result in
    let table = c.ask-asked.new.table in
    let places = c.ask-asked.new.places in
    let bits = c.ask-asked.new.bits in
    let out = c.ask-asked.result.outcome in
    let live = c.ask-asked.result.live in
    record {
      each = λ h hold.
          let kept = held_kept hold c.make_room-used.ensures.0 in
          let answered = c.ask-asked.ensures.0.each h kept in
          record {
            refusal = answered.refusal;
            most_needed = c.max-most.ensures ∙ needed hold a.event a.from.most c.need_of.result c.need_of.ensures;
            goes = λ q. rw (gave.0, gave.1, gave.2, gave.3)
                (subst (λ (k : ℕ). Holds (shared_after h (suc a.client) (value a.event)) (memory table bits places (names_with k names used) (keys_with k keys used (suc a.client) (get_or a.counts.now a.client 0)) (counts_with k a.counts.now a.client)) live (used_with k used) out.tally)
                (sym c.new_name.ensures) (held kept a.client c.requires.1 c.make_room-used.ensures.1 a.event answered c.ask-asked.ensures.1 q));
          };
    }
