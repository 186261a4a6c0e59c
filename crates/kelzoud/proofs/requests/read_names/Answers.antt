-- `read_names` meets its contract: the words of a group and its names, or it is a mark or a back.
-- Assumes nothing.
use mathlib.Core.Path.{sym, ap, ◌∙◌}
use native.Mathlib.Omega.{arith}
use Rattle.text.specs.Group.{group_answer}
use Rattle.text.specs.State.{read_state}
use Rattle.kelzoud_events.specs.Interface.{words_of}
use Rattle.kelzoud.proofs.Laws.{counted, unread, state_names}
use Rattle.kelzoud.proofs.requests.read_names.Goals as goal

pub overflow_cast-count : goal.overflow_cast-count
overflow_cast-count c = record { fits = omega (arith, (counted _ _ _ (ap group_answer (sym c.in-Ok.is) ∙ c.read_group-found.ensures.0)).few) }

pub returns-in-Ok : goal.returns-in-Ok
unfolding words_of
returns-in-Ok c = let k = counted c.args.line.now c.in-Ok.actor c.in-Ok.count (ap group_answer (sym c.in-Ok.is) ∙ c.read_group-found.ensures.0) in
    (rw k.read c.pack.ensures, rw (k.read, ← k.count) c.group_words.ensures, rw k.read (rw k.read at c.read_group-found.ensures.1))

pub returns-in-Err : goal.returns-in-Err
returns-in-Err c = let k = unread c.args.line.now _ (ap group_answer (sym c.in-Err.is) ∙ c.read_group-found.ensures.0) in
    (rw k c.read_slot.ensures.0, rw k c.read_slot.ensures.1, rw k ((rw k at c.read_group-found.ensures.1) ∙ state_names (read_state c.args.line.now) c.args.names.now))
