-- `read_slot` meets its contract: the words of a mark or a back, or nothing is written.
-- Assumes nothing.
use mathlib.Core.Path.{sym, ap, ◌∙◌}
use Rattle.model.specs.declared.Asked.{Asked}
use Rattle.model.specs.Requests.{Unlimited}
use Rattle.text.specs.Result.{Result}
use Rattle.text.specs.State.{state_answer}
use Rattle.text.specs.Request.{state_of}
use Rattle.kelzoud.specs.Interface.{packed_read, event_after}
use Rattle.kelzoud.proofs.requests.read_slot.Goals as goal

pub returns-in-Ok : goal.returns-in-Ok
returns-in-Ok c = let e = ap state_answer (sym c.in-Ok.is) ∙ c.read_state-found.ensures in
    (c.pack.ensures ∙ ap (λ (x : Result Asked). packed_read (state_of Unlimited x)) e, c.asked_words.ensures ∙ ap (λ (x : Result Asked). event_after (state_of Unlimited x) c.args.event.now) e)

pub returns-in-Err : goal.returns-in-Err
returns-in-Err c = let e = ap state_answer (sym c.in-Err.is) ∙ c.read_state-found.ensures in
    (c.pack_refusal.ensures ∙ ap (λ (x : Result Asked). packed_read (state_of Unlimited x)) e, ap (λ (x : Result Asked). event_after (state_of Unlimited x) c.args.event.now) e)
