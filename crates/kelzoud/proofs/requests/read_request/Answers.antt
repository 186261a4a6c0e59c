-- `kelzoud::requests::read_request` meets its contract: a line that is no event is read as a group.
-- Assumes nothing.
use mathlib.Core.Path.{sym, ap, ◌∙◌}
use Prim.Native.Nat.{ℕ}
use Rattle.model.specs.declared.Event.{Event}
use Rattle.model.specs.Requests.{Unlimited}
use Rattle.text.specs.Result.{Result}
use Rattle.text.specs.Read.{read_answer}
use Rattle.text.specs.Request.{or_group}
use Rattle.kelzoud.specs.Interface.{packed_read, event_after, group_after}
use Rattle.kelzoud.proofs.requests.read_request.Goals as goal

pub returns-in-Ok : goal.returns-in-Ok
returns-in-Ok c = let a = c.args in
    let e = ap read_answer (sym c.in-Ok.is) ∙ c.read_event-found.ensures in
    (c.pack.ensures ∙ ap (λ (x : Result (ℕ × Event)). packed_read (or_group Unlimited a.line.now x)) e, c.words_of.ensures ∙ ap (λ (x : Result (ℕ × Event)). event_after (or_group Unlimited a.line.now x) a.event.now) e, ap (λ (x : Result (ℕ × Event)). group_after (or_group Unlimited a.line.now x) a.names.now) e)

pub returns-in-Err : goal.returns-in-Err
returns-in-Err c = let a = c.args in
    let e = ap read_answer (sym c.in-Err.is) ∙ c.read_event-found.ensures in
    let n = c.read_names.ensures in
    (n.0 ∙ ap (λ (x : Result (ℕ × Event)). packed_read (or_group Unlimited a.line.now x)) e, n.1 ∙ ap (λ (x : Result (ℕ × Event)). event_after (or_group Unlimited a.line.now x) a.event.now) e, n.2 ∙ ap (λ (x : Result (ℕ × Event)). group_after (or_group Unlimited a.line.now x) a.names.now) e)
