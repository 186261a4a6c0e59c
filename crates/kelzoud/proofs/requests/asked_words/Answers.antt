-- `asked_words` meets its contract, case by case.
-- Assumes nothing.
use mathlib.Core.Path.{sym, ap, ◌∙◌}
use mathlib.Core.List.{[]}
use Rattle.model.specs.declared.Asked.{Asked}
use Rattle.model.specs.Requests.{Unlimited, request_of}
use Rattle.kelzoud_events.specs.Interface.{words_of}
use Rattle.kelzoud.proofs.requests.asked_words.Goals as goal

pub returns-in-Work : goal.returns-in-Work
returns-in-Work c = c.work_words.ensures ∙ ap (λ (x : Asked). words_of (request_of Unlimited x [])) (sym c.in-Work.is)

pub returns-in-Mark : goal.returns-in-Mark
unfolding words_of
returns-in-Mark c = c.mark_words.ensures ∙ ap (λ (x : Asked). words_of (request_of Unlimited x [])) (sym c.in-Mark.is)

pub returns-in-Back : goal.returns-in-Back
unfolding words_of
returns-in-Back c = c.back_words.ensures ∙ ap (λ (x : Asked). words_of (request_of Unlimited x [])) (sym c.in-Back.is)
