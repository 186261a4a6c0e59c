-- `write_request` meets its contract, case by case.
-- Assumes nothing.
use mathlib.Core.Path.{sym, ap, ◌∙◌}
use Rattle.model.specs.declared.Asked.{Asked}
use Rattle.model.specs.Requests.{Unlimited, request_of}
use Rattle.text.specs.Request.{write_request}
use Rattle.kelzoud.proofs.requests.write_request.Goals as goal

pub returns-in-Work : goal.returns-in-Work
returns-in-Work c = c.write_work.ensures ∙ ap (λ (x : Asked). write_request (request_of Unlimited x c.args.names.now) c.args.out.now) (sym c.in-Work.is)

pub returns-in-Mark : goal.returns-in-Mark
returns-in-Mark c = c.write_mark.ensures ∙ ap (λ (x : Asked). write_request (request_of Unlimited x c.args.names.now) c.args.out.now) (sym c.in-Mark.is)

pub returns-in-Back : goal.returns-in-Back
returns-in-Back c = c.write_back.ensures ∙ ap (λ (x : Asked). write_request (request_of Unlimited x c.args.names.now) c.args.out.now) (sym c.in-Back.is)
