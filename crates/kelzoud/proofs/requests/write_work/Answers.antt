-- `write_work` meets its contract, case by case.
-- Assumes nothing.
use mathlib.Core.Path.{sym, ap, ◌∙◌}
use Rattle.model.specs.declared.Work.{Work}
use Rattle.model.specs.Requests.{Unlimited, work_of}
use Rattle.text.specs.declared.spelling.Spelling.{Spelling}
use Rattle.text.specs.Write.{write_event}
use Rattle.text.specs.Request.{write_request}
use Rattle.kelzoud.proofs.requests.write_work.Goals as goal

pub returns-in-Single : goal.returns-in-Single
returns-in-Single c = c.write_event.ensures ∙ ap (λ (k : Spelling). write_event k c.in-Single.actor c.in-Single.event c.args.out.now) c.spelling_of.ensures ∙ ap (λ (x : Work). write_request (work_of Unlimited x c.args.names.now) c.args.out.now) (sym c.in-Single.is)

pub returns-in-Group : goal.returns-in-Group
returns-in-Group c = c.write_group.ensures ∙ ap (λ (x : Work). write_request (work_of Unlimited x c.args.names.now) c.args.out.now) (sym c.in-Group.is)
