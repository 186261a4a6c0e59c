-- `work_words` meets its contract, case by case.
-- Assumes nothing.
use mathlib.Core.Path.{sym, ap, ◌∙◌}
use mathlib.Core.List.{[]}
use Rattle.model.specs.declared.Work.{Work}
use Rattle.model.specs.Requests.{Unlimited, work_of}
use Rattle.kelzoud_events.specs.Interface.{words_of}
use Rattle.kelzoud.proofs.requests.work_words.Goals as goal

pub returns-in-Single : goal.returns-in-Single
returns-in-Single c = c.words_of.ensures ∙ ap (λ (x : Work). words_of (work_of Unlimited x [])) (sym c.in-Single.is)

pub returns-in-Group : goal.returns-in-Group
unfolding words_of
returns-in-Group c = c.group_words.ensures ∙ ap (λ (x : Work). words_of (work_of Unlimited x [])) (sym c.in-Group.is)
