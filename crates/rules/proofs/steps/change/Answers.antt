-- `change` meets its contract.
-- Assumes nothing.
use mathlib.Core.Path.{subst}
use Rattle.model.specs.declared.Work.{Work}
use Rattle.model.specs.declared.Work.TheVariants as work
use Rattle.model.specs.Effects.{rows_after}
use Rattle.table.specs.Words.{rows_in}
use Rattle.rules.specs.Steps.{AllowedOn}
use Rattle.rules.proofs.Laws.Steps.{ready}
use Rattle.rules.proofs.steps.change.Goals as goal

pub change_event-requires : goal.change_event-requires
change_event-requires c =
    let j : AllowedOn (rows_in c.args.table.now) c.args.issued (work.Single c.in-Single.actor c.in-Single.e) c.args.names.now = subst (λ (x : Work). AllowedOn (rows_in c.args.table.now) c.args.issued x c.args.names.now) c.in-Single.is c.requires.1 in
    (c.requires.0.orderly, record { bits = j.bits; limits = j.limits; judged = j.judged }, c.requires.0.placed)

pub drop_names-requires : goal.drop_names-requires
drop_names-requires c = (ready c.args.table.now c.args.k c.args.issued c.requires.0.orderly, c.requires.0.placed)

pub returns-in-Single : goal.returns-in-Single
returns-in-Single c = rw c.in-Single.is c.change_event.ensures

pub returns-in-Group : goal.returns-in-Group
unfolding rows_after
returns-in-Group c = rw c.in-Group.is c.drop_names.ensures
