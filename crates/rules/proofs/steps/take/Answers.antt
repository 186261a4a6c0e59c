-- `take` meets its contract.
-- Assumes nothing.
use Rattle.model.specs.Requests.{Request, work_of}
use Rattle.table.specs.Sheets.{sheet_in}
use Rattle.table.specs.Limits.{limits_in}
use Rattle.table.specs.States.{states_in}
use Rattle.table.proofs.Offered.{states_eight}
use Rattle.rules.proofs.Laws.Steps.{is_work, worked_stepped}
use Rattle.rules.proofs.Laws.States.{same_fit}
use Rattle.rules.proofs.steps.take.Goals as goal

pub take_work-requires : goal.take_work-requires
take_work-requires c = c.requires.fit

pub take_mark-requires : goal.take_mark-requires
take_mark-requires c = (c.requires.fit.known.orderly, c.requires.fit.sized, c.requires.memory)

pub take_back-requires : goal.take_back-requires
take_back-requires c = c.requires

pub returns-in-Work : goal.returns-in-Work
returns-in-Work c = let work = c.in-Work.work in let limits = limits_in c.args.limits.now in let q : Request = work_of limits work c.args.names.now in
    rw c.in-Work.is (
      worked_stepped (sheet_in c.args.sheet.now) c.args.table.now c.args.bits.now (states_in c.args.stored.now c.args.copies.now) c.args.t q c.take_work.new.table c.take_work.new.bits c.take_work.result.outcome (is_work limits work c.args.names.now) (states_eight c.args.stored.now c.args.copies.now c.requires.memory) c.take_work.ensures.0,
      record { fit = c.take_work.ensures.1; memory = c.requires.memory },
    )

pub returns-in-Mark : goal.returns-in-Mark
returns-in-Mark c =
    rw c.in-Mark.is (
      c.take_mark.ensures.0 (sheet_in c.args.sheet.now) (limits_in c.args.limits.now) c.requires.fit.allowed,
      record {
        fit = same_fit c.args.table.now c.args.bits.now c.args.k c.take_mark.result.live c.args.t.issued c.take_mark.result.outcome.tally.issued c.args.limits.now c.args.places.now c.requires.fit c.take_mark.ensures.2 c.take_mark.ensures.3;
        memory = c.take_mark.ensures.1;
      },
    )

pub returns-in-Back : goal.returns-in-Back
returns-in-Back c = rw c.in-Back.is (c.take_back.ensures.0 (sheet_in c.args.sheet.now), record { fit = c.take_back.ensures.1; memory = c.requires.memory })
