-- `check_text` meets its contract: what is printed fits, so `check` refuses no input.
-- Assumes nothing.
use mathlib.Core.Path.{refl}
use native.Mathlib.Omega.{arith}
use Rattle.model.proofs.Offered.{clash}
use Rattle.table.specs.States.{states_in, emptied}
use Rattle.text.proofs.Offered.{wrote, wrote_none}
use Rattle.trace.proofs.Laws.Fits.{check_fits, room, kept}
use Rattle.trace.proofs.report.check_text.Goals as goal

pub returns-in-Ok : goal.returns-in-Ok
returns-in-Ok c = let slots = (emptied (states_in c.args.stored.now c.args.copies.now)) in let input = c.args.input.now in let all = wrote c.in-Ok.length c.check-written.ensures.0 c.in-Ok.is in
    (all.front, omega (arith, all.count, check_fits slots input), kept slots input c.check-written.ensures.0)

pub returns-in-Err : goal.returns-in-Err
returns-in-Err c = clash refl (wrote_none c.in-Err.field-0 c.check-written.ensures.0 (room (emptied (states_in c.args.stored.now c.args.copies.now)) c.args.input.now) c.in-Err.is)
