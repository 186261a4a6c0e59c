-- `sizes::report::packed_report` meets its contract.
-- Assumes nothing.
use Rattle.sizes.proofs.report.packed_report.Goals as goal

pub returns-in-Ok : goal.returns-in-Ok
returns-in-Ok c = rw c.in-Ok.is c.pack.ensures

pub returns-in-Err : goal.returns-in-Err
returns-in-Err c = rw c.in-Err.is c.pack_refusal.ensures
