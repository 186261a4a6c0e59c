-- The cycle of calls {read_form, read_run}. Each call is on fewer bytes, or from a form to its run on no more: the measure is twice the
-- bytes that are left, and one more for a form. The invariant of the run's loop: the run goes on with the last bytes.
-- Assumes nothing.
use Rattle.std.proofs.Common.{◌+◌, ◌*◌, ◌≤◌, length}
use Rattle.listing.specs.Stored.{Stored, newest}
use Rattle.listing.proofs.Laws.Reading.{RunLeft}
use Rattle.listing.proofs.forms.+read_form_read_run.Given as goal

abbrev pub decreases-read_form : goal.decreases-read_form
decreases-read_form l = 2 * length l.text.now + 1

abbrev pub decreases-read_run : goal.decreases-read_run
decreases-read_run l = 2 * length l.text.now

abbrev pub invariant-read_run-loop-left : goal.invariant-read_run-loop-left
invariant-read_run-loop-left l =
    (l.count ≤ l.stored) × Stored l.table l.stored × RunLeft l.text (newest l.initial.table l.count) l.parent l.depth l.left (newest l.table l.stored)

abbrev pub decreases-read_run-loop-left : goal.decreases-read_run-loop-left
decreases-read_run-loop-left l = l.left
