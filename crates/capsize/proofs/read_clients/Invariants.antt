-- Each client so far has put at most the longest trace, so that what is left has room for the others.
-- Assumes nothing.
use Rattle.std.proofs.Common.{◌*◌, ◌≤◌}
use Rattle.capsize.proofs.read_clients.Given as goal

abbrev pub invariant-loop-client : goal.invariant-loop-client
invariant-loop-client l = l.done ≤ l.client * 65536
