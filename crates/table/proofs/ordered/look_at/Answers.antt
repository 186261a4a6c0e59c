-- `look_at` meets its contract.
-- Assumes nothing.
use mathlib.Core.Path.{sym, ◌∙◌}
use Rattle.table.proofs.Laws.Words.{length_in_lem}
use Rattle.table.proofs.Laws.Ordered.{too_many}
use Rattle.table.proofs.ordered.look_at.Goals as goal

pub returns-then-table-gt1024 : goal.returns-then-table-gt1024
returns-then-table-gt1024 c = too_many c.args.table.now c.args.issued c.if-table-gt1024.true

pub returns-then-check_order : goal.returns-then-check_order
returns-then-check_order c =
    record {
      orderly = record { few = c.if-table-gt1024.false; all = length_in_lem c.args.table.now; front = c.live_count-live.ensures; ordered = sym c.check_order.ensures.0 ∙ c.if-check_order.true };
      placed = c.check_order.ensures.1.known c.if-check_order.true;
    }

pub returns-else-check_order : goal.returns-else-check_order
returns-else-check_order c = sym c.check_order.ensures.0 ∙ c.if-check_order.false
