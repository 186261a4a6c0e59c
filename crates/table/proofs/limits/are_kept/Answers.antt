-- `are_kept` meets its contract.
-- Assumes nothing.
use mathlib.Core.Path.{sym, ap, ◌∙◌}
use mathlib.Core.Bool.{not}
use native.Mathlib.Nat.{zero-add}
use lib.ListN.{length}
use Rattle.model.specs.Limits.{exceeds}
use Rattle.model.specs.Table.{live_rows}
use Rattle.table.specs.Words.{rows_in}
use Rattle.table.proofs.Laws.Judge.{orderly_few, orderly_live}
use Rattle.table.proofs.Laws.Limits.{orderly_makers, counts_none, exceeds_counts, exceeds_none}
use Rattle.table.proofs.limits.are_kept.Goals as goal

pub returns-then-limits-eq0 : goal.returns-then-limits-eq0
returns-then-limits-eq0 c = sym (ap not (exceeds_none (live_rows (rows_in c.args.table.now)) c.args.limits.now 0 c.if-limits-eq0.true))

pub count_makers-requires : goal.count_makers-requires
count_makers-requires c = let T = rows_in c.args.table.now in let n = length c.args.table.now in (c.requires.0.front.fits, orderly_few T n c.args.k c.args.issued c.requires.0, orderly_makers T n c.args.k c.args.issued c.requires.0, counts_none T)

pub none_exceeded-requires : goal.none_exceeded-requires
none_exceeded-requires c = c.requires.1 c.if-limits-eq0.false

pub returns : goal.returns
returns c = let T = rows_in c.args.table.now in
    c.none_exceeded.ensures
    ∙ ap not (exceeds_counts T c.args.k c.count_makers.new.counts c.count_makers.ensures c.args.limits.now 0 (zero-add (length c.args.limits.now) ∙ c.requires.1 c.if-limits-eq0.false)
    ∙ ap (λ r. exceeds 0 r c.args.limits.now) (sym (orderly_live T (length c.args.table.now) c.args.k c.args.issued c.requires.0)))
