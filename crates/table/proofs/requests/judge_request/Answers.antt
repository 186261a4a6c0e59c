-- `judge_request` meets its contract.
-- Assumes nothing.
use mathlib.Core.Path.{refl, ◌∙◌}
use lib.ListN.{length}
use Rattle.model.specs.Requests.{Group, caller}
use Rattle.table.specs.Words.{rows_in}
use Rattle.table.specs.Limits.{limits_in}
use Rattle.table.proofs.Laws.Judge.{orderly_few, orderly_rise, answered}
use Rattle.table.proofs.requests.judge_request.Goals as goal

pub judge_group-requires : goal.judge_group-requires
judge_group-requires c =
    let T = rows_in c.args.table.now in
    (orderly_few T (length c.args.table.now) c.args.k c.args.issued c.requires.0, orderly_rise T (length c.args.table.now) c.args.k c.args.issued c.requires.0)

pub returns-in-Single : goal.returns-in-Single
returns-in-Single c = rw c.in-Single.is c.judge.ensures

pub returns-in-Group : goal.returns-in-Group
returns-in-Group c =
    let T = rows_in c.args.table.now in
    rw c.in-Group.is
    (c.judge_group.ensures ∙ answered T (length c.args.table.now) c.args.k c.args.issued c.requires.0 c.args.bits.now c.requires.1 (Group (caller c.in-Group.actor (limits_in c.args.limits.now)) c.args.names.now) refl c.requires.2 0)
