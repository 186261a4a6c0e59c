-- `row_of` meets its contract.
-- Assumes nothing.
use mathlib.Core.Path.{sym, ◌∙◌}
use native.Mathlib.Omega.{arith}
use Rattle.table.proofs.Offered.{rise_fits, found_there, lookup_place}
use Rattle.table.specs.Words.{rows_in}
use Rattle.rules.proofs.steps.row_of.Goals as goal

pub row_at-requires : goal.row_at-requires
row_at-requires c = omega (arith, rise_fits c.args.table.now c.args.k c.requires.1, found_there (rows_in c.args.table.now) c.args.k c.args.u c.args.q c.requires.2 c.requires.3)

pub returns : goal.returns
returns c =
    let l = found_there (rows_in c.args.table.now) c.args.k c.args.u c.args.q c.requires.2 c.requires.3 in
    c.row_at.ensures ∙ sym (lookup_place (rows_in c.args.table.now) c.args.k c.args.q c.args.u c.requires.1 l (c.requires.3.here l)).1
