-- `table::sheets::set_conflicts` meets its contract: three results, and three behind them.
-- Assumes nothing.
use mathlib.Core.Path.{◌∙◌, ap}
use mathlib.Core.List.{List}
use Prim.Native.Nat.{ℕ, ◌+◌}
use native.Mathlib.Omega.{arith}
use lib.ListN.{length}
use Rattle.table.specs.Sheets.{with_results}
use Rattle.table.proofs.Laws.Sheets.{results_long}
use Rattle.table.proofs.sheets.set_conflicts.Goals as goal

pub set_results-requires-2 : goal.set_results-requires-2
set_results-requires-2 c =
    (omega (arith, c.requires.0), ap length c.set_results.ensures ∙ results_long c.args.bytes.now c.args.place c.args.c.read ∙ c.requires.1)

pub returns : goal.returns
returns c = c.set_results-2.ensures ∙ ap (λ (l : List ℕ). with_results l (c.args.place + 3) c.args.c.write) c.set_results.ensures
