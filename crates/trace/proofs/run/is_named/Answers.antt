-- `trace::run::is_named` meets its contract.
-- Assumes nothing.
use mathlib.Core.Path.{sym, ◌∙◌}
use Rattle.std.proofs.lemmas.Bool.Decides.{Decides-eqb}
use Rattle.std.proofs.lemmas.Slice.Eq.{slice_eq-Decides}
use Rattle.text.specs.Line.{next_line}
use Rattle.text.proofs.Offered.{same_is}
use Rattle.trace.specs.Run.{header}
use Rattle.trace.proofs.run.is_named.Goals as goal

pub returns : goal.returns
returns c =
    let first = c.next_line.ensures in
    let told = slice_eq-Decides Decides-eqb _ _ _ c.eq.ensures in
    same_is c.eq.result (next_line c.args.text.now) header (λ e. sym first ∙ told.0 e) (λ e. told.1 (first ∙ e))
