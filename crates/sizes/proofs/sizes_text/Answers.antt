-- `sizes::sizes_text` meets its contract.
-- Assumes nothing.
use mathlib.Core.Path.{ap, ◌∙◌}
use Prim.Native.Nat.{ℕ}
use lib.ListN.{replicate, length-replicate}
use Rattle.sizes.specs.Report.{report_line}
use Rattle.sizes.proofs.Laws.Words.{printed}
use Rattle.sizes.proofs.sizes_text.Goals as goal

pub returns : goal.returns
returns c = let p = printed c.sizes-found.result (replicate 48 0) c.put_report-length.new.out c.put_report-length.result (length-replicate {A = ℕ} 48 0) c.put_report-length.ensures in (p.0 ∙ ap report_line c.sizes-found.ensures, p.1, p.2)
