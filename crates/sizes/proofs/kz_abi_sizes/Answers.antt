-- `sizes::kz_abi_sizes` meets its contract.
-- Assumes nothing.
use mathlib.Core.Path.{ap, ◌∙◌}
use Rattle.sizes.specs.Report.{report_words, packed_report}
use Rattle.sizes.proofs.kz_abi_sizes.Goals as goal

pub returns : goal.returns
returns c = (c.words_of.ensures ∙ ap report_words c.sizes-found.ensures, c.packed_report.ensures ∙ ap packed_report c.sizes-found.ensures)
