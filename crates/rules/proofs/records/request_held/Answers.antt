-- `request_held` meets its contract: a sheet is that of its bytes.
-- Assumes nothing.
use mathlib.Core.Path.{◌≡◌, ap, ◌∙◌}
use Rattle.table.specs.Sheets.{sheet_in}
use Rattle.table.proofs.Offered.{bytes_back}
use Rattle.rules.proofs.records.request_held.Goals as goal

pub returns : goal.returns
returns c =
    let e : sheet_in c.bytes_of-bytes.result ≡ c.args.sheet = ap sheet_in c.bytes_of-bytes.ensures ∙ bytes_back c.args.sheet in
    rw e at c.request_first.ensures
