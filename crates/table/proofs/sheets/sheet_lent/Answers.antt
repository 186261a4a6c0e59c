-- `table::sheets::sheet_lent` meets its contract: card 6's where no byte is lent, and otherwise byte by byte.
-- Assumes nothing.
use mathlib.Core.Path.{ap, ◌∙◌}
use lib.ListN.{get_or}
use native.Mathlib.Omega.{arith}
use borrow.Author.Rules.{rules}
use Rattle.std.proofs.lemmas.Option.{gets}
use Rattle.table.specs.Sheets.{sheet_in}
use Rattle.table.proofs.Laws.Sheets.{made_at, taken_all, taken_none}
use Rattle.table.proofs.sheets.sheet_lent.Goals as goal

pub returns-then-lent-eq0 : goal.returns-then-lent-eq0
returns-then-lent-eq0 c = ap sheet_in c.card6.ensures ∙ taken_none c.args.lent.now c.if-lent-eq0.true

pub returns : goal.returns
returns c =
    let lent = c.args.lent.now in
    taken_all lent c.from_fn.result c.if-lent-eq0.false (λ i l. made_at _ (λ k. get_or lent k 2) _ (λ k y q w. search (rules, gets)) c.from_fn.result 0 18 c.from_fn.ensures.items.each i (omega arith) (omega arith))
