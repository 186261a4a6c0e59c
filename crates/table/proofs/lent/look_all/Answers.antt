-- `look_all` meets its contract.
-- Assumes nothing.
use mathlib.Core.Path.{sym, ◌∙◌}
use borrow.Author.Tests.{not-true, not-false}
use Rattle.table.specs.Limits.{limits_in}
use Rattle.table.proofs.Laws.States.{states_unfit, found_all}
use Rattle.table.proofs.lent.look_all.Goals as goal

pub returns-then-not-is_memory : goal.returns-then-not-is_memory
returns-then-not-is_memory c = states_unfit (limits_in c.args.limits.now) c.args.table.now c.args.bits.now c.args.stored.now c.args.copies.now c.args.issued (sym c.is_memory.ensures ∙ not-true _ c.if-not-is_memory.true-raw)

pub returns : goal.returns
returns c = found_all c.args.table.now c.args.bits.now c.args.stored.now c.args.copies.now c.args.issued c.args.limits.now c.look.new.places c.look.result (sym c.is_memory.ensures ∙ not-false _ c.if-not-is_memory.false-raw) c.look.ensures
