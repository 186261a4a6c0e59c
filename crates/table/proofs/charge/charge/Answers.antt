-- `charge` meets its contract.
-- Assumes nothing.
use Rattle.std.specs.Prelude.{ℕ, Option}
use mathlib.Core.Path.{◌≡◌, sym, subst}
use mathlib.Core.Bool.{false}
use Rattle.model.specs.Table.{in_order}
use Rattle.table.specs.Words.{rows_in}
use Rattle.table.specs.Known.{Looks}
use Rattle.table.proofs.Laws.Charge.{charge_disordered}
use Rattle.table.proofs.charge.charge.Goals as goal

pub charge_live-requires : goal.charge_live-requires
charge_live-requires c = (subst (λ (p : Option ℕ). Looks c.args.table.now c.args.issued c.look_at.new.places p) c.in-Some.is c.look_at.ensures).orderly

pub returns-in_default : goal.returns-in_default
returns-in_default c = let o : in_order (rows_in c.args.table.now) c.args.issued ≡ false = subst (λ (p : Option ℕ). Looks c.args.table.now c.args.issued c.look_at.new.places p) c.in_default.is c.look_at.ensures in sym (charge_disordered (rows_in c.args.table.now) c.args.issued c.args.u o)
