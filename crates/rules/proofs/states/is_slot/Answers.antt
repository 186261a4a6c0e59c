-- `is_slot` meets its contract.
-- Assumes nothing.
use mathlib.Core.Path.{◌≡◌, refl, sym, ap, ◌∙◌}
use mathlib.Core.Bool.{Bool, true, false, not, or-true}
use borrow.Author.Tests.{lt-ltb}
use Rattle.model.specs.Table.{is_domain}
use Rattle.rules.proofs.Laws.States.{slot_low}
use Rattle.rules.proofs.states.is_slot.Goals as goal

twice : (b : Bool) → not (not b) ≡ b
twice true = refl
twice false = refl

pub returns-then-slot-gt7 : goal.returns-then-slot-gt7
returns-then-slot-gt7 c = rw (lt-ltb _ _ c.if-slot-gt7.true, or-true)

pub returns : goal.returns
returns c = c.is_domain.ensures ∙ sym (ap not (slot_low c.args.actor c.args.slot c.if-slot-gt7.false) ∙ twice (is_domain c.args.actor))
