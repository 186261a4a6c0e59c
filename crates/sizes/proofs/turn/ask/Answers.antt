-- `sizes::turn::ask` meets its contract: the engine answers the name that is meant, and an ended one as the definition does.
-- Assumes nothing.
use mathlib.Core.Path.{◌≡◌, ap, subst, ◌∙◌}
use Prim.Native.Nat.{suc}
use native.Mathlib.Numerals.{add-one}
use native.Mathlib.Omega.{arith}
use lib.ListN.{get_or}
use Rattle.model.specs.declared.Event.{Event}
use Rattle.model.specs.declared.Sheet.{Sheet}
use Rattle.model.specs.Slots.{unstored}
use Rattle.table.specs.Sheets.{sheet_in}
use Rattle.table.proofs.Offered.{bytes6_is}
use Rattle.rules.specs.Steps.{Stepped}
use Rattle.sizes.specs.Names.{name_in, renamed, has_ended, Meant}
use Rattle.sizes.proofs.Laws.Fewer.{ask}
use Rattle.sizes.proofs.Laws.Taken.{count_few, answered}
use Rattle.sizes.proofs.turn.ask.Goals as goal

pub meant-name-requires : goal.meant-name-requires
meant-name-requires c = (c.requires.0.holds.listed.fits, omega (arith, c.requires.1), count_few c.requires.0.holds c.args.client c.requires.1)

pub returns : goal.returns
returns c =
    let a = c.args in
    let count = get_or a.counts.now a.client 0 in
    let x = c.meant-name.result in
    let table = c.take_work-done.new.table in
    let bits = c.take_work-done.new.bits in
    let m : Meant a.used a.names.now a.keys.now (suc a.client) count (name_in a.event) x = rw (← add-one a.client, ← c.name_in-local.ensures) c.meant-name.ensures in
    let by : Stepped (sheet_in c.card6-sheet.result) a.table.now a.bits.now unstored a.tally (ask (renamed x a.event)) table bits unstored c.take_work-done.result.outcome =
    subst (λ (e : Event). Stepped (sheet_in c.card6-sheet.result) a.table.now a.bits.now unstored a.tally (ask e) table bits unstored c.take_work-done.result.outcome) c.rename.ensures c.take_work-done.ensures.0 in
    let s = subst (λ (sheet : Sheet). Stepped sheet a.table.now a.bits.now unstored a.tally (ask (renamed x a.event)) table bits unstored c.take_work-done.result.outcome) (ap sheet_in c.card6-sheet.ensures ∙ bytes6_is) by in
    let flag : c.has_ended.result ≡ has_ended x count (name_in a.event) = c.has_ended.ensures ∙ ap (has_ended x count) c.name_in-local.ensures in
    (record { each = λ h hold. answered hold (suc a.client) count (hold.counted.each a.client c.requires.1) a.event m s c.answer_for-answer.result (λ f. c.answer_for-answer.ensures.0 (flag ∙ f)) (λ t. c.answer_for-answer.ensures.1 (flag ∙ t)) }, c.take_work-done.ensures.1)
