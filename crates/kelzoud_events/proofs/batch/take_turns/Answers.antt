use mathlib.Core.Path.{◌≡◌, refl, ap, ap₂, ◌∙◌}
use mathlib.Core.List.{List}
use Prim.Native.Nat.{ℕ}
use native.Mathlib.Omega.{arith}
use lib.ListN.{length-set}
use Rattle.model.specs.declared.Asked.{Asked}
use Rattle.model.specs.Requests.{request_of}
use Rattle.table.specs.Words.{rows_in}
use Rattle.table.specs.Sheets.{sheet_in}
use Rattle.table.specs.Limits.{limits_in}
use Rattle.table.specs.States.{states_in}
use Rattle.rules.specs.Steps.{lends}
use Rattle.kelzoud_events.specs.Interface.{answer_words}
use Rattle.kelzoud_events.proofs.Turns.{ran_none, ran_more}
use Rattle.kelzoud_events.proofs.batch.take_turns.Goals as goal

pub loop-i-init : goal.loop-i-init
loop-i-init c = (omega arith, refl, refl, refl, refl, c.requires.0, ran_none _ _ _ _ _ _)

pub loop-i-preserved : goal.loop-i-preserved
loop-i-preserved c = let st = c.take-p.ensures.0 in let limits = limits_in c.args.limits.now in
    let q = ap₂ (λ (x : Asked) (y : List ℕ). request_of limits x y) c.asked_in-asked.ensures c.names_in-part.ensures in (
      omega (arith, c.loop-i-test.true),
      c.table-1.given ∙ c.loop-i.invariant.1,
      c.stored-1.given ∙ c.loop-i.invariant.2,
      c.copies-1.given ∙ c.loop-i.invariant.3,
      simp length-set c.loop-i.invariant.4,
      c.take-p.ensures.1,
      rw c.answer_words.ensures (ran_more limits c.args.names.now (sheet_in c.args.sheet.now) _ c.args.events.now c.loop-i.i c.args.answers.now (lends (rows_in c.loop-i.table) c.loop-i.bits (states_in c.loop-i.stored c.loop-i.copies) c.loop-i.tally) c.loop-i.answers _ (lends (rows_in c.take-p.new.table) c.take-p.new.bits (states_in c.take-p.new.stored c.take-p.new.copies) c.take-p.result.outcome.tally) _ c.loop-i.invariant.6 (omega (arith, c.requires.1, c.loop-i-test.true)) (omega (arith, c.requires.2, c.loop-i-test.true)) q (rw (st.table, st.bits, st.stored, st.tally)) (ap answer_words st.answer)),
    )

pub returns : goal.returns
returns c = let e : c.loop-i.i ≡ c.args.m = omega (arith, c.loop-i.invariant.0, c.loop-i-test.false) in rw (← e) c.loop-i.invariant.6
