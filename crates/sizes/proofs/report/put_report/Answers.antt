-- `sizes::report::put_report` meets its contract: no line of a report is longer than the buffer.
-- Assumes nothing.
use mathlib.Core.Path.{ap, subst}
use mathlib.Core.List.{List, [], ◌∷◌, ◌++◌}
use Prim.Native.Nat.{ℕ, ◌<◌}
use Rattle.model.specs.declared.Refusal.{Refusal}
use Rattle.model.specs.Answers.{number}
use native.Mathlib.Omega.{arith}
use Rattle.text.specs.Event.{bytes, spaced}
use Rattle.text.specs.Put.{Put}
use Rattle.kelzoud_events.proofs.Laws.{number_small}
use Rattle.sizes.specs.Report.{report_line}
use Rattle.sizes.proofs.Laws.Words.{rows_short, refused_short}
use Rattle.sizes.proofs.report.put_report.Goals as goal

small : (x : Refusal) → number x < 4294967296
small x = omega (arith, number_small x)

pub put_line-requires : goal.put_line-requires
put_line-requires c = rw c.word_of.ensures (omega (arith, c.requires, rows_short c.in-Ok.rows))

pub put_line-requires-in-Err : goal.put_line-requires-in-Err
put_line-requires-in-Err c = rw (c.number_of.ensures, c.word_of-in-Err.ensures, c.word_of-in-Err-2.ensures) (omega (arith, c.requires, refused_short (number c.in-Err.at.refusal) c.in-Err.at.client c.in-Err.at.line (small c.in-Err.at.refusal)))

pub returns-in-Ok : goal.returns-in-Ok
unfolding report_line
returns-in-Ok c = rw c.in-Ok.is (subst (λ (ns : List ℕ). Put c.args.out.now 0 (bytes "(rows" ++ (spaced ns ++ bytes ")\n")) c.put_line.new.out c.put_line.result) (ap (λ (n : ℕ). n ∷ []) c.word_of.ensures) c.put_line.ensures)

pub returns-in-Err : goal.returns-in-Err
unfolding report_line
returns-in-Err c = rw c.in-Err.is (subst (λ (ns : List ℕ). Put c.args.out.now 0 (bytes "(refused" ++ (spaced ns ++ bytes ")\n")) c.put_line-in-Err.new.out c.put_line-in-Err.result) (λ j. c.number_of.ensures j ∷ c.word_of-in-Err.ensures j ∷ c.word_of-in-Err-2.ensures j ∷ []) c.put_line-in-Err.ensures)
