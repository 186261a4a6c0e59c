-- `trace::report::put_answer` meets its contract.
-- Assumes nothing.
use mathlib.Core.Path.{sym, subst}
use mathlib.Core.List.{List}
use Prim.Native.Nat.{ℕ}
use Rattle.text.specs.Put.{Room, Put}
use Rattle.trace.proofs.Laws.Report.{answer_allowed, answer_refused}
use Rattle.trace.proofs.report.put_answer.Goals as goal

pub put_line-requires : goal.put_line-requires
put_line-requires c = subst (Room c.args.out.now 0) (answer_allowed c.args.refusal c.args.number c.if-refusal-eq0.true) c.requires

pub put_line-requires-else-refusal-eq0 : goal.put_line-requires-else-refusal-eq0
put_line-requires-else-refusal-eq0 c = subst (Room c.args.out.now 0) (answer_refused c.args.refusal c.args.number c.if-refusal-eq0.false) c.requires

pub returns-then-refusal-eq0 : goal.returns-then-refusal-eq0
returns-then-refusal-eq0 c = subst (λ (l : List ℕ). Put c.args.out.now 0 l c.put_line.new.out c.put_line.result) (sym (answer_allowed c.args.refusal c.args.number c.if-refusal-eq0.true)) c.put_line.ensures

pub returns-else-refusal-eq0 : goal.returns-else-refusal-eq0
returns-else-refusal-eq0 c = subst (λ (l : List ℕ). Put c.args.out.now 0 l c.put_line-else-refusal-eq0.new.out c.put_line-else-refusal-eq0.result) (sym (answer_refused c.args.refusal c.args.number c.if-refusal-eq0.false)) c.put_line-else-refusal-eq0.ensures
