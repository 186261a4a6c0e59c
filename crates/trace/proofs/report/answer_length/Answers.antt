-- `trace::report::answer_length` meets its contract: both words have eight bytes.
-- Assumes nothing.
use mathlib.Core.Path.{ap}
use mathlib.Core.List.{[], ◌∷◌}
use native.Mathlib.Omega.{arith}
use lib.ListN.{length}
use mathlib.Core.Path.{refl}
use Rattle.text.specs.Event.{bytes, spaced}
use Rattle.trace.proofs.Laws.Report.{answer_allowed, answer_refused, length_line}
use Rattle.trace.proofs.report.answer_length.Goals as goal

pub returns-then-refusal-eq0 : goal.returns-then-refusal-eq0
returns-then-refusal-eq0 c =
    let r = c.args.refusal in let n = c.args.number in
    (omega (arith, c.spaced_length.ensures.0, ap length (answer_allowed r n c.if-refusal-eq0.true), length_line (bytes "(allowed") (spaced (n ∷ [])) refl), omega (arith, c.spaced_length.ensures.1))

pub returns-else-refusal-eq0 : goal.returns-else-refusal-eq0
returns-else-refusal-eq0 c =
    let r = c.args.refusal in let n = c.args.number in
    (omega (arith, c.spaced_length-else-refusal-eq0.ensures.0, ap length (answer_refused r n c.if-refusal-eq0.false), length_line (bytes "(refused") (spaced (r ∷ n ∷ [])) refl), omega (arith, c.spaced_length-else-refusal-eq0.ensures.1))
