use mathlib.Core.Path.{sym, ◌∙◌}
use native.Mathlib.Omega.{arith}
use Rattle.sheet.proofs.Laws.Adding.{filled_set, filled_keep, seen_after, result_after, given_first, given_never, given_before}
use Rattle.sheet.proofs.read.add_rule.Goals.{then-before-eq0+then-times-ne0, then-before-eq0+else-times-ne0, else-before-eq0}
use Rattle.sheet.proofs.read.add_rule.Goals as goal

pub loop-p-preserved : goal.loop-p-preserved
loop-p-preserved c =
    let args = c.args in
    let results = args.results.now in
    let seen = args.seen.now in
    let rule = args.rule in
    let p = c.loop-p.p in
    let after = result_after rule seen results in
    let left = c.loop-p.invariant.0.left p (omega arith) in (
      filled_set (seen_after rule seen) seen c.loop-p.seen p c.loop-p-test.true c.loop-p.invariant.0 c.min.result (c.min.ensures ∙ rw (left, c.given_by-times.ensures)),
      elim c.if-before-eq0.branch [
        | then-before-eq0+then-times-ne0 w ↦ rw w.results-is (filled_set after results c.loop-p.results p c.loop-p-test.true c.loop-p.invariant.1 rule.result (given_first rule seen results p (sym left ∙ w.if-before-eq0.true) (λ e. w.if-times-ne0.true (c.given_by-times.ensures ∙ e))))
        | then-before-eq0+else-times-ne0 w ↦ rw w.results-is (filled_keep after results c.loop-p.results p c.loop-p-test.true c.loop-p.invariant.1 (given_never rule seen results p (sym left ∙ w.if-before-eq0.true) (sym c.given_by-times.ensures ∙ w.if-times-ne0.false)))
        | else-before-eq0 w ↦ rw w.results-is (filled_keep after results c.loop-p.results p c.loop-p-test.true c.loop-p.invariant.1 (given_before rule seen results p (λ e. w.if-before-eq0.false (left ∙ e))))
      ],
    )
