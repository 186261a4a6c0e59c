use Rattle.model.proofs.Offered.{passed_on}
use Rattle.std.specs.Prelude.{ℕ, Err, Ok, Result}
use Rattle.model.specs.declared.Refusal.{Refusal}
use mathlib.Core.Path.{refl, sym, subst, ◌∙◌}
use lib.ListN.{get_or}
use Rattle.model.specs.declared.Name.{Name}
use Rattle.model.specs.Answers.{number}
use Rattle.table.specs.Words.{rows_in}
use Rattle.table.specs.Rows.{before}
use Rattle.table.specs.Stands.{Stands}
use Rattle.table.proofs.Laws.Judge.{numbered}
use Rattle.table.proofs.Laws.Groups.{names_stop, names_on, names_end}
use Rattle.table.proofs.groups.judge_names.Goals as goal

pub returns-in_err-place_of : goal.returns-in_err-place_of
returns-in_err-place_of c =
    let T = rows_in c.args.table.now in
    let x = c.in_err-place_of.field-0.0 in
    let u : Name = record { 0 = get_or c.args.names.now c.loop-name.name-index 0 } in
    let st : Stands T c.args.k c.args.issued c.args.actor u (Err x) = subst (λ (p : Result ℕ Refusal). Stands T c.args.k c.args.issued c.args.actor u p) c.in_err-place_of.was c.place_of.ensures in
    rw (passed_on c.from_residual.result x c.from_residual.ensures.1, sym c.loop-name.invariant ∙ names_stop (before T c.args.k) c.args.issued c.args.actor c.args.names.now c.loop-name.name-index c.loop-name-test.true (number x) (numbered x) st, numbered x)

pub loop-name-preserved : goal.loop-name-preserved
loop-name-preserved c =
    let T = rows_in c.args.table.now in
    let u : Name = record { 0 = get_or c.args.names.now c.loop-name.name-index 0 } in
    let q = c.in_ok-place_of.field-0 in
    let st : Stands T c.args.k c.args.issued c.args.actor u (Ok q) = subst (λ (p : Result ℕ Refusal). Stands T c.args.k c.args.issued c.args.actor u p) c.in_ok-place_of.was c.place_of.ensures in
    sym (names_on (before T c.args.k) c.args.issued c.args.actor c.args.names.now c.loop-name.name-index c.loop-name-test.true st.0) ∙ c.loop-name.invariant

pub loop-name-init : goal.loop-name-init
loop-name-init c = refl

pub returns : goal.returns
returns c =
    rw (sym c.loop-name.invariant ∙ names_end (before (rows_in c.args.table.now) c.args.k) c.args.issued c.args.actor c.args.names.now c.loop-name.name-index c.loop-name-test.false)
