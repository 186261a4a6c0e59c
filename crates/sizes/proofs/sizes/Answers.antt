-- `sizes::sizes` meets its contract: before the first line the memory is that of an empty table, and one run finds the report.
-- Assumes nothing.
use mathlib.Core.Path.{refl, sym, ap, ◌∙◌}
use mathlib.Core.List.{List}
use Prim.Native.Nat.{ℕ}
use native.Mathlib.Omega.{arith}
use lib.ListN.{replicate, length-replicate}
use borrow.Author.Tests.{not-true, not-false}
use Rattle.sizes.specs.Turns.{rounds, longest}
use Rattle.sizes.specs.Clients.{fresh}
use Rattle.sizes.specs.Peak.{sized}
use Rattle.sizes.proofs.Laws.Peak.{sizing_run, sizing_unfit}
use Rattle.sizes.proofs.Laws.Laid.{fit_few, laid_places, lines_laid, zero_holds}
use Rattle.sizes.proofs.sizes.Goals as goal

pub returns-then-not-do_fit : goal.returns-then-not-do_fit
returns-then-not-do_fit c = sym (sizing_unfit c.args.text.now c.args.lengths.now (sym c.do_fit.ensures ∙ not-true _ c.if-not-do_fit.true-raw))

pub lay_out-requires : goal.lay_out-requires
lay_out-requires c = (fit_few c.args.text.now c.args.lengths.now (sym c.do_fit.ensures ∙ not-false _ c.if-not-do_fit.false-raw), length-replicate {A = ℕ} 8 0, length-replicate {A = ℕ} 8 0)

pub run_clients-requires : goal.run_clients-requires
run_clients-requires c = (record { shared = fresh 1024; holds = zero_holds 1024 (omega arith) (replicate 8192 0) (replicate 1024 0) (replicate 2048 0) (replicate 2048 0) (replicate 8 0) refl (length-replicate {A = ℕ} 1024 0) (length-replicate {A = ℕ} 2048 0) (length-replicate {A = ℕ} 2048 0) refl }, fit_few c.args.text.now c.args.lengths.now (sym c.do_fit.ensures ∙ not-false _ c.if-not-do_fit.false-raw), laid_places c.args.text.now c.args.lengths.now c.lay_out.new.at c.lay_out.new.ends c.lay_out.ensures (sym c.do_fit.ensures ∙ not-false _ c.if-not-do_fit.false-raw))

pub returns : goal.returns
returns c =
    let lines = lines_laid c.args.text.now c.args.lengths.now c.lay_out.new.at c.lay_out.new.ends c.lay_out.ensures in
    sym (sizing_run c.args.text.now c.args.lengths.now (sym c.do_fit.ensures ∙ not-false _ c.if-not-do_fit.false-raw) ∙ ap (λ (l : List (List (List ℕ))). sized (fresh 1024) 0 (rounds (longest l) 1 l)) (sym lines) ∙ c.run_clients.ensures (fresh 1024) (zero_holds 1024 (omega arith) (replicate 8192 0) (replicate 1024 0) (replicate 2048 0) (replicate 2048 0) (replicate 8 0) refl (length-replicate {A = ℕ} 1024 0) (length-replicate {A = ℕ} 2048 0) (length-replicate {A = ℕ} 2048 0) refl))
