-- `drop_names` meets its contract.
-- Assumes nothing.
use mathlib.Core.Path.{◌≡◌, refl}
use mathlib.Core.Bool.{false}
use lib.ListN.{get_or}
use Rattle.model.specs.Derivation.{ancestry}
use Rattle.model.specs.Table.{derivations}
use Rattle.model.specs.Effects.{in_subtrees, rows_without}
use Rattle.table.specs.Words.{rows_in}
use Rattle.table.specs.Rows.{before}
use Rattle.rules.specs.Engine.{kept}
use Rattle.rules.proofs.Laws.Marks.{stand_rise, spread_downward, marked_together}
use Rattle.rules.proofs.Laws.Settle.{kept_revoke}
use Rattle.rules.proofs.steps.drop_names.Goals as goal

pub own_of_names-requires : goal.own_of_names-requires
own_of_names-requires c = (c.requires.0.stands, refl)

pub first_owned-first-requires : goal.first_owned-first-requires
first_owned-first-requires c = c.requires.0.stands.few

pub spread_names-requires : goal.spread_names-requires
spread_names-requires c =
    let live = c.requires.0.stands in
    (live.few, stand_rise (rows_in c.args.table.now) c.args.k live, c.requires.1, c.first_owned-first.ensures, refl)

pub settle-requires : goal.settle-requires
settle-requires c =
    (c.requires.0, c.requires.1, spread_downward (rows_in c.args.table.now) c.args.k (λ i. get_or c.own_of_names.new.owned i 0) c.spread_names.new.marks c.spread_names.ensures.0, c.spread_names.ensures.1)

pub returns : goal.returns
unfolding rows_without
returns c =
    let T = rows_in c.args.table.now in let k = c.args.k in let names = c.args.names.now in
    let marks = c.spread_names.new.marks in
    let m = marked_together T k c.requires.0.stands names c.own_of_names.new.owned marks c.own_of_names.ensures c.spread_names.ensures.0 in
    let e : kept marks T k ≡ rows_without names (before T k) = kept_revoke marks (λ x. in_subtrees names (ancestry (derivations (before T k)) x)) (λ x. false) T k m in
    rw (← e) c.settle.ensures
