use mathlib.Core.Path.{◌≡◌, sym, ap, ◌∙◌}
use mathlib.Core.List.{map}
use Prim.Native.Nat.{◌+◌}
use native.Mathlib.Omega.{arith}
use lib.ListN.{drop, get_or, set}
use Rattle.model.specs.Lists.{all}
use Rattle.model.proofs.Offered.{and_both}
use Rattle.columns.specs.Form.{event_words}
use Rattle.columns.specs.Columns.{columns, event_from, events_from}
use Rattle.columns.specs.Walk.{is_five, with_kind}
use Rattle.columns.proofs.Laws.Turns.{small_with, all_next, begin}
use Rattle.columns.proofs.Laws.From.{turn, stored}
use Rattle.columns.proofs.from.take_kinds.Goals as goal

pub loop-i-init : goal.loop-i-init
loop-i-init c =
    let a = c.args in
    (omega arith, record { names = omega arith; spans = omega arith; rights = omega arith }, c.requires.1, begin (map event_words (events_from a.kinds.now a.names.now a.starts.now a.lengths.now a.rights.now)))

pub words_from-requires : goal.words_from-requires
words_from-requires c =
    let kinds = c.args.kinds.now in
    let i = c.loop-i.i in
    let yes = and_both (is_five (get_or kinds i 0)) (all is_five (drop (i + 1) kinds)) (sym (all_next is_five kinds 0 i c.loop-i-test.true) ∙ c.loop-i.invariant.2) in
    yes.0

pub loop-i-preserved : goal.loop-i-preserved
loop-i-preserved c =
    let kinds = c.args.kinds.now in
    let i = c.loop-i.i in
    let yes = and_both (is_five (get_or kinds i 0)) (all is_five (drop (i + 1) kinds)) (sym (all_next is_five kinds 0 i c.loop-i-test.true) ∙ c.loop-i.invariant.2) in
    let a = c.args in
    let at = c.loop-i.at in
    let to : c.with_kind-at.result ≡ with_kind (get_or kinds i 0) at = c.with_kind-at.ensures in
    let words : c.words_from.result ≡ event_words (event_from (get_or kinds i 0) (get_or a.names.now at.names 0) (get_or a.starts.now at.spans 0) (get_or a.lengths.now at.spans 0) (get_or a.rights.now at.rights 0)) =
    c.words_from.ensures ∙ rw (c.entry_at-name.ensures, c.entry_at-start.ensures, c.entry_at-length.ensures, c.entry_at-right.ensures) in
    let cols = columns kinds a.names.now a.starts.now a.lengths.now a.rights.now in
    (omega (arith, c.loop-i-test.true), small_with (get_or kinds i 0) c.loop-i.invariant.1 to, yes.1, turn cols at c.loop-i-test.true c.loop-i.invariant.3 (ap (λ w. set c.loop-i.events i w) words) to)

pub returns : goal.returns
returns c =
    let a = c.args in
    stored (columns a.kinds.now a.names.now a.starts.now a.lengths.now a.rights.now) c.loop-i.at c.loop-i-test.false c.requires.2 c.loop-i.invariant.3
