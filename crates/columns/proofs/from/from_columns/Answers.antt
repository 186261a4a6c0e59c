-- `columns::from::from_columns` meets its contract.
-- Assumes nothing.
use mathlib.Core.Path.{◌≡◌, sym, ap, ◌∙◌}
use native.Mathlib.Omega.{arith}
use lib.ListN.{length}
use borrow.Author.Tests.{not-true, not-false}
use Rattle.model.specs.Lists.{all}
use Rattle.model.proofs.Offered.{clash, unless}
use Rattle.text.specs.Result.{Result, value}
use Rattle.columns.specs.declared.Used.{Used}
use Rattle.columns.specs.Columns.{columns, fits}
use Rattle.columns.specs.Walk.{counts_of, used_by, counted_of, is_five}
use Rattle.columns.proofs.Laws.Turns.{counted, uncounted, kinds_small}
use Rattle.columns.proofs.Laws.From.{fits_asks, asks_fits, lengths_has, has_lengths, lengths_found, used_from, from_refused, from_short, from_all}
use Rattle.columns.proofs.from.from_columns.Goals as goal

pub returns-then-kinds-gt4096 : goal.returns-then-kinds-gt4096
returns-then-kinds-gt4096 c =
    let a = c.args in
    let cols = columns a.kinds.now a.names.now a.starts.now a.lengths.now a.rights.now in
    let out = a.events.now in
    from_refused cols out (unless (fits cols) (λ t. omega (arith, (fits_asks cols t).few, c.if-kinds-gt4096.true)))

pub returns-in_default : goal.returns-in_default
returns-in_default c =
    let a = c.args in
    let cols = columns a.kinds.now a.names.now a.starts.now a.lengths.now a.rights.now in
    let out = a.events.now in
    let none = uncounted (all is_five a.kinds.now) (counts_of a.kinds.now) (ap counted_of (sym c.in_default.is) ∙ c.count_kinds-counted.ensures) in
    from_refused cols out (unless (fits cols) (λ t. clash (fits_asks cols t).five none))

pub returns-then-not-lengths_fit : goal.returns-then-not-lengths_fit
returns-then-not-lengths_fit c =
    let a = c.args in
    let cols = columns a.kinds.now a.names.now a.starts.now a.lengths.now a.rights.now in
    let out = a.events.now in
    let p = counted (all is_five a.kinds.now) (ap counted_of (sym c.in-Some.is) ∙ c.count_kinds-counted.ensures) in
    let other = lengths_found cols p.1 c.lengths_fit.ensures ∙ not-true c.lengths_fit.result c.if-not-lengths_fit.true-raw in
    from_refused cols out (unless (fits cols) (λ t. clash (has_lengths cols (counts_of a.kinds.now) (fits_asks cols t).has) other))

pub returns-then-not-are_rights : goal.returns-then-not-are_rights
returns-then-not-are_rights c =
    let a = c.args in
    let cols = columns a.kinds.now a.names.now a.starts.now a.lengths.now a.rights.now in
    let out = a.events.now in
    let other = sym c.are_rights.ensures ∙ not-true c.are_rights.result c.if-not-are_rights.true-raw in
    from_refused cols out (unless (fits cols) (λ t. clash (fits_asks cols t).rights other))

pub returns-then-events-kinds : goal.returns-then-events-kinds
returns-then-events-kinds c =
    let a = c.args in
    let cols = columns a.kinds.now a.names.now a.starts.now a.lengths.now a.rights.now in
    let out = a.events.now in
    let p = counted (all is_five a.kinds.now) (ap counted_of (sym c.in-Some.is) ∙ c.count_kinds-counted.ensures) in
    let h = lengths_has cols (counts_of a.kinds.now) (lengths_found cols p.1 c.lengths_fit.ensures ∙ not-false c.lengths_fit.result c.if-not-lengths_fit.false-raw) in
    let r = sym c.are_rights.ensures ∙ not-false c.are_rights.result c.if-not-are_rights.false-raw in
    let fit = asks_fits cols (record { few = c.if-kinds-gt4096.false; five = p.0; has = h; rights = r }) in
    from_short cols out fit c.if-events-kinds.true

pub take_kinds-requires : goal.take_kinds-requires
take_kinds-requires c =
    let a = c.args in
    let cols = columns a.kinds.now a.names.now a.starts.now a.lengths.now a.rights.now in
    let out = a.events.now in
    let p = counted (all is_five a.kinds.now) (ap counted_of (sym c.in-Some.is) ∙ c.count_kinds-counted.ensures) in
    (c.if-kinds-gt4096.false, p.0, c.if-events-kinds.false)

pub used_by-requires : goal.used_by-requires
used_by-requires c =
    let s = c in
    let a = s.args in
    let cols = columns a.kinds.now a.names.now a.starts.now a.lengths.now a.rights.now in
    let out = a.events.now in
    let p = counted (all is_five a.kinds.now) (ap counted_of (sym c.in-Some.is) ∙ c.count_kinds-counted.ensures) in
    let s = kinds_small a.kinds.now c.if-kinds-gt4096.false p.1 in
    (c.if-kinds-gt4096.false, s.names, s.spans, s.rights)

pub returns : goal.returns
returns c =
    let a = c.args in
    let cols = columns a.kinds.now a.names.now a.starts.now a.lengths.now a.rights.now in
    let out = a.events.now in
    let p = counted (all is_five a.kinds.now) (ap counted_of (sym c.in-Some.is) ∙ c.count_kinds-counted.ensures) in
    let h = lengths_has cols (counts_of a.kinds.now) (lengths_found cols p.1 c.lengths_fit.ensures ∙ not-false c.lengths_fit.result c.if-not-lengths_fit.false-raw) in
    let r = sym c.are_rights.ensures ∙ not-false c.are_rights.result c.if-not-are_rights.false-raw in
    let t = asks_fits cols (record { few = c.if-kinds-gt4096.false; five = p.0; has = h; rights = r }) in
    let q = from_all cols out t c.if-events-kinds.false in
    let used : c.used_by.result ≡ used_by (length a.kinds.now) (counts_of a.kinds.now) = c.used_by.ensures ∙ ap (used_by (length a.kinds.now)) p.1 in
    (ap {B = Result Used} value (used ∙ sym (used_from cols h)) ∙ q.0, c.take_kinds.ensures ∙ q.1)
