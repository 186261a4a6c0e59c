-- Every starred trace goes as document 01 says, and those of the cards as they say, by one computed test over their table.
-- Assumes nothing.
use mathlib.Core.Path.{◌≡◌, refl}
use mathlib.Core.Bool.{true}
use Rattle.model.specs.Lists.{all}
use Rattle.model.specs.Derivation.{ancestry, on_ancestry}
use Rattle.model.specs.Strike.{origin, strike, reached, struck}
use Rattle.model.specs.Table.{terms_in_order, live_rows, lent_table, lookup, is_empty_row, live_rows_first, row_fits_parent, parent_in_order, row_in_order, rows_in_order, in_order}
use Rattle.model.specs.Refusals.{not_written, unfit_slot, standings, refusals, judge}
use Rattle.model.specs.Effects.{revoke, after_access, rows_without, rows_after}
use Rattle.model.specs.Limits.{exceeds, refused_sheet, no_row, limit_reached}
use Rattle.model.specs.Bits.{has_bit, with_bit, bit_at, put_at, put_from, bits_after, all_written}
use Rattle.model.specs.Step.{answer, after}
use Rattle.model.specs.Requests.{rises_above, rises_strictly, is_group}
use Rattle.model.specs.Traces.{traces, starred, refused, written, empty, reused, together, kinds, in_rust, sheets, thinned, written_first, domains, states, printed, holds}

pub traces_hold : all holds traces ≡ true
unfolding traces starred refused written empty reused together kinds in_rust sheets thinned written_first domains states printed holds ancestry origin strike on_ancestry reached struck live_rows lent_table lookup is_empty_row live_rows_first row_fits_parent parent_in_order row_in_order rows_in_order in_order refusals judge revoke after_access rows_after answer after rises_above rises_strictly is_group standings rows_without terms_in_order not_written unfit_slot exceeds refused_sheet no_row limit_reached has_bit with_bit bit_at put_at put_from bits_after all_written
traces_hold = refl
