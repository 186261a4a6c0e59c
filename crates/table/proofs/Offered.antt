-- What the crates above may cite of this one: its definitions in specs/, and these laws.
-- Assumes nothing.
pub use Rattle.table.proofs.Laws.Find.{found_there, found_zero}
pub use Rattle.table.proofs.Laws.Judge.{numbered, orderly_few, orderly_issued, orderly_judge, orderly_live, orderly_rise, orderly_standing, orderly_zeros}
pub use Rattle.table.proofs.Laws.Ordered.{before_lent, before_reverse, live_front, live_rows_first_front, lookup_place, rise_sub, rows_in_order_at, rows_in_order_rise, too_many}
pub use Rattle.table.proofs.Laws.Places.{Alike, places_more, places_none, places_past, places_same}
pub use Rattle.table.proofs.Laws.Prefix.{all_before, at_before, before_same, before_suc, extend, last, length_before, named_none, none_named, place_of}
pub use Rattle.table.proofs.Laws.Words.{cap_back, in_at, length_in_lem, rise_fits}
pub use Rattle.table.proofs.Laws.Sheets.{bytes_back, bytes6_is, result_in_lem}
pub use Rattle.table.proofs.Laws.States.{bytes_size, is_memory_lem, rows_size, states_eight, states_fit}
