-- What the crates above may cite of this one: its definitions in specs/, and these theorems and laws.
-- Assumes nothing.

-- ---- theorems; the computed one stands first, so that it is checked first: a wrong rule then shows at an example
pub use Rattle.model.proofs.Traces.{traces_hold}
pub use Rattle.model.proofs.Demand3.{demand3}
pub use Rattle.model.proofs.GoingBack.{mark_judged, back_judged, nineteen_judged, nineteen_given, marked, went_back, came_back, slot_stays}
pub use Rattle.model.proofs.Counted.{tallied}
pub use Rattle.model.proofs.Given.{given_in_order}
pub use Rattle.model.proofs.OneTable.{one_table}
pub use Rattle.model.proofs.Lost.{never_lives_again, never_rw_again}
pub use Rattle.model.proofs.ReadRemoved.{read_removed, reads_removed, history_removed, no_read_ends}
pub use Rattle.model.proofs.Independence.{alone, independent}
pub use Rattle.model.proofs.TreesApart.{trees_apart, strangers_end}
pub use Rattle.model.proofs.Allotted.{one_for_each}
pub use Rattle.model.proofs.Room.{ten_never, eighteen_never, row_left}
pub use Rattle.model.proofs.Charge.{all_charged, less_left, has_holder}
pub use Rattle.model.proofs.Tried.{tried, tried_answers, crowded_differs, limits_needed, planted_trees, roots_overlap}
pub use Rattle.model.proofs.Sheet6.{words, words_access, references_alone, references_access}
-- ---- laws
pub use Rattle.model.proofs.Ancestries.{Falling, ancestry_here, ancestry_past, below_differs}
pub use Rattle.model.proofs.Bits.{has_bit_first, has_bit_next, with_bit_worth}
pub use Rattle.model.proofs.Frame.{disordered_keeps, refused_memory, refused_slots, refused_tally}
pub use Rattle.model.proofs.Judged.{access_fits, allowed, checks_slots, eight_slots, fit_all, fit_not_1, fit_order, fit_sheet, fit_size, fit_slots, is_fit, judge_slots, length_live, slot_kept, slots_size, stored_fit, stores_nothing, no_slot, works_memory}
pub use Rattle.model.proofs.Lent.{Named, length_lent, live_lent}
pub use Rattle.model.proofs.Lists.{All, All_append, All_get_d, All_map, All_replicate, All_reverse, All_set, All_sub, All_zip, all_append, and_both, answers_append, clash, final_append, first_none, length_filter, listed, map_reverse, or_neither, test, unless}
pub use Rattle.model.proofs.Lowered.{lower, live_lower}
pub use Rattle.model.proofs.Match.{Match, at_first, match_after, same_answer as match_answer}
pub use Rattle.model.proofs.Named.{issued_allowed, same_after, same_answer}
pub use Rattle.model.proofs.Order.{Brought, Fitting, Ordered, Place, Rises, SizedSlot, access_in_order, access_named, brought, brought_order, brought_sheet, fit_after, fitting, group_step, live_named, live_rows_first_lent, marked_low, next_fits, none_sized, order_after, order_fresh, ordered, parent_in_order_row_fits_parent, place, right_positive, risen, rises, rows_in_order_falling, rows_in_order_wider, sized_after, slots_after_lem, steps}
pub use Rattle.model.proofs.Origins.{later_off, nearest_cell_lem, nearest_on, on_line_lem}
pub use Rattle.model.proofs.Precedence.{first_holds, first_lowest, given_first, given_holds, given_holds_state, rises_from}
pub use Rattle.model.proofs.Rows.{empty_row_empty, lent_live, lent_new, lookup_each, no_ancestry, struck_step}
pub use Rattle.model.proofs.Slots.{InSlot, in_stored}
pub use Rattle.model.proofs.Strikes.{root_has_no_kin}
pub use Rattle.model.proofs.Together.{group_none, name_passed, name_refused}
pub use Rattle.model.proofs.Returned.{passed_on}
