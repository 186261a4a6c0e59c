-- What the crates above may cite of this one: its definitions in specs/, and these laws.
-- Assumes nothing.
pub use Rattle.text.proofs.Laws.Digits.{decimal_under, decimal_width, digit_at}
unfoldable pub use Rattle.text.proofs.Laws.Digits.{digits}
pub use Rattle.text.proofs.Laws.Form.{InForm, PlainlyGiven, form_in, form_read, form_reads, form_reads_back, form_refused, in_form_lem}
pub use Rattle.text.proofs.Laws.Group.{group_few, names_after_lem}
pub use Rattle.text.proofs.Laws.GroupLine.{group_is_line, group_is_no_event, group_reads_back, read_group_is_spelling, refused_group_is_2}
pub use Rattle.text.proofs.Laws.Line.{part_inside, part_longer, part_some, part_then, parts_end, parts_next, parts_together, through_le}
pub use Rattle.text.proofs.Laws.Masks.{IsDigit, Low, hex_back, hex_digits, hex_low, hex_of_small, length_hex, mask_class, mask_other}
pub use Rattle.text.proofs.Laws.Number.{Stops, digit_class, digit_small, number_of_small}
pub use Rattle.text.proofs.Laws.OneLine.{Ends, header_is_no_event, hex_end, spell_is_line}
pub use Rattle.text.proofs.Laws.OneSpelling.{no_domain_no_line, read_is_spelling, spelling_reads_back}
pub use Rattle.text.proofs.Laws.Put.{put_length, put_next, put_two, sets_first}
pub use Rattle.text.proofs.Laws.Range.{fresh_short, kind_short, right_length}
pub use Rattle.text.proofs.Laws.Read.{same_is, same_refl, same_true}
pub use Rattle.text.proofs.Laws.Requests.{Numbered, WrittenIn, read_request_is_spelling, read_writes_back, refused_request_is_2, refused_request_is_none, request_is_line, request_one_spelling, request_reads_back, request_short, request_written, state_first, state_read, state_second, written_request_reads_back}
pub use Rattle.text.proofs.Laws.State.{Slotted, slotted}
pub use Rattle.text.proofs.Laws.StateLine.{StateLine, back_is_line, back_reads_back, event_is_no_state, group_is_no_state, header_is_no_state, mark_is_line, mark_reads_back, read_state_is_spelling, refused_state_is_2, state_is_no_event, state_is_no_group, state_reads_back}
pub use Rattle.text.proofs.Laws.Terms.{spelled_below, spelled_domain}
pub use Rattle.text.proofs.Laws.Words.{fresh_back, kind_back, kinds, low_decimal, low_no_kind, low_no_mark, marks, next, number_is, plain_decimal, plain_hex, right_back, right_stops, rights}
pub use Rattle.text.proofs.Laws.Write.{Wrote, writes_none, writes_put, wrote, wrote_none}
