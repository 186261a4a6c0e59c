-- What the crates above may cite of this one: its definitions in specs/, and these laws.
-- Assumes nothing.
pub use Rattle.sheet.proofs.Laws.ReadsBack.{sheet_reads_back, text_of_sheet}
