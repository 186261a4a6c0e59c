-- What the crates above may cite of this one: its definitions in specs/, and these laws.
-- Assumes nothing.
pub use Rattle.listing.proofs.Laws.Fits.{listing_fits}
pub use Rattle.listing.proofs.Laws.Writing.{Writing, begin, finish, fits, piece}
pub use Rattle.listing.proofs.Laws.SameButRights.{lowered_listing}
