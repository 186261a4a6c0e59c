pub mod Form
pub mod Columns
pub mod Lent
pub mod Walk
