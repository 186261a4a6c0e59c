pub mod Words
pub mod Entries
pub mod Inverse
pub mod Turns
pub mod To
pub mod From
pub mod Examples
