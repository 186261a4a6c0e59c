pub mod Words
pub mod Rule
pub mod Rules
pub mod ReadSheet
pub mod WriteSheet
pub mod Reading
pub mod Writing
