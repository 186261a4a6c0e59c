pub mod Reading
pub mod Adding
pub mod Rules
pub mod Writing
pub mod Vocabulary
pub mod OneSpelling
pub mod ReadsBack
pub mod Examples
