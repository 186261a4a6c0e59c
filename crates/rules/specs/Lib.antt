pub mod Engine
pub mod Steps
pub mod States
pub mod Records
