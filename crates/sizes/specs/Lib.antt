pub mod Turns
pub mod Clients
pub mod Report
pub mod Peak
pub mod Names
pub mod Taken
pub mod Rounds
pub mod Order
