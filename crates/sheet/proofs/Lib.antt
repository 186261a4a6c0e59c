mod Laws
pub mod Offered
