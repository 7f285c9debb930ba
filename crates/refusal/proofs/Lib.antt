pub mod Laws
pub mod Tight
pub mod Unique
