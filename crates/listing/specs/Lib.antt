-- The listing, what the answers of this crate mean, and what its steps write.
pub mod Listing
pub mod Steps
