-- What the answers mean, and names for what the loops leave.
pub mod Meaning
pub mod Zeros
pub mod Header
pub mod Accepted
pub mod Splices
pub mod Merging
pub mod Samples
