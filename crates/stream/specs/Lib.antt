-- What the answer of this crate means, and what its steps read.
pub mod Steps
