-- Where the bytes of an edited dump come from, and the calls that look at them.
pub mod Pieces
pub mod Look
pub mod Looked
pub mod Meaning
pub mod Samples
