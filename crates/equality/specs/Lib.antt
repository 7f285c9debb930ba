-- What the answer of a comparison says.
pub mod Tells
