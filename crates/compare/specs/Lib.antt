-- What the comparisons tell.
pub mod Facts
