-- The numbers of a shape, as code takes them.
pub mod Format
