-- The structs that the exported calls answer, and how a caller reads them.
pub mod Answers
pub mod Read
