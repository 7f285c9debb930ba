-- Packets as numbers, the bytes that wait, and one pass over a payload.
pub mod Thirteens
pub mod Pieces
pub mod Pass
pub mod Samples
