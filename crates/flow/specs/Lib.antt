-- Payload bytes that flow from packet to packet, for any shape. Laws about them are in proofs/.
pub mod Digits
pub mod Flowing
pub mod Heads
pub mod Samples
