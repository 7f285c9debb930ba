-- What the answers of this crate mean, what the steps of reading a packet answer, and that 01's readers do these steps.
pub mod Meaning
pub mod Steps
pub mod Reads
