-- Streams of two ports on one table: the open streams and a step, the table, what answers mean, runs, and what is said of them.
pub mod Streams
pub mod Table
pub mod Meaning
pub mod Steps
pub mod History
pub mod Interleaved
pub mod Samples
