-- Reclaiming the store: marking, collecting; what the answers mean; what is promised of both; samples.
pub mod Reclaim
pub mod Keeping
pub mod Reclaimed
pub mod Samples
