-- What it is for a message to carry a payload, what is said of the call, and samples.
pub mod Carries
pub mod Steps
pub mod Senders
pub mod Samples
