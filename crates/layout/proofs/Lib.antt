-- Each promise fixes its answer, and what it shuts out.
pub mod Unique
pub mod ShutOut
