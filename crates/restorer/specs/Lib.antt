-- What program sx8restore reads as a number, and what it writes.
pub mod Argument
pub mod Output
