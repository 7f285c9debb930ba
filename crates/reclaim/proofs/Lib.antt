-- Laws of marking and collecting, and what is promised of the calls.
pub mod Bytes
pub mod Numbers
pub mod Placing
pub mod Walking
pub mod Moves
pub mod Marks
pub mod Kept
pub mod Again
pub mod Reaching
pub mod Staying
pub mod Fewest
pub mod Collects
pub mod Reclaims
pub mod Unique
pub mod ShutOut
pub mod Calls
pub mod Promises
