pub mod Digits
pub mod Puts
pub mod Flowing
pub mod Poured
pub mod Octets
pub mod Ends
