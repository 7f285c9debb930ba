-- Laws of the number's digits and of what is written, and that the promise is tight.
pub mod Digits
pub mod Outputs
pub mod Unique
pub mod ShutOut
