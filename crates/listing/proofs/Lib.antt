pub mod Texts
pub mod Decimal
pub mod Lines
pub mod Loading
pub mod Samples
pub mod Unique
pub mod ShutOut
