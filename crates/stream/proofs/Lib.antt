pub mod Laws
pub mod Counting
pub mod Frames
pub mod Writing
pub mod Unique
pub mod ShutOut
pub mod Writer
pub mod RealTime
