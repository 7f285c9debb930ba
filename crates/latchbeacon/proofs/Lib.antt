-- Laws for the exported calls, and that their promises are tight.
pub mod Laws
pub mod Unique
pub mod ShutOut
pub mod Worker
pub mod Demand
pub mod Writer
pub mod RealTime
pub mod Restorer
pub mod Banks
pub mod Looker
pub mod Looked
pub mod Asker
pub mod Judged
pub mod Receiver
pub mod Interleaved
