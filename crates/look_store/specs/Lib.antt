-- One byte of a dump of a store: what it is, samples, what is promised of looking for it, and what its parts mean.
pub mod Byte
pub mod Samples
pub mod Looked
pub mod Looking
