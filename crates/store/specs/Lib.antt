-- The store of dumps: its records, what may follow what, the dumps that they make; where records stand; what the answers mean.
pub mod Store
pub mod Places
pub mod Meaning
pub mod Samples
