-- What the answers of the calls on word fields mean.
pub mod Meaning
