-- What the answers of this crate mean, what the steps of the check answer and the check has shown, and what copying a payload leaves.
pub mod Scan
pub mod Accepted
pub mod Meaning
pub mod Copying
