-- What the records and answers of edits mean, and the definitions of the calls on them.
pub mod Growth
pub mod Listed
pub mod Placed
pub mod Meaning
