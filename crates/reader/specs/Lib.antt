-- What the code's cursors, answers and readers mean.
pub mod Meaning
pub mod Held
