-- What a call answers, the numbers of the refusals, and what it is for a promise to be tight.
pub mod Answer
pub mod Number
pub mod Meaning
pub mod Tight
