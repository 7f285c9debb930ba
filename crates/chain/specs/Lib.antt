-- The delta chain: the walk along bases, restoring and describing a dump, where the octets of a restored one come from, and what is
-- promised of calls that restore and describe.
pub mod Walk
pub mod Restore
pub mod Origin
pub mod Chained
pub mod Audit
pub mod Samples
pub mod Traces
pub mod Meaning
pub mod Laying
