-- What the answer of restoring means, and how a dump is laid out.
pub mod Laying
