-- What the parts of a line fit.
pub mod Fits
