-- `Rounding` has the laws of a number rounded up.
pub mod Rounding
