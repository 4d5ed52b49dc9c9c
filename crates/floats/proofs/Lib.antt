-- `Evenly` has the laws of elements of one size, from a place on.
pub mod Evenly
