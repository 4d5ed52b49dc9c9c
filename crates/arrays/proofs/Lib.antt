-- `Floats` has the law of a float array from its elements' bytes, `Integers` those of an array of integers.
pub mod Floats
pub mod Integers
