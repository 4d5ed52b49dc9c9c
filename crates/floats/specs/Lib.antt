-- The word of an array of floats.
pub mod Word
