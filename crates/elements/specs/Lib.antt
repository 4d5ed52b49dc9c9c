-- Where an array's elements go on from a place, and an array's bytes.
pub mod OutAfter
pub mod Rows
