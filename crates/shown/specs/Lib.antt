-- `Spelled` serves the functions that make a line.
pub mod Spelled
