pub mod Subtypes
pub mod Numbers
