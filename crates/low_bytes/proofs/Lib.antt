-- `Low` has the laws of a number's low bytes, `Stores` that of a part of a buffer written at once.
pub mod Low
pub mod Stores
