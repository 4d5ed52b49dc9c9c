-- `Went` has the laws of a field that is refused, and of one that goes out.
pub mod Went
