-- What goes through a copier as it came.
pub mod Ahead
