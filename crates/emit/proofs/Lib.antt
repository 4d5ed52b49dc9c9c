-- `Segments` has the laws of a cursor, `Elements` those of a list's elements one after another.
pub mod Segments
pub mod Elements
