-- `Varints` has the laws of one varint, `Ends` those of an answer taken apart, and of varints in a row, `Left` those of the bytes left.
pub mod Varints
pub mod Ends
pub mod Left
