-- `Spans` has the laws of bytes between two places, `Varints` those of a varint byte by byte.
pub mod Spans
pub mod Varints
