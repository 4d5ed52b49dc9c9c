-- A varint's byte, whatever takes the varint: `Takes`.
pub mod Takes
