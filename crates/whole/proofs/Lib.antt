-- The laws of a field from a place on, and of the fields of a message one after another; `Left` has those of the bytes left after a field, and
-- of what was counted.
pub mod Fields
pub mod Sums
pub mod Left
