-- `Writes` has the laws of a write that stops at the buffer's end, `Turns` those of a loop that writes, `Places` those of an output that
-- goes on from a place.
pub mod Writes
pub mod Turns
pub mod Places
