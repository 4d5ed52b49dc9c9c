-- `Room` has the laws of a loop that writes elements and meets no end, `Resumed` those of one that goes on from a place and may meet it.
pub mod Room
pub mod Resumed
