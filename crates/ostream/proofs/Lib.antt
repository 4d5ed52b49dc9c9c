-- `Places` has the laws of the held ids' places, `Calls` those of a whole call, `AtOnce` those of one that writes
-- at once, `Floats` those of a float field from its bytes, `Buffers` those of opening, drains and buffer changes,
-- `Answers` those of what a writing call answers. The last two are for crates above.
pub mod Places
pub mod Calls
pub mod AtOnce
pub mod Floats
pub mod Buffers
pub mod Answers
