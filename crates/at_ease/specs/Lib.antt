-- What is tested before a write at once, and the write: `AtOnce`.
pub mod AtOnce
