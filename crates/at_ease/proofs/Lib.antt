-- The laws of the fast forms, the room, the tests and the writes: `AtOnce`.
pub mod AtOnce
