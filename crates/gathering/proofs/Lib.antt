-- `Cases` has each answer by its test, `Sound` that states stay sound, `Sentences` 01's own sentences, `Whole` whole payloads.
pub mod Cases
pub mod Sound
pub mod Sentences
pub mod Whole
