-- The laws of the held ids' places, passed on to the crates above.
pub use Rattle.places.proofs.Places.{length-zeroed}
