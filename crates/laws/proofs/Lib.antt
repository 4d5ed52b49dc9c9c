-- The laws' proofs. `Laws` has the theorems; the others have their lemmas, each on those above it.
pub mod Numbers
pub mod Parser
pub mod Varint
pub mod Longer
pub mod Parts
pub mod Field
pub mod Bytes
pub mod Message
pub mod Copying
pub mod Joining
pub mod Laws
