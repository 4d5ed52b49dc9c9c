-- What a counted length comes to.
pub mod Fields
