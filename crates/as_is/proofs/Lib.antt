-- The laws that this crate's functions cite.
pub mod Laws
