pub mod Stream
pub mod Private
